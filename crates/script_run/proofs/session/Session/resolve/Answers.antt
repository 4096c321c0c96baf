-- A resolution is a step of the engine, by what the line says of its transaction.
use Rattle.std.proofs.Common.{refl}
use Rattle.std.specs.Option.{option_map}
use Rattle.std.proofs.lemmas.Result.{err_from_is_err_and}
use Rattle.mvcc_key.specs.views.Seen.{time_of}
use Rattle.intent_resolve.specs.views.Seen.{update_of}
use Rattle.mvcc_engine.specs.Step as engine
use Rattle.mvcc_engine.specs.Step.{step}
use Rattle.mvcc_engine.specs.views.Seen.{refusal_of}
use Rattle.script_line.specs.Grammar as grammar
use Rattle.script_line.specs.Grammar.{Resolve}
use Rattle.script_text.specs.Text.{Resolved}
use Rattle.script_line.specs.views.SeenLine.{status_of}
use Rattle.script_run.specs.Output.{ScriptState, resolved, update_named}
use Rattle.script_run.specs.views.Told.{told_by}
use Rattle.script_run.proofs.PartLaws.{answers-part}
use Rattle.script_run.proofs.StepLaws.{is_asked, not_asked, refused, taken}
use Rattle.script_run.proofs.session.Session.resolve.Goals as goal

pub returns-in_err-update : goal.returns-in_err-update
returns-in_err-update g c =
    let v : ScriptState = record { engine = c.self.inside.engine; txns = c.self.inside.txns; begun = c.self.inside.begun } in
    let text = c.args.text.now.items in
    let said : grammar.Line = Resolve c.args.name.now c.args.key.now (status_of c.args.status) (option_map time_of c.args.ts) in
    let asked = update_named v.txns c.args.name.now (status_of c.args.status) (option_map time_of c.args.ts) in
    let p = err_from_is_err_and c.from_residual.result c.from_residual.ensures.1 in
    rw (p.1, p.2)
    (not_asked text text v c.args.self.now c.self.view_is said asked (λ u. engine.Resolve c.args.key.now u) resolved refl (told_by c.in_err-update.field-0.0) c.in_err-update.ensures refl)

pub returns-in_err-found : goal.returns-in_err-found
returns-in_err-found g c =
    let v : ScriptState = record { engine = c.self.inside.engine; txns = c.self.inside.txns; begun = c.self.inside.begun } in
    let text = c.args.text.now.items in
    let said : grammar.Line = Resolve c.args.name.now c.args.key.now (status_of c.args.status) (option_map time_of c.args.ts) in
    let asked = update_named v.txns c.args.name.now (status_of c.args.status) (option_map time_of c.args.ts) in
    let u = update_of c.in_ok-update.update in
    let p = err_from_is_err_and c.from_residual-in_err-found.result c.from_residual-in_err-found.ensures.1 in
    rw (p.1, p.2)
    (refused text text v c.args.self.now c.self.view_is said resolved (step v.engine (engine.Resolve c.args.key.now u))
    (is_asked text text v c.args.self.now c.self.view_is said asked (λ u. engine.Resolve c.args.key.now u) resolved refl u c.in_ok-update.ensures)
    c.resolve.new.self (refusal_of c.in_err-found.field-0.0) c.in_err-found.ensures.answers.1 c.in_err-found.ensures.answers.0 refl)

pub returns : goal.returns
returns g c =
    let v : ScriptState = record { engine = c.self.inside.engine; txns = c.self.inside.txns; begun = c.self.inside.begun } in
    let text = c.args.text.now.items in
    let new = c.show.new.into.items in
    let said : grammar.Line = Resolve c.args.name.now c.args.key.now (status_of c.args.status) (option_map time_of c.args.ts) in
    let asked = update_named v.txns c.args.name.now (status_of c.args.status) (option_map time_of c.args.ts) in
    let u = update_of c.in_ok-update.update in
    taken text new v c.args.self.now c.self.view_is said resolved (step v.engine (engine.Resolve c.args.key.now u))
    (is_asked text new v c.args.self.now c.self.view_is said asked (λ u. engine.Resolve c.args.key.now u) resolved refl u c.in_ok-update.ensures)
    c.resolve.new.self (engine.WasFound c.in_ok-found.found) (Resolved c.in_ok-found.found) c.in_ok-found.ensures.answers refl c.in_ok-show.ensures.ok

pub invariant_of-self-in_err-show : goal.invariant_of-self-in_err-show
invariant_of-self-in_err-show g c = answers-part c.self.inside.engine c.resolve.new.self _ c.self.invariant c.resolve.result (λ found. engine.WasFound found) c.resolve.ensures.answers

pub invariant_of-self-2 : goal.invariant_of-self-2
invariant_of-self-2 g c = answers-part c.self.inside.engine c.resolve.new.self _ c.self.invariant c.resolve.result (λ found. engine.WasFound found) c.resolve.ensures.answers
