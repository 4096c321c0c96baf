-- A resolution of a span is a step of the engine, by what the line says of its transaction.
use Rattle.std.proofs.Common.{◌++◌, refl, ap, ◌∙◌}
use Rattle.std.specs.Option.{option_map}
use Rattle.std.proofs.lemmas.Result.{err_from_is_err_and}
use Rattle.mvcc_key.specs.views.Seen.{time_of}
use Rattle.intent_resolve.specs.views.Seen.{update_of, ranged_of, span_of}
use Rattle.mvcc_engine.specs.Step as engine
use Rattle.mvcc_engine.specs.Step.{step}
use Rattle.mvcc_engine.specs.views.Seen.{refusal_of}
use Rattle.script_line.specs.Grammar as grammar
use Rattle.script_line.specs.Grammar.{ResolveRange}
use Rattle.script_text.specs.Text.{ResolvedRange, show}
use Rattle.script_line.specs.views.SeenLine.{status_of}
use Rattle.script_text.proofs.TextLaws.{Extends-same}
use Rattle.script_run.specs.Output.{ScriptState, resolved_range, update_named}
use Rattle.script_run.specs.views.Told.{told_by}
use Rattle.script_run.proofs.PartLaws.{answers-part}
use Rattle.script_run.proofs.StepLaws.{is_asked, not_asked, refused, taken, lent_span}
use Rattle.script_run.proofs.session.Session.resolve_range.Goals as goal

pub returns-in_err-update : goal.returns-in_err-update
returns-in_err-update c =
    let v : ScriptState = record { engine = c.self.inside.engine; txns = c.self.inside.txns; begun = c.self.inside.begun } in
    let text = c.args.text.now.items in
    let said : grammar.Line = ResolveRange c.args.name.now c.args.start.now c.args.end.now (status_of c.args.status) (option_map time_of c.args.ts) c.args.max in
    let asked = update_named v.txns c.args.name.now (status_of c.args.status) (option_map time_of c.args.ts) in
    let p = err_from_is_err_and c.from_residual.result c.from_residual.ensures.1 in
    rw (p.1, p.2)
    (not_asked text text v c.args.self.now c.self.view_is said asked (λ u. engine.ResolveRange c.args.start.now c.args.end.now u c.args.max) resolved_range refl (told_by c.in_err-update.field-0.0) c.in_err-update.ensures refl)

pub returns-in_err-ranged : goal.returns-in_err-ranged
returns-in_err-ranged c =
    let v : ScriptState = record { engine = c.self.inside.engine; txns = c.self.inside.txns; begun = c.self.inside.begun } in
    let text = c.args.text.now.items in
    let said : grammar.Line = ResolveRange c.args.name.now c.args.start.now c.args.end.now (status_of c.args.status) (option_map time_of c.args.ts) c.args.max in
    let asked = update_named v.txns c.args.name.now (status_of c.args.status) (option_map time_of c.args.ts) in
    let u = update_of c.in_ok-update.update in
    let p = err_from_is_err_and c.from_residual-in_err-ranged.result c.from_residual-in_err-ranged.ensures.1 in
    rw (p.1, p.2)
    (refused text text v c.args.self.now c.self.view_is said resolved_range (step v.engine (engine.ResolveRange c.args.start.now c.args.end.now u c.args.max))
    (is_asked text text v c.args.self.now c.self.view_is said asked (λ u. engine.ResolveRange c.args.start.now c.args.end.now u c.args.max) resolved_range refl u c.in_ok-update.ensures)
    c.resolve_range.new.self (refusal_of c.in_err-ranged.field-0.0) c.in_err-ranged.ensures.1 c.in_err-ranged.ensures.0 refl)

pub returns-in_err-show : goal.returns-in_err-show
returns-in_err-show c =
    let p = err_from_is_err_and c.from_residual-in_err-show.result c.from_residual-in_err-show.ensures.1 in
    rw (p.1, p.2) (Extends-same c.args.text.now.items c.show.new.into.items c.in_err-show.ensures.err)

pub returns : goal.returns
returns c =
    let v : ScriptState = record { engine = c.self.inside.engine; txns = c.self.inside.txns; begun = c.self.inside.begun } in
    let text = c.args.text.now.items in
    let new = c.show.new.into.items in
    let said : grammar.Line = ResolveRange c.args.name.now c.args.start.now c.args.end.now (status_of c.args.status) (option_map time_of c.args.ts) c.args.max in
    let asked = update_named v.txns c.args.name.now (status_of c.args.status) (option_map time_of c.args.ts) in
    let u = update_of c.in_ok-update.update in
    let count = c.in_ok-ranged.ranged.count in
    let rest = option_map span_of c.in_ok-ranged.ranged.resume in
    let is = lent_span c.as_ref.result ∙ ap (option_map span_of) c.as_ref.ensures.value in
    taken text new v c.args.self.now c.self.view_is said resolved_range (step v.engine (engine.ResolveRange c.args.start.now c.args.end.now u c.args.max))
    (is_asked text new v c.args.self.now c.self.view_is said asked (λ u. engine.ResolveRange c.args.start.now c.args.end.now u c.args.max) resolved_range refl u c.in_ok-update.ensures)
    c.resolve_range.new.self (engine.Took (ranged_of c.in_ok-ranged.ranged)) (ResolvedRange count rest) c.in_ok-ranged.ensures refl
    (c.in_ok-show.ensures.ok ∙ ap (λ r. text ++ show (ResolvedRange count r)) is)

pub invariant_of-self-in_err-show : goal.invariant_of-self-in_err-show
invariant_of-self-in_err-show c = answers-part c.self.inside.engine c.resolve_range.new.self _ c.self.invariant c.resolve_range.result (λ ranged. engine.Took (ranged_of ranged)) c.resolve_range.ensures

pub invariant_of-self-2 : goal.invariant_of-self-2
invariant_of-self-2 c = answers-part c.self.inside.engine c.resolve_range.new.self _ c.self.invariant c.resolve_range.result (λ ranged. engine.Took (ranged_of ranged)) c.resolve_range.ensures
