-- A get is a read of the engine.
use Rattle.std.proofs.Common.{◌≡◌, ◌++◌, refl, sym, ap, ◌∙◌, Ok}
use Rattle.std.specs.Option.{option_map}
use Rattle.std.proofs.lemmas.Result.{err_from_is_err_and}
use Rattle.mvcc_key.specs.views.Seen.{time_of}
use Rattle.mvcc_value.specs.views.Seen.{found_of}
use Rattle.mvcc_engine.specs.Step as engine
use Rattle.mvcc_engine.specs.Step.{step}
use Rattle.mvcc_engine.specs.views.Seen.{refusal_of}
use Rattle.script_line.specs.Grammar.{Get}
use Rattle.script_text.specs.Text.{Got, show}
use Rattle.script_text.specs.views.Seen.{answer_of}
use Rattle.script_text.proofs.TextLaws.{Extends-same}
use Rattle.script_run.specs.Output.{ScriptState, got}
use Rattle.script_run.proofs.StepLaws.{taken, refused, lent}
use Rattle.script_run.proofs.session.Session.get.Goals as goal

pub returns-in_err-found : goal.returns-in_err-found
returns-in_err-found c =
    let v : ScriptState = record { engine = c.self.inside.engine; txns = c.self.inside.txns; begun = c.self.inside.begun } in
    let text = c.args.text.now.items in
    let key = c.args.key.now in
    let ts = time_of c.args.ts in
    let p = err_from_is_err_and c.from_residual.result c.from_residual.ensures.1 in
    rw (p.1, p.2)
    (refused text text v c.args.self.now c.self.view_is (Get key ts) (got key) (step v.engine (engine.Get key ts)) refl
    c.get_buffered.new.self (refusal_of c.in_err-found.field-0.0) c.in_err-found.ensures.answers c.in_err-found.ensures.same refl)

pub returns-in_err-show : goal.returns-in_err-show
returns-in_err-show c =
    let p = err_from_is_err_and c.from_residual-in_err-show.result c.from_residual-in_err-show.ensures.1 in
    rw (p.1, p.2) (Extends-same c.args.text.now.items c.show.new.into.items c.in_err-show.ensures.err)

pub returns : goal.returns
returns c =
    let v : ScriptState = record { engine = c.self.inside.engine; txns = c.self.inside.txns; begun = c.self.inside.begun } in
    let key = c.args.key.now in
    let ts = time_of c.args.ts in
    let found = option_map found_of c.in_ok-found.found in
    let is : answer_of c.of_read.result ≡ Got key found =
    c.of_read.ensures ∙ ap (Got key) (lent c.as_ref.result ∙ ap (option_map found_of) c.as_ref.ensures.value) in
    taken c.args.text.now.items c.show.new.into.items v c.args.self.now c.self.view_is (Get key ts) (got key) (step v.engine (engine.Get key ts)) refl
    c.get_buffered.new.self (engine.Got found) (Got key found)
    (c.in_ok-found.ensures.answers ∙ ap (λ e. Ok (record { state = e; reply = engine.Got found })) (sym c.in_ok-found.ensures.same)) refl
    (c.in_ok-show.ensures.ok ∙ ap (λ a. c.args.text.now.items ++ show a) is)
