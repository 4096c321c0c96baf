-- Ageing is a step of the engine.
use Rattle.std.proofs.Common.{refl}
use Rattle.std.proofs.lemmas.Result.{err_from_is_err_and}
use Rattle.mvcc_engine.specs.views.Seen.{refusal_of, as_refusal}
use Rattle.mvcc_engine.specs.Step as engine
use Rattle.mvcc_engine.specs.Step.{Finished, step}
use Rattle.script_line.specs.Grammar.{Age}
use Rattle.script_text.specs.Text.{Accepted}
use Rattle.script_run.specs.Output.{ScriptState, finished}
use Rattle.script_run.proofs.PartLaws.{answers_age-part}
use Rattle.script_run.proofs.StepLaws.{taken, refused}
use Rattle.script_run.proofs.session.Session.age.Goals as goal

pub returns-in_err-age : goal.returns-in_err-age
returns-in_err-age c =
    let v : ScriptState = record { engine = c.self.inside.engine; txns = c.self.inside.txns; begun = c.self.inside.begun } in
    let text = c.args.text.now.items in
    let p = err_from_is_err_and c.from_residual.result c.from_residual.ensures.1 in
    rw (p.1, p.2)
    (refused text text v c.args.self.now c.self.view_is (Age c.args.now) finished (step v.engine (engine.Age c.args.now)) refl c.age.new.self (refusal_of (as_refusal c.in_err-age.field-0.0))
    c.in_err-age.ensures.1 c.in_err-age.ensures.0 refl)

pub returns : goal.returns
returns c =
    let v : ScriptState = record { engine = c.self.inside.engine; txns = c.self.inside.txns; begun = c.self.inside.begun } in
    taken c.args.text.now.items c.show.new.into.items v c.args.self.now c.self.view_is (Age c.args.now) finished (step v.engine (engine.Age c.args.now)) refl c.age.new.self Finished Accepted
    c.in_ok-age.ensures refl c.in_ok-show.ensures.ok

pub invariant_of-self-in_err-show : goal.invariant_of-self-in_err-show
invariant_of-self-in_err-show c = answers_age-part c.self.inside.engine c.age.new.self _ c.self.invariant c.age.result c.age.ensures

pub invariant_of-self-2 : goal.invariant_of-self-2
invariant_of-self-2 c = answers_age-part c.self.inside.engine c.age.new.self _ c.self.invariant c.age.result c.age.ensures
