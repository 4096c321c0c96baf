-- A flush is a step of the engine.
use Rattle.std.proofs.Common.{refl}
use Rattle.mvcc_engine.specs.Step as engine
use Rattle.mvcc_engine.specs.Step.{Finished, step}
use Rattle.script_line.specs.Grammar.{Flush}
use Rattle.script_text.specs.Text.{Accepted}
use Rattle.script_run.specs.Output.{ScriptState, finished}
use Rattle.script_run.proofs.PartLaws.{answers_unless_full-part}
use Rattle.script_run.proofs.StepLaws.{taken}
use Rattle.script_run.proofs.session.Session.flush.Goals as goal

pub returns : goal.returns
returns c =
    let v : ScriptState = record { engine = c.self.inside.engine; txns = c.self.inside.txns; begun = c.self.inside.begun } in
    taken c.args.text.now.items c.show.new.into.items v c.args.self.now c.self.view_is Flush finished (step v.engine engine.Flush) refl c.flush.new.self Finished Accepted
    c.in_ok-flush.ensures refl c.in_ok-show.ensures.ok

pub invariant_of-self-in_err-show : goal.invariant_of-self-in_err-show
invariant_of-self-in_err-show c = answers_unless_full-part c.self.inside.engine c.flush.new.self _ c.self.invariant c.flush.result (λ done. Finished) c.flush.ensures

pub invariant_of-self-2 : goal.invariant_of-self-2
invariant_of-self-2 c = answers_unless_full-part c.self.inside.engine c.flush.new.self _ c.self.invariant c.flush.result (λ done. Finished) c.flush.ensures
