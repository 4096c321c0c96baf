-- A get by the engine's buffer is a read of its key.
use Rattle.std.specs.Option.{option_map}
use Rattle.std.proofs.Common.{subst}
use Rattle.mvcc_key.specs.views.Seen.{time_of}
use Rattle.mvcc_value.specs.views.Seen.{found_of}
use Rattle.mvcc_engine.specs.Step.{Get, Got, step}
use Rattle.mvcc_engine.specs.views.Seen.{AnswersRead}
use Rattle.mvcc_engine.specs.views.Sound.{state_of}
use Rattle.mvcc_engine.proofs.ReadLaws.{get-steps}
use Rattle.mvcc_engine.proofs.engine.Engine.get_buffered.Goals as goal

pub returns-clause-answers : goal.returns-clause-answers
returns-clause-answers c =
    subst (λ s. AnswersRead c.get.result (λ found. Got (option_map found_of found)) s (step s (Get c.args.key.now (time_of c.args.ts)))) c.self.view_is
    (get-steps c.get.result (state_of c.self.inside.store c.self.inside.stats) c.args.key.now (time_of c.args.ts) c.get.ensures)
