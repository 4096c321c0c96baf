-- A compaction moves what the parts name, and nothing that is shown.
use Rattle.mvcc_engine.proofs.StepLaws.{compact-answers}
use Rattle.mvcc_engine.proofs.engine.Engine.compact.Goals as goal

pub returns : goal.returns
returns c = compact-answers c.self.inside.store c.compact.new.self c.self.inside.stats c.args.self.now c.self.view_is c.args.keep c.compact.result c.compact.ensures.shown c.compact.ensures.fragments c.compact.ensures.parts c.compact.ensures.err
