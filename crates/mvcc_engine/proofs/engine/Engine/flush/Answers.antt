-- A flush moves what the parts name, and nothing that is shown.
use Rattle.mvcc_engine.proofs.StepLaws.{flush-answers}
use Rattle.mvcc_engine.proofs.engine.Engine.flush.Goals as goal

pub returns : goal.returns
returns c = flush-answers c.self.inside.store c.flush.new.self c.self.inside.stats c.args.self.now c.self.view_is c.flush.result c.flush.ensures.shown c.flush.ensures.fragments c.flush.ensures.parts c.flush.ensures.err
