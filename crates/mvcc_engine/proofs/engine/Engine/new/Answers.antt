-- Nothing is stored, and nothing is counted.
use Rattle.mvcc_engine.proofs.NothingLaws.{sound-nothing, nothing-is}
use Rattle.mvcc_engine.proofs.engine.Engine.new.Goals as goal

pub invariant_of-result : goal.invariant_of-result
invariant_of-result c = rw (c.new.ensures, c.new-2.ensures) (sound-nothing c.args.count_max)

pub returns : goal.returns
returns c = rw (c.new.ensures, c.new-2.ensures) (nothing-is c.args.count_max)
