use Rattle.mvcc_key.specs.views.SeenPoint.{points_of}
use Rattle.run_block.proofs.AddingLaws.{IsAdding}
use Rattle.run_block.proofs.building.put_points.Given as goal

abbrev pub invariant-loop-op : goal.invariant-loop-op
invariant-loop-op l = IsAdding (points_of l.points) l.op-index l.fn.out.items l.out.items l.index
