use Rattle.mvcc_key.specs.views.SeenRange.{range_ops_of}
use Rattle.run_block.proofs.AddingLaws.{IsAddingRanges}
use Rattle.run_block.proofs.building.put_ranges.Given as goal

abbrev pub invariant-loop-op : goal.invariant-loop-op
invariant-loop-op l = IsAddingRanges (range_ops_of l.ranges) l.op-index l.fn.out.items l.out.items l.fn.index l.index
