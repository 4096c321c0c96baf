use Rattle.std.proofs.Common.{◌≡◌, take}
use Rattle.mvcc_key.specs.Fragments.{fragments}
use Rattle.range_key.specs.RangeOps.{tombstones_after}
use Rattle.mvcc_key.specs.views.SeenRange.{range_ops_of}
use Rattle.range_key.proofs.list.FragmentList.of_ops.Given as goal

abbrev pub invariant-loop-op : goal.invariant-loop-op
invariant-loop-op l = l.list ≡ fragments (tombstones_after (range_ops_of (take l.op-index l.ops)))
