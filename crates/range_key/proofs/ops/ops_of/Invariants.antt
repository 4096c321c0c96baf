use Rattle.std.proofs.Common.{◌≡◌, take}
use Rattle.range_key.specs.RangeOps.{operations_of}
use Rattle.mvcc_key.specs.views.SeenRange.{range_ops_of}
use Rattle.range_key.proofs.ops.ops_of.Given as goal

abbrev pub invariant-loop-fragment : goal.invariant-loop-fragment
invariant-loop-fragment l = range_ops_of l.ops.items ≡ operations_of (take l.fragment-index l.fragments)
