use Rattle.std.proofs.Common.{◌≡◌, take}
use Rattle.mvcc_key.specs.views.SeenRange.{range_ops_of}
use Rattle.range_key.specs.RangeOps.{fragments_after}
use Rattle.lsm_store.proofs.ranges.stage_ops.Given as goal

abbrev pub invariant-loop-op : goal.invariant-loop-op
invariant-loop-op l = record {
  fragments : l.fragments.fragments ≡ l.initial.fragments.fragments;
  next : l.fragments.next ≡ fragments_after l.initial.fragments.next (range_ops_of (take l.op-index l.ops));
}
