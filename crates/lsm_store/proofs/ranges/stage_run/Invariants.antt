use Rattle.std.proofs.Common.{◌≡◌, take}
use Rattle.range_key.specs.RangeOps.{fragments_after}
use Rattle.lsm_store.proofs.ranges.stage_run.Given as goal

abbrev pub invariant-loop-index : goal.invariant-loop-index
invariant-loop-index l = record {
  fragments : l.fragments.fragments ≡ l.initial.fragments.fragments;
  next : l.fragments.next ≡ fragments_after l.initial.fragments.next (take l.index l.run.ranges);
}
