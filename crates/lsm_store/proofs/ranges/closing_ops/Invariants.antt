use Rattle.std.proofs.Common.{◌≡◌, length}
use Rattle.std.specs.List.{AllByRecursion}
use Rattle.range_key.specs.RangeOps.{HasParts, operations_of}
use Rattle.lsm_store.specs.Shown.{fragments_in, fragments_over}
use Rattle.lsm_store.proofs.StorableLaws.{is_short, is_timed}
use Rattle.lsm_store.proofs.ranges.closing_ops.Given as goal

abbrev pub invariant-loop-run : goal.invariant-loop-run
invariant-loop-run l = record {
  next : fragments_in l.runs ≡ fragments_over l.fragments.next l.rest;
  parts : AllByRecursion (HasParts is_short is_timed) (operations_of l.fragments.next);
}

abbrev pub decreases-loop-run : goal.decreases-loop-run
decreases-loop-run l = length l.rest
