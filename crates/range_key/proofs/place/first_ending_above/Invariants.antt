use Rattle.std.proofs.Common.{◌-◌, ◌+◌, ◌≤◌, length, take, drop}
use Rattle.mvcc_key.specs.views.Looks.{bits}
use Rattle.mvcc_key.specs.Pieces.{EndBy}
use Rattle.range_key.specs.views.Places.{EndsAbove}
use Rattle.range_key.proofs.place.first_ending_above.Given as goal

abbrev pub invariant-loop-low : goal.invariant-loop-low
invariant-loop-low g l = record {
  ordered : l.low ≤ l.high;
  within : l.high ≤ length l.fragments;
  before : EndBy l.key (take l.low l.fragments);
  from : EndsAbove l.key (drop l.high l.fragments);
  later : l.initial.looks ≤ l.looks;
  cost : l.looks + bits (l.high - l.low) ≤ l.initial.looks + bits (length l.fragments);
}

abbrev pub decreases-loop-low : goal.decreases-loop-low
decreases-loop-low g l = l.high - l.low
