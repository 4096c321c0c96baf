use Rattle.std.proofs.Common.{◌-◌, ◌+◌, ◌≤◌, ◌<◌, ◌⊎◌, length}
use Rattle.mvcc_key.specs.Encoded.{name_in}
use Rattle.mvcc_key.specs.views.Looks.{bits}
use Rattle.mvcc_key.proofs.PointLaws.{IsNarrowed}
use Rattle.mvcc_key.proofs.pairs.pairs_below.Given as goal

abbrev pub invariant-loop-low : goal.invariant-loop-low
invariant-loop-low g l = record {
  narrowed : IsNarrowed (name_in l.sought) (g.P.SortedPairs.points l.pairs) l.low l.high;
  bound : l.looks + bits (l.high - l.low) ≤ l.initial.looks + bits (length (g.P.SortedPairs.points l.pairs));
  later : l.initial.looks ≤ l.looks;
  some : (l.low < l.high) ⊎ (0 < length (g.P.SortedPairs.points l.pairs) → l.initial.looks < l.looks);
}

abbrev pub decreases-loop-low : goal.decreases-loop-low
decreases-loop-low g l = l.high - l.low
