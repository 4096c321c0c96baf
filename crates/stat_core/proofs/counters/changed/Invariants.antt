use Rattle.std.proofs.Common.{◌≡◌, ◌<◌, ◌≤◌, ℕ, pos, length, get_or}
use Rattle.stat_core.proofs.CounterLaws.{changed_at}
use Rattle.stat_core.proofs.counters.changed.Given as goal

abbrev pub invariant-loop-place : goal.invariant-loop-place
invariant-loop-place l = record {
  long : length l.next ≡ 14;
  same : (k : ℕ) → k < l.place → pos (get_or l.next k 0) ≡ changed_at l.counts l.gained l.numbers l.sign k;
  low : (k : ℕ) → k < l.place → get_or l.next k 0 ≤ l.bound;
}
