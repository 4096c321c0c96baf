use Rattle.std.proofs.Common.{◌≡◌, ◌++◌}
use Rattle.key_top.proofs.gathering.append_points.Given as goal

abbrev pub invariant-loop-op : goal.invariant-loop-op
invariant-loop-op l = record {
  points : l.batch.points ≡ l.fn.batch.points ++ l.yielded;
  ranges : l.batch.ranges ≡ l.fn.batch.ranges;
}
