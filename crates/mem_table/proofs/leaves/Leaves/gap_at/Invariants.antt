use Rattle.std.proofs.Common.{◌-◌, ◌≤◌, ◌<◌, length, take}
use Rattle.mem_table.specs.views.Slots.{numbers_in}
use Rattle.mem_table.proofs.leaves.Leaves.gap_at.Given as goal

abbrev pub invariant-loop-leaf : goal.invariant-loop-leaf
invariant-loop-leaf l = record {
  ordered : l.leaf < l.behind;
  within : l.behind ≤ length l.self.leaves.items;
  below : length (numbers_in (take l.leaf l.self.leaves.items)) ≤ l.place;
  above : l.place ≤ length (numbers_in (take l.behind l.self.leaves.items));
}

abbrev pub decreases-loop-leaf : goal.decreases-loop-leaf
decreases-loop-leaf l = l.behind - l.leaf
