use Rattle.std.proofs.Common.{◌≡◌, ◌-◌, ◌≤◌}
use Rattle.mem_table.specs.views.Held.{held, spares}
use Rattle.mem_table.proofs.leaves.Leaves.reserve.Given as goal

abbrev pub invariant-loop-self : goal.invariant-loop-self
invariant-loop-self l = record { held_is : held l.self ≡ held l.initial.self; kept : spares l.initial.self ≤ spares l.self }

abbrev pub decreases-loop-self : goal.decreases-loop-self
decreases-loop-self l = l.more - spares l.self
