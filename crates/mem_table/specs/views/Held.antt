-- How contracts see leaves.
use Rattle.std.specs.Prelude.{ℕ, List, length}
use Rattle.mem_table.specs.views.Slots.{Slots}
use Rattle.mem_table.specs.declared.leaves.Leaves.{Leaves}

-- the leaves in order
abbrev pub held : Leaves → List Slots
held l = l.leaves.items

-- how many leaves are spare
abbrev pub spares : Leaves → ℕ
spares l = length l.spare.items
