-- Leaves one by one.
use Rattle.std.proofs.Common.{◌≡◌, ℕ, zero, suc, ◌<◌, ◌≤◌, List, [], ◌∷◌, length, get_or, sym, subst, arith}
use Rattle.mem_table.specs.views.Slots.{Slots, IsLeaf, least_before, AreLeaves}

-- a leaf has at least one slot
some_before : (ss : List Slots) → 1 ≤ least_before ss
some_before [] = omega arith
some_before (s ∷ ss) = omega arith

-- each leaf has between 1 and 64 slots
pub leaf-at : (leaves : List Slots) (i : ℕ) (d : Slots) → AreLeaves leaves → i < length leaves → IsLeaf 1 (get_or leaves i d)
leaf-at [] i d are within = absurd (omega arith)
leaf-at (s ∷ ss) zero d are within = record { enough = (let e = are.0.enough in let one = some_before ss in omega arith); few = are.0.few; beside = are.0.beside }
leaf-at (s ∷ ss) (suc i) d are within = leaf-at ss i d are.1 (omega arith)

-- so has the one that was read
pub leaf-there : (leaves : List Slots) (i : ℕ) (s : Slots) → AreLeaves leaves → i < length leaves → s ≡ get_or leaves i s → IsLeaf 1 s
leaf-there leaves i s are within is = subst (IsLeaf 1) (sym is) (leaf-at leaves i s are within)
