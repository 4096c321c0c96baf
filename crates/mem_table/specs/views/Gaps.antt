-- Places among leaves.
use Rattle.std.specs.Prelude.{◌≡◌, ℕ, ◌+◌, ◌-◌, ◌<◌, ◌≤◌, List, length, take, slice_index_or, MatchOption}
use Rattle.std.specs.declared.option.Option.{Option}
use Rattle.mem_table.specs.views.Slots.{Slots, no_slots, numbers_in}

-- the leaf with this number
abbrev pub leaf_at : List Slots → ℕ → Slots
leaf_at leaves leaf = slice_index_or leaves leaf no_slots

-- how many slots stand before this one in all leaves
abbrev pub place_of : List Slots → ℕ → ℕ → ℕ
place_of leaves leaf slot = length (numbers_in (take leaf leaves)) + slot

-- a slot of the leaf, or the place behind its last; of no leaves it is the first place
pub record IsGap (leaves : List Slots) (leaf slot : ℕ) : Type 0 where
  pub leaf_within : leaf ≤ length leaves - 1
  pub slot_within : slot ≤ length (leaf_at leaves leaf).numbers

-- a slot of the leaf
pub record IsSlot (leaves : List Slots) (leaf slot : ℕ) : Type 0 where
  pub leaf_within : leaf < length leaves
  pub slot_within : slot < length (leaf_at leaves leaf).numbers

-- the slot at a place of all leaves, or none behind the last
abbrev pub IsAt : List Slots → ℕ → Option (ℕ × ℕ) → Type 0
IsAt leaves place found = MatchOption found (place ≡ length (numbers_in leaves)) (λ at. IsSlot leaves at.0 at.1 × (place_of leaves at.0 at.1 ≡ place))

-- the slot before a place of all leaves, or none before the first
abbrev pub IsBefore : List Slots → ℕ → Option (ℕ × ℕ) → Type 0
IsBefore leaves place found = MatchOption found (place ≡ 0) (λ at. IsSlot leaves at.0 at.1 × (place_of leaves at.0 at.1 + 1 ≡ place))
