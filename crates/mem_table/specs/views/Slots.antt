-- What contracts see of leaves.
use Rattle.std.specs.Prelude.{◌≡◌, ℕ, zero, suc, ◌+◌, ◌<◌, ◌≤◌, List, [], ◌∷◌, length, map, take, drop, insert, flat_map, slice_index_or, All}
use Rattle.std.specs.List.{AllByRecursion}
use Rattle.mvcc_key.specs.Points.{Point, IsRising}
use Rattle.mem_table.specs.views.Entries.{abbreviated_at, numbered}
use native.Mathlib.Nat.{ℕ_set}
use native.Mathlib.Bridge.{le_prop}
use mathlib.Core.HLevel.{×_prop, Unit-prop}

-- numbers of entries, and beside each the entry's abbreviated key
pub record Slots : Type 0 where
  pub abbreviated_keys : List ℕ
  pub numbers : List ℕ

-- a leaf with nothing in it
abbrev pub no_slots : Slots
no_slots = record { abbreviated_keys = []; numbers = [] }

-- nothing is in it
abbrev pub IsEmptyLeaf : Slots → Type 0
IsEmptyLeaf s = (s.abbreviated_keys ≡ []) × (s.numbers ≡ [])

-- how many slots a leaf has at most, and all leaves but the last have at least
abbrev pub most : ℕ
most = 64

abbrev pub half : ℕ
half = 32

-- its first abbreviated key, and its first number
abbrev pub first_abbreviated : Slots → ℕ
first_abbreviated s = slice_index_or s.abbreviated_keys 0 0

abbrev pub first_number : Slots → ℕ
first_number s = slice_index_or s.numbers 0 0

-- one more number with its abbreviated key at a slot
abbrev pub with_slot : Slots → ℕ → ℕ → ℕ → Slots
with_slot s slot abbreviated number = record { abbreviated_keys = insert s.abbreviated_keys slot abbreviated; numbers = insert s.numbers slot number }

-- the two halves of a full leaf
abbrev pub lower_half : Slots → Slots
lower_half s = record { abbreviated_keys = take half s.abbreviated_keys; numbers = take half s.numbers }

abbrev pub upper_half : Slots → Slots
upper_half s = record { abbreviated_keys = drop half s.abbreviated_keys; numbers = drop half s.numbers }

-- the leaves with one of them split into its halves
abbrev pub split_leaf : List Slots → ℕ → List Slots
split_leaf [] leaf = []
split_leaf (s ∷ ss) zero = lower_half s ∷ upper_half s ∷ ss
split_leaf (s ∷ ss) (suc leaf) = s ∷ split_leaf ss leaf

-- it has so many slots, and no more than a leaf may
pub record IsLeaf (least : ℕ) (s : Slots) : Type 0 where
  pub enough : least ≤ length s.numbers
  pub few : length s.numbers ≤ most
  pub beside : length s.abbreviated_keys ≡ length s.numbers

-- how many slots a leaf has at least that stands before these
abbrev pub least_before : List Slots → ℕ
least_before [] = 1
least_before (s ∷ ss) = half

-- each leaf has enough slots, and no more than it may
abbrev pub AreLeaves : List Slots → Type 0
AreLeaves [] = Unit {0}
AreLeaves (s ∷ ss) = IsLeaf (least_before ss) s × AreLeaves ss

IsLeaf-prop : (least : ℕ) (s : Slots) → IsProp (IsLeaf least s)
IsLeaf-prop least s x y = λ i. record {
  enough = le_prop x.enough y.enough i;
  few = le_prop x.few y.few i;
  beside = ℕ_set _ _ x.beside y.beside i;
}

-- of that there is one proof at most
pub AreLeaves-prop : (leaves : List Slots) → IsProp (AreLeaves leaves)
AreLeaves-prop [] = Unit-prop
AreLeaves-prop (s ∷ ss) = ×_prop (IsLeaf-prop (least_before ss) s) (AreLeaves-prop ss)

-- the numbers in all leaves, in order
abbrev pub numbers_in : List Slots → List ℕ
numbers_in leaves = flat_map (λ s. s.numbers) leaves

-- how many slots stand before each leaf, with so many before the first
abbrev pub starts_from : ℕ → List Slots → List ℕ
starts_from n [] = []
starts_from n (s ∷ ss) = n ∷ starts_from (n + length s.numbers) ss

-- the abbreviated keys in all leaves are those of the entries
abbrev pub HaveAbbreviatedKeys : List Point → List Slots → Type 0
HaveAbbreviatedKeys points leaves = AllByRecursion (λ s. s.abbreviated_keys ≡ map (abbreviated_at points) s.numbers) leaves

-- the abbreviated keys of each leaf, and those of its entries
abbrev pub keys_in : List Slots → List (List ℕ)
keys_in leaves = map (λ s. s.abbreviated_keys) leaves

abbrev pub keys_of : List Point → List Slots → List (List ℕ)
keys_of points leaves = map (λ s. map (abbreviated_at points) s.numbers) leaves

-- each number is that of an entry, the abbreviated keys are those of the entries, and the names rise
pub record IsIndexed (points : List Point) (leaves : List Slots) : Type 0 where
  pub known : All (λ number. number < length points) (numbers_in leaves)
  pub abbreviated_keys : HaveAbbreviatedKeys points leaves
  pub rising : IsRising (numbered points (numbers_in leaves))
