-- A list of points in the order of their names, and a place in it: 0 before the first point, n at the nth, and one more than
-- their number past the last.
use Rattle.std.specs.Prelude.{◌≡◌, ℕ, ◌-◌, ◌<◌, Bool, true, List, slice_get, count_by, Option, Some, None, ◌==◌, if◌then◌else◌}
use Rattle.std.specs.Option.{option_map, option_and_then}
use Rattle.std.specs.declared.cmp.Ordering.{Ordering}
use Rattle.std.specs.declared.cmp.Ordering.TheVariants.{Less}
use Rattle.std.specs.Ordering.{is_lt, on}
use Rattle.mvcc_key.specs.Order.{is_in_range, Name, name_cmp}
use Rattle.mvcc_key.specs.KeyFormat.{encoded_name}

-- a name with the bytes that are set under it, or with none where it is cleared
pub record Point : Type 0 where
  pub name : Name
  pub value : Option (List ℕ)

-- by name
abbrev pub point_cmp : Point → Point → Ordering
point_cmp = on (λ p. p.name) name_cmp

-- each name is below each later one
abbrev pub IsRisingBy : {X : Type 0} → (X → Name) → List X → Type 0
IsRisingBy {X} name xs = (i j : ℕ) (x y : X) → i < j → slice_get xs i ≡ Some x → slice_get xs j ≡ Some y → name_cmp (name x) (name y) ≡ Less

-- the points rise strictly in the order of names
abbrev pub IsRising : List Point → Type 0
IsRising points = IsRisingBy (λ p. p.name) points

-- each name has an encoding: its timestamp is in range
abbrev pub AreEncodable : List Point → Type 0
AreEncodable points = (i : ℕ) (p : Point) → slice_get points i ≡ Some p → is_in_range p.name.ts ≡ true

-- the point at the place, where there is one
abbrev pub point_at : List Point → ℕ → Option Point
point_at points place = if place == 0 then None else slice_get points (place - 1)

-- the encoded key at the place, where there is one
abbrev pub key_at : List Point → ℕ → Option (List ℕ)
key_at points place = option_map (λ p. encoded_name p.name) (point_at points place)

-- the value at the place, where there is one
abbrev pub value_at : List Point → ℕ → Option (List ℕ)
value_at points place = option_and_then (λ p. p.value) (point_at points place)

-- the point is below the name
abbrev pub is_below_name : Name → Point → Bool
is_below_name name p = is_lt (name_cmp p.name name)

-- how many points are below the name
unfoldable pub count_below : Name → List Point → ℕ
count_below name points = count_by (is_below_name name) points
