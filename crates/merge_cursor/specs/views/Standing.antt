-- Where the parts of a merging cursor stand.
use Rattle.std.specs.Prelude.{◌≡◌, ℕ, ◌+◌, ◌<◌, ◌≤◌, Bool, true, false, List, length, take, map, slice_get, All, count_by, Option, Some, None, IsSome}
use Rattle.std.specs.List.{list_any}
use Rattle.std.specs.Option.{option_and_then}
use Rattle.std.specs.Ordering.{is_lt, is_le}
use Rattle.std.proofs.Common.{arith}
use Rattle.std.proofs.lemmas.List.Sums.{count_by-le-length}
use Rattle.mvcc_key.specs.Order.{Name, name_cmp, is_same_name}
use Rattle.mvcc_key.specs.Points.{Point, point_at}
use Rattle.merge_cursor.specs.Merged.{merged}

-- a part: its points, its place, and whether it is a part's cursor
pub record Standing : Type 0 where
  pub points : List Point
  pub place : ℕ
  pub is_part : Bool

-- a part by what its cursor shows
abbrev pub standing : {X : Type 0} → (X → List Point) → (X → ℕ) → (X → Bool) → X → Standing
standing points place is_part x = record { points = points x; place = place x; is_part = is_part x }

-- the parts by what their cursors show
abbrev pub standings : {X : Type 0} → (X → List Point) → (X → ℕ) → (X → Bool) → List X → List Standing
standings points place is_part parts = map (standing points place is_part) parts

-- their points
abbrev pub lists_of : List Standing → List (List Point)
lists_of parts = map (λ s. s.points) parts

-- the point at which a part stands
abbrev pub head : Standing → Option Point
head s = point_at s.points s.place

-- the points at which the parts stand
abbrev pub heads : List Standing → List (Option Point)
heads parts = map head parts

-- the point of a number, where there is one
abbrev pub head_of : List (Option Point) → ℕ → Option Point
head_of points i = option_and_then (λ p. p) (slice_get points i)

-- the point of the part of a number, where it stands at one
abbrev pub point_of_part : List Standing → ℕ → Option Point
point_of_part parts i = head_of (heads parts) i

-- the names that stand behind the place: those below the point, or, on the way back, those up to it. Where there is no point,
-- all on the way on, and none on the way back
abbrev pub cut_of : Bool → Option Point → Name → Bool
cut_of true (Some p) n = is_lt (name_cmp n p.name)
cut_of false (Some p) n = is_le (name_cmp n p.name)
cut_of ahead None n = ahead

-- how many points are behind
abbrev pub count_in : (Name → Bool) → List Point → ℕ
count_in cut points = count_by (λ p. cut p.name) points

-- the place in front of those behind, or at the last of them
abbrev pub place_in : Bool → (Name → Bool) → List Point → ℕ
place_in true cut points = count_in cut points + 1
place_in false cut points = count_in cut points

-- each part stands in front of its points behind, or at the last of them
abbrev pub positioned : Bool → (Name → Bool) → List Standing → List Standing
positioned ahead cut parts = map (λ s. record { points = s.points; place = place_in ahead cut s.points; is_part = s.is_part }) parts

-- a comes before b on this way
abbrev pub precedes : Bool → Name → Name → Bool
precedes true a b = is_lt (name_cmp a b)
precedes false a b = is_lt (name_cmp b a)

-- a point comes before another, or before none
abbrev pub leads : Bool → Option Point → Option Point → Bool
leads ahead None other = false
leads ahead (Some p) None = true
leads ahead (Some p) (Some q) = precedes ahead p.name q.name

-- none comes before that of i, which is the first such, or their number where there is none
pub record IsLeading (ahead : Bool) (points : List (Option Point)) (i : ℕ) : Type 0 where
  pub within : i ≤ length points
  pub some : i < length points → IsSome (head_of points i)
  pub least : (j : ℕ) → leads ahead (head_of points j) (head_of points i) ≡ false
  pub first : (j : ℕ) (p q : Point) → j < i → head_of points j ≡ Some p → head_of points i ≡ Some q → is_same_name p.name q.name ≡ false

-- one of the points has the name
abbrev pub has_name : Name → List Point → Bool
has_name name points = list_any (λ p. is_same_name p.name name) points

-- each part stands where the current one's point has it stand, and no newer part has that point's name
pub record IsAligned (ahead : Bool) (parts : List Standing) (current : ℕ) : Type 0 where
  pub within : current ≤ length parts
  pub some : current < length parts → IsSome (head_of (heads parts) current)
  pub each : parts ≡ positioned ahead (cut_of ahead (head_of (heads parts) current)) parts
  pub newest : (p : Point) → head_of (heads parts) current ≡ Some p → All (λ s. has_name p.name s.points ≡ false) (take current parts)

-- the place among the merged points
abbrev pub merged_place : Bool → List Standing → ℕ → ℕ
merged_place ahead parts current = place_in ahead (cut_of ahead (head_of (heads parts) current)) (merged (lists_of parts))

-- it is among them, before the first or past the last
pub place_in-le : (ahead : Bool) (cut : Name → Bool) (points : List Point) → place_in ahead cut points ≤ length points + 1
place_in-le true cut points = omega (arith, count_by-le-length (λ (p : Point). cut p.name) points)
place_in-le false cut points = omega (arith, count_by-le-length (λ (p : Point). cut p.name) points)
