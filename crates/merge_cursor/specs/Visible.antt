-- The points that are set, and a place among them.
use Rattle.std.specs.Prelude.{ℕ, ◌+◌, ◌<◌, ◌≤◌, Bool, true, false, List, [], ◌∷◌, length, take, filter, is_some, IsSome, nat_lt, if◌then◌else◌}
use Rattle.std.proofs.Common.{arith, cond, zero, suc}
use Rattle.mvcc_key.specs.Points.{Point, value_at}

-- the points that are set
abbrev pub visible : List Point → List Point
visible points = filter (λ p. is_some p.value) points

-- the place among them of a place among all
abbrev pub visible_place : List Point → ℕ → ℕ
visible_place points place = if nat_lt (length points) place then length (visible points) + 1 else length (visible (take place points))

-- no cleared point stands at the place
abbrev pub StandsVisible : List Point → ℕ → Type 0
StandsVisible points place = 0 < place → place ≤ length points → IsSome (value_at points place)

-- it is among them, before the first or past the last
pub visible_place-le : (points : List Point) (place : ℕ) → visible_place points place ≤ length (visible points) + 1
visible_place-le points place = by (nat_lt (length points) place)
  where
    less : (ps : List Point) (n : ℕ) → length (visible (take n ps)) ≤ length (visible ps)
    less [] zero = omega arith
    less [] (suc n) = omega arith
    less (p ∷ ps) zero = omega arith
    less (p ∷ ps) (suc n) = also (is_some p.value) (less ps n)
      where
        also : (b : Bool) → length (visible (take n ps)) ≤ length (visible ps) → length (cond b (p ∷ visible (take n ps)) (visible (take n ps))) ≤ length (cond b (p ∷ visible ps) (visible ps))
        also true le = omega arith
        also false le = le

    by : (b : Bool) → cond b (length (visible points) + 1) (length (visible (take place points))) ≤ length (visible points) + 1
    by true = omega arith
    by false = (let le = less points place in omega arith)
