-- What points make of stored pairs.
use Rattle.std.specs.Prelude.{ℕ, List, [], ◌∷◌, Option, Some, None}
use Rattle.mvcc_key.specs.Order.{Name, Pair}
use Rattle.mvcc_key.specs.Points.{Point}
use Rattle.intent_meta.specs.PairChanges.{with_pair, without_name}

-- the point that sets a pair
abbrev pub set_point : Pair → Point
set_point p = record { name = p.name; value = Some p.value }

-- the point that clears a name
abbrev pub cleared_point : Name → Point
cleared_point name = record { name = name; value = None }

-- the pairs with what a name is set to, or without one of the name
abbrev pub with_value : Name → Option (List ℕ) → List Pair → List Pair
with_value name (Some value) pairs = with_pair (record { name = name; value = value }) pairs
with_value name None pairs = without_name name pairs

-- the pairs after points of distinct names
abbrev pub with_points : List Point → List Pair → List Pair
with_points [] pairs = pairs
with_points (p ∷ ps) pairs = with_value p.name p.value (with_points ps pairs)
