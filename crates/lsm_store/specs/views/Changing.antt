-- Which operations change what is seen.
use Rattle.std.specs.Prelude.{ℕ, Bool, true, false, not, List, Option, Some, None, bytes_eq}
use Rattle.std.specs.Option.{option_and_then}
use Rattle.mvcc_key.specs.Points.{Point}
use Rattle.mem_table.specs.Table.{state_of}

-- the same bytes, or none on both sides
abbrev pub is_same_value : Option (List ℕ) → Option (List ℕ) → Bool
is_same_value None None = true
is_same_value None (Some b) = false
is_same_value (Some a) None = false
is_same_value (Some a) (Some b) = bytes_eq a b

-- the value is another one than that of a state, or it is set where nothing is known
abbrev pub is_change : Option (List ℕ) → Option Point → Bool
is_change value state = not (is_same_value value (option_and_then (λ p. p.value) state))

-- the point says something else of its name than the points do
abbrev pub changes_points : List Point → Point → Bool
changes_points points p = is_change p.value (state_of p.name points)
