-- What stands under names, in the order in which the names came.
use Rattle.std.specs.Prelude.{ℕ, Bool, not, List, [], ◌∷◌, filter, find, Option, bytes_eq, if◌then◌else◌}
use Rattle.std.specs.Option.{option_map}

-- a name of the script, with what it stands for
pub record Named (A : Type 0) : Type 0 where
  pub name : List ℕ
  pub item : A

module _ {A : Type 0} where
  -- it has this name
  abbrev pub is_named : List ℕ → Named A → Bool
  is_named name n = bytes_eq name n.name

  -- what stands under the name
  abbrev pub look_up : List ℕ → List (Named A) → Option A
  look_up name table = option_map (λ n. n.item) (find (is_named name) table)

  -- a name that is there keeps its place, and a new one goes last
  abbrev pub keep : List ℕ → A → List (Named A) → List (Named A)
  keep name x [] = record { name = name; item = x } ∷ []
  keep name x (n ∷ ns) = if is_named name n then record n { item = x } ∷ ns else n ∷ keep name x ns

  -- the table without the name
  abbrev pub drop_name : List ℕ → List (Named A) → List (Named A)
  drop_name name = filter (λ n. not (is_named name n))
