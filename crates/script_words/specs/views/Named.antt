-- What words say by their names, each at a place of its own.
use Rattle.std.specs.Prelude.{◌≡◌, ℕ, Bool, true, false, ◌&&◌, not, List, [], ◌∷◌, ◌++◌, map, Option, bytes_eq}
use Rattle.std.specs.List.{list_any}
use Rattle.script_words.specs.Words.{Word, are_only, has, value_of}

-- no two of the names are the same
abbrev pub are_apart : List (List ℕ) → Bool
are_apart [] = true
are_apart (n ∷ ns) = not (list_any (bytes_eq n) ns) && are_apart ns

-- the words are of these names and flags, each at most once; the values of the names, and whether each flag stands
pub record IsNamed (names flags : List (List ℕ)) (ws : List Word) (values : List (Option (List ℕ))) (given : List Bool) : Type 0 where
  pub only : are_only names flags ws ≡ true
  pub are : values ≡ map (λ n. value_of n ws) names
  pub stand : given ≡ map (λ n. has n ws) flags

-- a word that is taken comes to those before it; where one is not, no line that begins so is of these names and flags
abbrev pub Takes : Bool → List (List ℕ) → List (List ℕ) → List Word → Word → List (Option (List ℕ)) → List Bool → Type 0
Takes true names flags ws w values given = IsNamed names flags (ws ++ w ∷ []) values given
Takes false names flags ws w values given = (rest : List Word) → are_only names flags (ws ++ w ∷ rest) ≡ false
