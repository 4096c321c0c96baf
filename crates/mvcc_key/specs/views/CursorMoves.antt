-- What a move makes of a cursor: of the pairs that it shows, of its place among them, and of the looks that were taken.
use Rattle.std.specs.Prelude.{◌≡◌, ℕ, ◌+◌, ◌-◌, ◌<◌, ◌≤◌, Bool, IsTrue, List, length, min}
use Rattle.mvcc_key.specs.Encoded.{name_in}
use Rattle.mvcc_key.specs.Points.{Point, count_below}
use Rattle.mvcc_key.specs.views.Looks.{bits}

-- it shows the pairs that it showed, and stands at this place of them
pub record ComesTo {X : Type 0} (points : X → List Point) (at : X → ℕ) (is_part : X → Bool) (to : ℕ) (old new : X) : Type 0 where
  pub same : points new ≡ points old
  pub part : is_part new ≡ is_part old
  pub place : at new ≡ to

-- the same, with a look where one is due, and in the cursor of one part with no more than a few
pub record Moves {X : Type 0} (points : X → List Point) (at : X → ℕ) (is_part : X → Bool) (to : ℕ) (due : Type 0) (few : ℕ) (old new : X) (before after : ℕ) : Type 0 where
  pub same : points new ≡ points old
  pub part : is_part new ≡ is_part old
  pub place : at new ≡ to
  pub some : due → before < after
  pub later : before ≤ after
  pub bound : IsTrue (is_part old) → after ≤ before + few

-- to the first pair that is not below the encoded key, or past the last
abbrev pub SeeksGe : {X : Type 0} → (X → List Point) → (X → ℕ) → (X → Bool) → List ℕ → X → X → ℕ → ℕ → Type 0
SeeksGe points place is_part key old new before after =
    Moves points place is_part (count_below (name_in key) (points old) + 1) (0 < length (points old)) (bits (length (points old)) + 2) old new before after

-- to the last pair that is below the encoded key, or before the first
abbrev pub SeeksLt : {X : Type 0} → (X → List Point) → (X → ℕ) → (X → Bool) → List ℕ → X → X → ℕ → ℕ → Type 0
SeeksLt points place is_part key old new before after =
    Moves points place is_part (count_below (name_in key) (points old)) (0 < length (points old)) (bits (length (points old)) + 2) old new before after

-- to the next pair, or past the last
abbrev pub GoesOn : {X : Type 0} → (X → List Point) → (X → ℕ) → (X → Bool) → X → X → ℕ → ℕ → Type 0
GoesOn points place is_part old new before after =
    Moves points place is_part (min (place old + 1) (length (points old) + 1)) ((0 < place old) × (place old ≤ length (points old))) 1 old new before after

-- to the pair before, or before the first
abbrev pub GoesBack : {X : Type 0} → (X → List Point) → (X → ℕ) → (X → Bool) → X → X → ℕ → ℕ → Type 0
GoesBack points place is_part old new before after =
    Moves points place is_part (place old - 1) ((0 < place old) × (place old ≤ length (points old))) 1 old new before after
