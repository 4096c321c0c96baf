-- What a move makes of the parts under a merging cursor or a visible one, and the looks that it takes in them.
use Rattle.std.specs.Prelude.{◌≡◌, ℕ, ◌+◌, ◌≤◌, Bool, IsTrue, List}
use Rattle.mvcc_key.specs.Encoded.{name_in}
use Rattle.mvcc_key.specs.Points.{Point, point_at}
use Rattle.merge_cursor.specs.Merged.{seek_looks, entries_below, entries_before}

-- on the way back: the parts keep their points, and are parts' cursors if they were
pub record KeepsParts {X : Type 0} (lists : X → List (List Point)) (are_parts : X → Type 0) (old new : X) : Type 0 where
  pub same : lists new ≡ lists old
  pub each : are_parts old → are_parts new

-- to a key, on the way on: each part is sought once, and then a look is one point of a part from the name sought up to the one
-- that is reached
pub record SeeksParts {X : Type 0} (points : X → List Point) (place : X → ℕ) (lists : X → List (List Point)) (are_parts : X → Type 0) (is_ahead : X → Bool) (key : List ℕ) (old new : X) (before after : ℕ) : Type 0 where
  pub same : lists new ≡ lists old
  pub each : are_parts old → are_parts new
  pub ahead : IsTrue (is_ahead new)
  pub looks : are_parts old → after + entries_below (name_in key) (lists old) ≤ before + seek_looks (lists old) + entries_before (point_at (points new) (place new)) (lists old)

-- to the next pair: where the parts stood on the way on before, a look is one point of a part from the name that is left up to the
-- one that is reached
pub record PassesParts {X : Type 0} (points : X → List Point) (place : X → ℕ) (lists : X → List (List Point)) (are_parts : X → Type 0) (is_ahead : X → Bool) (old new : X) (before after : ℕ) : Type 0 where
  pub same : lists new ≡ lists old
  pub each : are_parts old → are_parts new
  pub ahead : IsTrue (is_ahead new)
  pub looks : are_parts old → IsTrue (is_ahead old) → after + entries_before (point_at (points old) (place old)) (lists old) ≤ before + entries_before (point_at (points new) (place new)) (lists old)
