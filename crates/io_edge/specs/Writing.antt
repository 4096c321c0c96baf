-- What a call leaves behind that may end in the middle of a piece.
use Rattle.std.specs.Prelude.{ℕ, List, take, Result, MatchResult}
use Rattle.std.specs.declared.option.Option.{Option}
use Rattle.std.specs.Io.{StartsWith}
use Rattle.std.specs.Io.KnownBytes.{Appends}

-- the bytes held, where told, grew by a beginning of the piece
pub record AppendsBeginning (held held' : Option (List ℕ)) (piece : List ℕ) : Type 0 where
  pub part : List ℕ
  pub beginning : StartsWith piece part
  pub appended : Appends held held' part

-- at Ok(n) they grew by its first n bytes, and at Err by a beginning of it
abbrev pub TakesBeginning : {E : Type 0} → Option (List ℕ) → Option (List ℕ) → Result ℕ E → List ℕ → Type 0
TakesBeginning held held' r piece = MatchResult r (λ n. Appends held held' (take n piece))
    (λ _. AppendsBeginning held held' piece)
