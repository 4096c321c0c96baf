-- Text that is written in pieces: what a sink took of it, and what is still gathered.
use Rattle.std.specs.Prelude.{◌≡◌, ℕ, List, ◌++◌, Option}
use Rattle.std.specs.Io.KnownBytes.{Appends}

-- the sink took the front of what was gathered
pub record Moves (held held' : Option (List ℕ)) (old new : List ℕ) : Type 0 where
  pub part : List ℕ
  pub appended : Appends held held' part
  pub whole : old ≡ part ++ new

-- what the sink took and what is gathered are all of the text
pub record Gathers (held held' : Option (List ℕ)) (gathered all : List ℕ) : Type 0 where
  pub written : List ℕ
  pub appended : Appends held held' written
  pub whole : written ++ gathered ≡ all

-- what the sink took and what is gathered are a beginning of the text
pub record GathersBeginning (held held' : Option (List ℕ)) (gathered all : List ℕ) : Type 0 where
  pub written : List ℕ
  pub rest : List ℕ
  pub appended : Appends held held' written
  pub whole : (written ++ gathered) ++ rest ≡ all
