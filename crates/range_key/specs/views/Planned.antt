-- A change that is made and not yet in place.
use Rattle.std.specs.Prelude.{◌≤◌, List, ◌++◌, length, take, drop}
use Rattle.mvcc_key.specs.Fragments.{Fragment}
use Rattle.range_key.specs.declared.planned.Change.{Change}

-- it stands for a stretch of the list
pub record IsWithin (fs : List Fragment) (c : Change) : Type 0 where
  pub ordered : c.low ≤ c.high
  pub within : c.high ≤ length fs

-- the list with its pieces in their place
abbrev pub with_pieces : List Fragment → Change → List Fragment
with_pieces fs c = take c.low fs ++ (c.pieces.items ++ drop c.high fs)
