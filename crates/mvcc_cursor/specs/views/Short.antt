-- What holds of the points of a well-formed store.
use Rattle.std.specs.Prelude.{◌≡◌, ℕ, ◌≤◌, List, length, slice_get, Some, IsSome}
use Rattle.mvcc_key.specs.Limits.{max_key_length}
use Rattle.mvcc_key.specs.Points.{Point}

-- the key has 1 to 4,096 bytes
pub record IsShortKey (p : Point) : Type 0 where
  pub some : 1 ≤ length p.name.key
  pub short : length p.name.key ≤ max_key_length

-- so has each stored key
abbrev pub AreShortKeys : List Point → Type 0
AreShortKeys points = (i : ℕ) (p : Point) → slice_get points i ≡ Some p → IsShortKey p

-- each point has a value
abbrev pub AreSet : List Point → Type 0
AreSet points = (i : ℕ) (p : Point) → slice_get points i ≡ Some p → IsSome p.value
