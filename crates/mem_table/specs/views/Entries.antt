-- Entries by their numbers, and lists of numbers as lists of entries.
use Rattle.std.specs.Prelude.{slice_get, Some, ◌≡◌, ℕ, ◌<◌, List, [], map, slice_index_or, None, All, length}
use Rattle.mvcc_key.specs.Order.{no_time}
use Rattle.mvcc_key.specs.views.AbbreviatedKey.{abbreviated_key}
use Rattle.mvcc_key.specs.Encoded.{IsBytes}
use Rattle.mvcc_key.specs.Points.{Point, IsRising}

-- a point under no name, read where a number has none
abbrev pub no_point : Point
no_point = record { name = record { key = []; ts = no_time }; value = None }

-- the entry with this number
abbrev pub entry_at : List Point → ℕ → Point
entry_at points number = slice_index_or points number no_point

-- the abbreviated key of its key
abbrev pub abbreviated_at : List Point → ℕ → ℕ
abbreviated_at points number = abbreviated_key (entry_at points number).name.key

-- the entries with these numbers, in their order
abbrev pub numbered : List Point → List ℕ → List Point
numbered points numbers = map (entry_at points) numbers

-- each is the number of an entry, beside it stands the entry's abbreviated key, and the names rise
pub record IsIndex (points : List Point) (abbreviated_keys numbers : List ℕ) : Type 0 where
  pub known : All (λ number. number < length points) numbers
  pub abbreviated_keys_are : abbreviated_keys ≡ map (abbreviated_at points) numbers
  pub rising : IsRising (numbered points numbers)

-- the keys of all entries are bytes
abbrev pub AreBytes : List Point → Type 0
AreBytes points = (i : ℕ) (p : Point) → slice_get points i ≡ Some p → IsBytes p.name.key
