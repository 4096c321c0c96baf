-- Bytes that are written, and the places of what they hold.
use Rattle.std.specs.Prelude.{ℕ, ◌≤◌, List, ◌++◌, Option}
use Rattle.std.specs.Option.{ForSome}
use Rattle.std.specs.Int.{w64, to_be_bytes}
use Rattle.mvcc_key.specs.Encoded.{name_in}
use Rattle.mvcc_key.specs.Points.{Point}
use Rattle.run_block.specs.RunFormat.{magic}
use Rattle.run_block.specs.declared.place.PointPlace.{PointPlace}

-- the magic and the counts
abbrev pub head_bytes : ℕ → ℕ → List ℕ
head_bytes points ranges = magic ++ to_be_bytes w64 points ++ to_be_bytes w64 ranges

-- the point of an encoded key and what is set under it
abbrev pub point_with : List ℕ → Option (List ℕ) → Point
point_with key value = record { name = name_in key; value = value }

-- the place is behind the first n bytes
pub record IsBehind (n : ℕ) (p : PointPlace) : Type 0 where
  pub key : n ≤ p.key.start
  pub value : ForSome p.value (λ v. n ≤ v.start)
