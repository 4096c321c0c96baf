-- What the parts of a reading say, and where they end.
use Rattle.std.specs.Prelude.{◌≡◌, ℕ, ◌≤◌, Bool, true, false, not, ◌||◌, List, length, drop, map, Option, Result, Ok, Err, nat_lt, ◌==◌}
use Rattle.std.specs.Option.{option_map}
use Rattle.mvcc_key.specs.Order.{Name}
use Rattle.mvcc_key.specs.Limits.{max_key_length}
use Rattle.mvcc_key.specs.KeyFormat.{KeyFault}
use Rattle.mvcc_key.specs.Encoded.{IsName, name_in}
use Rattle.mvcc_key.specs.Points.{Point}
use Rattle.run_block.specs.RunFormat as words
use Rattle.mvcc_key.specs.RangeOperations.{RangeOp}
use Rattle.run_block.specs.RunFormat.{Rest, Placed, points_at, ranges_at}
use Rattle.run_block.specs.views.Seen.{fault_of}
use Rattle.run_block.specs.views.Places.{piece_in}
use Rattle.run_block.specs.declared.fault.RunFault.{RunFault}
use Rattle.run_block.specs.declared.piece.Piece.{Piece}
use Rattle.run_block.specs.declared.reader.Reader.{Reader}

-- what is left of the bytes at a place
abbrev pub rest_at : List ℕ → ℕ → Rest
rest_at bytes place = record { place = place; bytes = drop place bytes }

-- what a reader has left
abbrev pub rest_of : Reader → Rest
rest_of r = rest_at r.bytes.now r.place

-- the answer is what the reading says, and the rest is what it leaves
abbrev pub Reads : {A B : Type 0} → (A → B) → Result A RunFault → Result (B × Rest) words.RunFault → Rest → Type 0
Reads view (Ok x) reading rest = reading ≡ Ok (view x, rest)
Reads view (Err e) reading rest = reading ≡ Err (fault_of e)

-- the number of a kind: 1 sets
abbrev pub kind_number : Bool → ℕ
kind_number true = 1
kind_number false = 0

-- a name whose key may be stored
abbrev pub is_stored : Result Name KeyFault → Bool
is_stored (Ok n) = not ((length n.key == 0) || nat_lt max_key_length (length n.key))
is_stored (Err e) = false

-- the piece is within the bytes, and an encoded key
pub record IsKeyPiece (bytes : List ℕ) (p : Piece) : Type 0 where
  pub within : p.end ≤ length bytes
  pub name : IsName (piece_in bytes p)

-- the name of a key
abbrev pub name_before : List ℕ → Option Piece → Option Name
name_before bytes before = option_map (λ p. name_in (piece_in bytes p)) before

-- the entries without their places
abbrev pub items_of : {A : Type 0} → List (Placed A) → List A
items_of xs = map (λ p. p.item) xs

-- so many points are read, and are these
pub record ArePointsAt (count : ℕ) (from rest : Rest) (points : List Point) : Type 0 where
  pub placed : List (Placed Point)
  pub items : items_of placed ≡ points
  pub reading : points_at count Option.None from ≡ Ok (placed, rest)

-- so many range operations are read, and are these
pub record AreRangesAt (count : ℕ) (from rest : Rest) (ranges : List RangeOp) : Type 0 where
  pub placed : List (Placed RangeOp)
  pub items : items_of placed ≡ ranges
  pub reading : ranges_at count from ≡ Ok (placed, rest)
