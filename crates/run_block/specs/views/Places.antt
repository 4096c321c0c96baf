-- What stands at the places of an index.
use Rattle.std.specs.Prelude.{◌≡◌, ℕ, ◌≤◌, Bool, true, false, List, [], length, map, Option, Some, None, All, slice_range}
use Rattle.std.specs.Option.{ForSome, option_map}
use Rattle.mvcc_key.specs.Order.{Timestamp}
use Rattle.mvcc_key.specs.views.Seen.{time_of}
use Rattle.mvcc_key.specs.Encoded.{IsName, name_in}
use Rattle.mvcc_key.specs.views.AbbreviatedKey.{IsAbbreviatedKey}
use Rattle.mvcc_key.specs.Points.{Point}
use Rattle.mvcc_key.specs.declared.timestamp.Timestamp.{Timestamp as Declared}
use Rattle.mvcc_key.specs.RangeOperations.{RangeOp}
use Rattle.run_block.specs.RunFormat.{Run}
use Rattle.run_block.specs.TimeSpan.{times_of, span_of}
use Rattle.run_block.specs.declared.index.Index.{Index}
use Rattle.run_block.specs.declared.piece.Piece.{Piece}
use Rattle.run_block.specs.declared.place.PointPlace.{PointPlace}
use Rattle.run_block.specs.declared.place.RangePlace.{RangePlace}

-- the bytes of a piece
abbrev pub piece_in : List ℕ → Piece → List ℕ
piece_in bytes p = slice_range bytes p.start p.end

-- the point at a place
abbrev pub point_in : List ℕ → PointPlace → Point
point_in bytes p = record { name = name_in (piece_in bytes p.key); value = option_map (piece_in bytes) p.value }

-- nothing is the value of a set tombstone
abbrev pub set_value : Bool → Option (List ℕ)
set_value true = Some []
set_value false = None

-- the range operation at a place
abbrev pub range_in : List ℕ → RangePlace → RangeOp
range_in bytes r = record { start = piece_in bytes r.start; end = piece_in bytes r.end; ts = time_of r.ts; value = set_value r.set }

-- the points at places
abbrev pub points_in : List ℕ → List PointPlace → List Point
points_in bytes places = map (point_in bytes) places

-- the range operations at places
abbrev pub ranges_in : List ℕ → List RangePlace → List RangeOp
ranges_in bytes places = map (range_in bytes) places

-- the place is within the bytes, and its key is an encoded one with this abbreviated key
pub record IsPlaced (bytes : List ℕ) (p : PointPlace) : Type 0 where
  pub key : p.key.end ≤ length bytes
  pub value : ForSome p.value (λ v. v.end ≤ length bytes)
  pub name : IsName (piece_in bytes p.key)
  pub abbreviated : IsAbbreviatedKey (name_in (piece_in bytes p.key)).key p.abbreviated_key

-- the place is within the bytes
pub record IsRangePlaced (bytes : List ℕ) (r : RangePlace) : Type 0 where
  pub start : r.start.end ≤ length bytes
  pub end : r.end.end ≤ length bytes

-- the run at the places of an index
abbrev pub run_in : List ℕ → Index → Run
run_in bytes index = record { points = points_in bytes index.points.items; ranges = ranges_in bytes index.ranges.items }

-- two timestamps
abbrev pub times_seen : Declared × Declared → Timestamp × Timestamp
times_seen s = (time_of s.0, time_of s.1)

-- a span of timestamps
abbrev pub span_seen : Option (Declared × Declared) → Option (Timestamp × Timestamp)
span_seen span = option_map times_seen span

-- its places are within the bytes, and its timestamps are those of what stands there
pub record IsIndex (bytes : List ℕ) (index : Index) : Type 0 where
  pub points : All (IsPlaced bytes) index.points.items
  pub ranges : All (IsRangePlaced bytes) index.ranges.items
  pub span : span_seen index.span ≡ span_of (times_of (run_in bytes index))
