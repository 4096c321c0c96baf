-- What holds of each run that has bytes, and the laws of its bytes.
use Rattle.std.specs.Prelude.{◌≡◌, ℕ, ◌^◌, ◌<◌, ◌≤◌, true, List, [], length, All, Ok}
use Rattle.std.specs.Option.{ForSome}
use Rattle.mvcc_key.specs.Limits.{max_bound_length}
use Rattle.mvcc_key.specs.Encoded.{IsBytes}
use Rattle.mvcc_key.specs.Points.{IsRising}
use Rattle.mvcc_key.specs.Batches.{IsStoredPoint}
use Rattle.mvcc_key.specs.RangeOperations.{RangeOp}
use Rattle.run_block.specs.RunFormat.{is_range_op, Run, run_bytes, run_of}

-- its bounds have at most 4,097 bytes, it is a span at a timestamp, and where it sets its value is empty
pub record IsStoredRange (r : RangeOp) : Type 0 where
  pub start : length r.start ≤ max_bound_length
  pub end : length r.end ≤ max_bound_length
  pub form : is_range_op r ≡ true
  pub value : ForSome r.value (λ v. v ≡ [])

-- a run: its points rise strictly in the order of names
pub record IsRun (r : Run) : Type 0 where
  pub points : All IsStoredPoint r.points
  pub rising : IsRising r.points
  pub ranges : All IsStoredRange r.ranges
  pub point_count : length r.points < 2 ^ 64
  pub range_count : length r.ranges < 2 ^ 64

-- the bytes are those of the run
pub record IsRunOf (bytes : List ℕ) (r : Run) : Type 0 where
  pub spelled : bytes ≡ run_bytes r
  pub run : IsRun r

-- a run is read from its bytes
abbrev pub BytesAreRead : Type 0
BytesAreRead = (r : Run) → IsRun r → run_of (run_bytes r) ≡ Ok r

-- bytes that are read are those of the run that is read
abbrev pub ReadBytesAreOfRun : Type 0
ReadBytesAreOfRun = (bytes : List ℕ) (r : Run) → IsBytes bytes → run_of bytes ≡ Ok r → IsRunOf bytes r
