-- The bytes of a run, and the first fault of bytes that are none, with its place.
use Rattle.std.specs.Prelude.{ℕ, zero, suc, ◌+◌, Bool, true, ◌&&◌, ◌||◌, not, List, [], ◌∷◌, ◌++◌, length, take, drop, slice_index, map, Option, Some, None, Result, Ok, Err, codes, bytes_eq, nat_lt, ◌==◌, if◌then◌else◌}
use Rattle.std.specs.List.{flat_map}
use Rattle.std.specs.Int.{Width, w32, w64, byte_len, to_be_bytes, from_be_bytes}
use Rattle.std.specs.Ordering.{is_lt}
use Rattle.mvcc_key.specs.Steps.{◌>>=◌, unless_fault}
use Rattle.mvcc_key.specs.Order.{is_no_time, is_in_range, is_below, Name, name_cmp}
use Rattle.mvcc_key.specs.Points.{Point}
pub use Rattle.mvcc_key.specs.RangeOperations.{RangeOp}
use Rattle.mvcc_key.specs.Limits.{max_key_length, max_bound_length, max_stored_length}
use Rattle.mvcc_key.specs.KeyFormat.{KeyFault, encoded_name, name_of}
use Rattle.mvcc_key.specs.FileKind.{FileKind}

-- the points in order, and the range operations in the order in which they are applied
pub record Run : Type 0 where
  pub points : List Point
  pub ranges : List RangeOp

-- four bytes of length, and the bytes
abbrev pub with_length : List ℕ → List ℕ
with_length bytes = to_be_bytes w32 (length bytes) ++ bytes

-- 00 clears or removes, 01 sets
abbrev pub kind_byte : Option (List ℕ) → ℕ
kind_byte None = 0
kind_byte (Some value) = 1

-- a value that is set, with its length
abbrev pub value_part : Option (List ℕ) → List ℕ
value_part None = []
value_part (Some value) = with_length value

-- a point
abbrev pub point_bytes : Point → List ℕ
point_bytes p = kind_byte p.value ∷ with_length (encoded_name p.name) ++ value_part p.value

-- a range operation
abbrev pub range_bytes : RangeOp → List ℕ
range_bytes r =
    kind_byte r.value ∷ with_length r.start ++ with_length r.end
    ++ to_be_bytes w64 r.ts.wall ++ to_be_bytes w32 r.ts.logical

-- how a run begins
abbrev pub magic : List ℕ
magic = codes "MVCCRUN1"

-- the bytes of a run
unfoldable pub run_bytes : Run → List ℕ
run_bytes r =
    magic ++ to_be_bytes w64 (length r.points) ++ to_be_bytes w64 (length r.ranges)
    ++ flat_map point_bytes r.points ++ flat_map range_bytes r.ranges

-- what is wrong, and the place of the byte where it begins
pub record RunFault : Type 0 where
  pub kind : FileKind
  pub place : ℕ

-- something that was read, with the place of its first byte
pub record Placed (A : Type 0) : Type 0 where
  pub place : ℕ
  pub item : A

-- the bytes that are left, and the place of the first of them
pub record Rest : Type 0 where
  pub place : ℕ
  pub bytes : List ℕ

-- what is left behind n bytes
abbrev pub after : ℕ → Rest → Rest
after n rest = record { place = rest.place + n; bytes = drop n rest.bytes }

-- a fault of this kind at this place
abbrev pub fault_at : FileKind → ℕ → RunFault
fault_at kind place = record { kind = kind; place = place }

-- n bytes that are whole
abbrev pub field : ℕ → Rest → Result (List ℕ × Rest) RunFault
field n rest =
    if nat_lt (length rest.bytes) n then Err (fault_at FileKind.Short rest.place)
    else Ok (take n rest.bytes, after n rest)

-- a number that is whole
abbrev pub number : Width → Rest → Result (ℕ × Rest) RunFault
number w rest = do
  bytes ← field (byte_len w) rest
  Ok (from_be_bytes w bytes.0, bytes.1)

-- bytes with their length before them, which is at most a limit
abbrev pub counted : ℕ → RunFault → Rest → Result (List ℕ × Rest) RunFault
counted limit fault rest = do
  n ← number w32 rest
  few ← unless_fault (nat_lt limit n.0) fault n
  field few.0 few.1

-- the kind of an entry: 00 or 01
abbrev pub kind_at : RunFault → Rest → Result (ℕ × Rest) RunFault
kind_at fault rest = do
  b ← field 1 rest
  unless_fault (nat_lt 1 (slice_index b.0 0)) fault (slice_index b.0 0, b.1)

-- the name that the bytes encode, if its key may be stored
abbrev pub stored_name : RunFault → Result Name KeyFault → Result Name RunFault
stored_name fault (Ok n) = unless_fault ((length n.key == 0) || nat_lt max_key_length (length n.key)) fault n
stored_name fault (Err e) = Err fault

-- a name with its length, of a key that may be stored
abbrev pub name_at : RunFault → Rest → Result (Name × Rest) RunFault
name_at fault rest = do
  n ← number w32 rest
  bytes ← field n.0 n.1
  name ← stored_name fault (name_of bytes.0)
  Ok (name, bytes.1)

-- the name stands behind the one before it
abbrev pub is_next : Option Name → Name → Bool
is_next None n = true
is_next (Some m) n = is_lt (name_cmp m n)

-- the value of a point of this kind
abbrev pub value_at : ℕ → RunFault → Rest → Result (Option (List ℕ) × Rest) RunFault
value_at zero fault rest = Ok (None, rest)
value_at (suc k) fault rest = do
  value ← counted max_stored_length fault rest
  Ok (Some value.0, value.1)

-- a point, behind the one before it
abbrev pub point_at : Option Name → Rest → Result (Placed Point × Rest) RunFault
point_at before rest = do
  kind ← kind_at (fault_at FileKind.Key rest.place) rest
  name ← name_at (fault_at FileKind.Key rest.place) kind.1
  next ← unless_fault (not (is_next before name.0)) (fault_at FileKind.Order rest.place) name
  value ← value_at kind.0 (fault_at FileKind.Value rest.place) next.1
  Ok (record { place = rest.place; item = record { name = name.0; value = value.0 } }, value.1)

-- so many points
abbrev pub points_at : ℕ → Option Name → Rest → Result (List (Placed Point) × Rest) RunFault
points_at zero before rest = Ok ([], rest)
points_at (suc n) before rest = do
  p ← point_at before rest
  ps ← points_at n (Some ((p.0).item).name) p.1
  Ok (p.0 ∷ ps.0, ps.1)

-- a set tombstone has an empty value
abbrev pub set_or_removed : ℕ → Option (List ℕ)
set_or_removed zero = None
set_or_removed (suc k) = Some []

-- a span, at a timestamp
abbrev pub is_range_op : RangeOp → Bool
is_range_op r = is_below r.start r.end && not (is_no_time r.ts) && is_in_range r.ts

-- a range operation
abbrev pub range_at : Rest → Result (Placed RangeOp × Rest) RunFault
range_at rest = do
  let fault : RunFault = fault_at FileKind.RangeOrder rest.place
  kind ← kind_at fault rest
  start ← counted max_bound_length fault kind.1
  end ← counted max_bound_length fault start.1
  wall ← number w64 end.1
  logical ← number w32 wall.1
  let r : RangeOp = record { start = start.0; end = end.0; ts = record { wall = wall.0; logical = logical.0 }; value = set_or_removed kind.0 }
  unless_fault (not (is_range_op r)) fault (record { place = rest.place; item = r }, logical.1)

-- so many range operations
abbrev pub ranges_at : ℕ → Rest → Result (List (Placed RangeOp) × Rest) RunFault
ranges_at zero rest = Ok ([], rest)
ranges_at (suc n) rest = do
  r ← range_at rest
  rs ← ranges_at n r.1
  Ok (r.0 ∷ rs.0, rs.1)

-- a run, each entry with its place
pub record PlacedRun : Type 0 where
  pub points : List (Placed Point)
  pub ranges : List (Placed RangeOp)

-- how many points and range operations there are, behind the magic
abbrev pub head_at : Rest → Result ((ℕ × ℕ) × Rest) RunFault
head_at rest = do
  head ← field 8 rest
  known ← unless_fault (not (bytes_eq head.0 magic)) (fault_at FileKind.Magic rest.place) head
  points ← number w64 known.1
  ranges ← number w64 points.1
  Ok ((points.0, ranges.0), ranges.1)

-- the run that the bytes are, or their first fault from the left
unfoldable pub read_run : List ℕ → Result PlacedRun RunFault
read_run bytes = do
  counts ← head_at (record { place = 0; bytes = bytes })
  ps ← points_at (counts.0).0 None counts.1
  rs ← ranges_at (counts.0).1 ps.1
  unless_fault (nat_lt 0 (length (rs.1).bytes)) (fault_at FileKind.Trailing (rs.1).place) (record { points = ps.0; ranges = rs.0 })

-- the run alone
abbrev pub without_places : PlacedRun → Run
without_places r = record { points = map (λ p. p.item) r.points; ranges = map (λ p. p.item) r.ranges }

-- the run alone, or the fault
abbrev pub run_from : Result PlacedRun RunFault → Result Run RunFault
run_from (Ok r) = Ok (without_places r)
run_from (Err fault) = Err fault

-- the run that the bytes are, or their first fault
abbrev pub run_of : List ℕ → Result Run RunFault
run_of bytes = run_from (read_run bytes)
