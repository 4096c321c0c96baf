-- What a batch may hold, and what a part may.
use Rattle.std.specs.Prelude.{◌≡◌, ◌≤◌, true, false, List, [], length, All}
use Rattle.std.specs.Option.{ForSome}
use Rattle.mvcc_key.specs.Limits.{max_key_length, max_bound_length, max_stored_length}
use Rattle.mvcc_key.specs.Order.{is_in_range, is_below, is_no_time}
use Rattle.mvcc_key.specs.Encoded.{IsName, name_in}
use Rattle.mvcc_key.specs.Points.{Point, IsRising}
use Rattle.mvcc_key.specs.views.Seen.{time_of}
use Rattle.mvcc_key.specs.views.SeenPoint.{points_of}
use Rattle.mvcc_key.specs.declared.batch.PointOp.{PointOp}
use Rattle.mvcc_key.specs.declared.batch.RangeOp.{RangeOp}
use Rattle.mvcc_key.specs.declared.batch.Batch.{Batch}

-- its key is the encoding of a name whose key has 1 to 4,096 bytes, and its value has at most 16,777,216 bytes
pub record IsStorable (op : PointOp) : Type 0 where
  pub name : IsName op.key
  pub some : 1 ≤ length (name_in op.key).key
  pub short : length (name_in op.key).key ≤ max_key_length
  pub value : ForSome op.value (λ v. length v ≤ max_stored_length)

-- its bounds have at most 4,097 bytes, its start is below its end, it has a timestamp, and where it sets its value is empty
pub record IsStorableRange (op : RangeOp) : Type 0 where
  pub start : length op.start ≤ max_bound_length
  pub end : length op.end ≤ max_bound_length
  pub below : is_below op.start op.end ≡ true
  pub some : is_no_time (time_of op.ts) ≡ false
  pub value : ForSome op.set (λ v. v ≡ [])

-- each is storable, and each name is below each later one
pub record AreEntries (ops : List PointOp) : Type 0 where
  pub storable : All IsStorable ops
  pub rising : IsRising (points_of ops)

-- its points are entries, and each of its range operations is storable
pub record IsBatch (batch : Batch) : Type 0 where
  pub points : AreEntries batch.points
  pub ranges : All IsStorableRange batch.ranges

-- its key has 1 to 4,096 bytes, its timestamp is in range, and its value has at most 16,777,216 bytes
pub record IsStoredPoint (p : Point) : Type 0 where
  pub some : 1 ≤ length p.name.key
  pub short : length p.name.key ≤ max_key_length
  pub range : is_in_range p.name.ts ≡ true
  pub value : ForSome p.value (λ v. length v ≤ max_stored_length)
