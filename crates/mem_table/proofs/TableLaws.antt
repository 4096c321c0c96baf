-- A memory table after newer operations.
use Rattle.std.proofs.Common.{◌≡◌, List, ◌++◌, sym, ap, subst, ◌∙◌}
use Rattle.std.specs.Prelude.{Result, Ok, Err, IsOk, is_ok, if◌then◌else◌}
use Rattle.mvcc_key.specs.views.SeenPoint.{points_of}
use Rattle.mvcc_key.specs.declared.batch.PointOp.{PointOp}
use Rattle.mvcc_key.specs.declared.batch.RangeOp.{RangeOp}
use Rattle.mvcc_key.specs.declared.batch.Batch.{Batch}
use Rattle.mem_table.specs.views.Places.{newest_ops}
use Rattle.mem_table.specs.Table.{Table, newest_points, after_batch, ShowsNewest}
use Rattle.mem_table.proofs.EntryLaws.{points-newest}
use Rattle.mem_table.proofs.StateLaws.{shows-newest}

-- a table of operations
abbrev pub table_of : List PointOp → List RangeOp → Table
table_of ops ranges = record { points = points_of ops; ranges = ranges }

points-after : (batch : Batch) (now newer older : List PointOp) (ranges : List RangeOp) (old : Table) → now ≡ newest_ops newer older → newer ≡ batch.points
    → table_of older ranges ≡ old → points_of now ≡ newest_points (points_of batch.points ++ old.points)
points-after batch now newer older ranges old is newer_is old_is =
    ap points_of is ∙ points-newest newer older
    ∙ ap (λ (ops : List PointOp). newest_points (points_of ops ++ points_of older)) newer_is
    ∙ ap (λ (t : Table). newest_points (points_of batch.points ++ t.points)) old_is

-- the table after the batch of these operations
pub table-after : (batch : Batch) (now newer older : List PointOp) (after before : List RangeOp) (old : Table) → now ≡ newest_ops newer older → newer ≡ batch.points
    → after ≡ before ++ batch.ranges → table_of older before ≡ old → table_of now after ≡ after_batch batch old
table-after batch now newer older after before old is newer_is after_is old_is =
    let points = points-after batch now newer older before old is newer_is old_is in
    let ranges : after ≡ old.ranges ++ batch.ranges = after_is ∙ ap (λ (t : Table). t.ranges ++ batch.ranges) old_is in
    λ i. record { points = points i; ranges = ranges i }

-- what was put behind others, where there was room
pub put_behind : {T E : Type 0} (r : Result T E) (now before more : List RangeOp) → IsOk r → now ≡ (if is_ok r then before ++ more else before) → now ≡ before ++ more
put_behind (Ok x) now before more ok is = is
put_behind (Err e) now before more ok is = absurd cc

-- and what is known then
pub newest-after : (batch : Batch) (now newer older : List PointOp) (ranges : List RangeOp) (old : Table) → now ≡ newest_ops newer older → newer ≡ batch.points
    → table_of older ranges ≡ old → ShowsNewest (points_of batch.points) old.points (points_of now)
newest-after batch now newer older ranges old is newer_is old_is =
    subst (ShowsNewest (points_of batch.points) old.points) (sym (points-after batch now newer older ranges old is newer_is old_is))
    (shows-newest (points_of batch.points) old.points)
