-- A batch while it is built.
use Rattle.std.specs.Prelude.{[], ◌∷◌, ◌++◌}
use Rattle.mvcc_key.specs.Batches.{IsStorable}
use Rattle.mvcc_key.specs.views.SeenPoint.{IsAboveLast}
use Rattle.mvcc_key.specs.declared.batch.PointOp.{PointOp}
use Rattle.mvcc_key.specs.declared.batch.RangeOp.{RangeOp}
use Rattle.mvcc_key.specs.declared.batch.Batch.{Batch}

-- nothing
abbrev pub empty_batch : Batch
empty_batch = record { points = []; ranges = [] }

-- the point may come next: it is storable, and its name is above the last one
pub record IsNextPoint (batch : Batch) (op : PointOp) : Type 0 where
  pub storable : IsStorable op
  pub above : IsAboveLast batch.points op.key

-- with one point more
abbrev pub with_point : Batch → PointOp → Batch
with_point batch op = record { points = batch.points ++ op ∷ []; ranges = batch.ranges }

-- with one range operation more
abbrev pub with_range : Batch → RangeOp → Batch
with_range batch op = record { points = batch.points; ranges = batch.ranges ++ op ∷ [] }
