-- What a memory table holds.
use Rattle.std.specs.Prelude.{◌≡◌, List, [], ◌∷◌, ◌++◌, find, Option, Some, None}
use Rattle.mvcc_key.specs.Lists.{in_order}
use Rattle.mvcc_key.specs.Order.{Name, is_same_name}
use Rattle.mvcc_key.specs.Points.{Point, point_cmp}
use Rattle.mvcc_key.specs.views.SeenPoint.{points_of}
use Rattle.mvcc_key.specs.declared.batch.PointOp.{PointOp}
use Rattle.mvcc_key.specs.declared.batch.RangeOp.{RangeOp}
use Rattle.mvcc_key.specs.declared.batch.Batch.{Batch}

-- the newest state of each name, in order, and the range operations in the order in which they came
pub record Table : Type 0 where
  pub points : List Point
  pub ranges : List RangeOp

-- nothing
abbrev pub empty_table : Table
empty_table = record { points = []; ranges = [] }

-- the newest state of each name, in order; of two points with one name the first is the newer
abbrev pub newest_points : List Point → List Point
newest_points = in_order point_cmp

-- a batch of one operation
abbrev pub batch_of_one : PointOp → Batch
batch_of_one op = record { points = op ∷ []; ranges = [] }

-- the table after a batch
abbrev pub after_batch : Batch → Table → Table
after_batch batch table = record {
  points = newest_points (points_of batch.points ++ table.points);
  ranges = table.ranges ++ batch.ranges;
}

-- what is known of a name, where anything is
abbrev pub state_of : Name → List Point → Option Point
state_of name points = find (λ p. is_same_name p.name name) points

-- the first state where there is one, and else the second
abbrev pub newer_of : Option Point → Option Point → Option Point
newer_of (Some p) older = Some p
newer_of None older = older

-- each name has its newer state, and a name that has none there keeps the older
abbrev pub ShowsNewest : List Point → List Point → List Point → Type 0
ShowsNewest newer older now = (name : Name) → state_of name now ≡ newer_of (state_of name newer) (state_of name older)
