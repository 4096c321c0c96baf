-- How contracts see the operations that a memory table holds.
use Rattle.std.specs.Prelude.{ℕ, ◌+◌, ◌≤◌, ◌^◌, List, vec_len, vec_capacity}
use Rattle.mvcc_key.specs.Points.{Point}
use Rattle.mvcc_key.specs.views.SeenPoint.{points_of}
use Rattle.mvcc_key.specs.declared.batch.PointOp.{PointOp}
use Rattle.mem_table.specs.views.Places.{listed}
use Rattle.mem_table.specs.views.Slots.{numbers_in}
use Rattle.mem_table.specs.views.Held.{held, spares}
use Rattle.mem_table.specs.declared.sorted.SortedOps.{SortedOps}

-- in order
abbrev pub ops_held : SortedOps → List PointOp
ops_held s = listed s.ops.ops.items (numbers_in (held s.leaves))

-- their points
abbrev pub points_held : SortedOps → List Point
points_held s = points_of (ops_held s)

-- there is room for so many names more
pub record HasRoom (s : SortedOps) (more : ℕ) : Type 0 where
  pub leaves : more ≤ spares s.leaves
  pub ops : vec_len s.ops.ops + more ≤ vec_capacity s.ops.ops
  pub few : vec_len s.ops.ops + more ≤ 2 ^ 32
