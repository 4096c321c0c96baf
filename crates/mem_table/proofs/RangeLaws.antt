-- The range of a name among operations in order.
use Rattle.std.proofs.Common.{ℕ, List}
use Rattle.mvcc_key.specs.Encoded.{name_in}
use Rattle.mvcc_key.specs.declared.batch.PointOp.{PointOp}
use Rattle.mem_table.specs.views.Places.{IsRangeOf}
use Rattle.mem_table.proofs.OrderedLaws.{IsRange}
use Rattle.mem_table.proofs.EntryLaws.{op_cmp-total}

-- the range of an operation's name
pub range-op : (op : PointOp) (ops : List PointOp) (low high : ℕ) → IsRangeOf (name_in op.key) ops low high → IsRange op_cmp-total op ops low high
range-op op ops low high r = record { ordered = r.ordered; one = r.one; within = r.within; below = r.below; tied = r.tied; above = r.above }
