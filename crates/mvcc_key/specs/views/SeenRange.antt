-- How contracts see range operations.
use Rattle.std.specs.Prelude.{List, map}
use Rattle.mvcc_key.specs.RangeOperations as words
use Rattle.mvcc_key.specs.views.Seen.{time_of}
use Rattle.mvcc_key.specs.declared.batch.RangeOp.{RangeOp}

-- a range operation
abbrev pub range_op_of : RangeOp → words.RangeOp
range_op_of op = record { start = op.start; end = op.end; ts = time_of op.ts; value = op.set }

-- range operations
abbrev pub range_ops_of : List RangeOp → List words.RangeOp
range_ops_of ops = map range_op_of ops
