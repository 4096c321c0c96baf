-- Range operations: what sets a range tombstone, or takes it out of a span.
use Rattle.std.specs.Prelude.{ℕ, List, Option}
use Rattle.mvcc_key.specs.Order.{Timestamp, Key}

-- sets a tombstone over the span, where it has a value, and else takes its very timestamp out of the span
pub record RangeOp : Type 0 where
  pub start : Key
  pub end : Key
  pub ts : Timestamp
  pub value : Option (List ℕ)
