-- The groups in front and those of the number are the bytes.
use Rattle.std.proofs.Common.{◌≡◌, ◌<◌, ◌++◌, length}
use Rattle.mvcc_value.specs.Encoding.{varint}
use Rattle.mvcc_value.proofs.varint.read_varint.Given as goal

abbrev pub invariant-loop-group : goal.invariant-loop-group
invariant-loop-group l = record {
  bytes_are : l.front ++ varint l.number ≡ l.fn.bytes;
  some : 0 < length l.front → 0 < l.number;
}

abbrev pub decreases-loop-group : goal.decreases-loop-group
decreases-loop-group l = length l.front
