-- The groups so far and those of what is left are those of the number.
use Rattle.std.proofs.Common.{◌≡◌, ◌+◌, length}
use Rattle.mvcc_value.specs.Encoding.{varint}
use Rattle.mvcc_value.proofs.varint.varint_len.Given as goal

abbrev pub invariant-loop-number : goal.invariant-loop-number
invariant-loop-number l = l.len + length (varint l.number) ≡ 1 + length (varint l.fn.number)

abbrev pub decreases-loop-number : goal.decreases-loop-number
decreases-loop-number l = l.number
