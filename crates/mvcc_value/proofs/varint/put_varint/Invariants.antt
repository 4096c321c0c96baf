-- The groups so far and those of what is left are those of the number.
use Rattle.std.proofs.Common.{◌≡◌, ◌+◌, ◌≤◌, ◌++◌, length, vec_len, vec_capacity}
use Rattle.mvcc_value.specs.Encoding.{varint}
use Rattle.mvcc_value.proofs.varint.put_varint.Given as goal

abbrev pub invariant-loop-number : goal.invariant-loop-number
invariant-loop-number l = record {
  so_far : l.out.items ++ varint l.number ≡ l.initial.out.items ++ varint l.fn.number;
  room : vec_len l.out + length (varint l.number) ≤ vec_capacity l.out;
}

abbrev pub decreases-loop-number : goal.decreases-loop-number
decreases-loop-number l = l.number
