use Rattle.std.proofs.Common.{◌≡◌, ◌<◌, ◌^◌, length, ap, arith}
use Rattle.mvcc_value.specs.Encoding.{varint}
use Rattle.mvcc_value.proofs.VarintLaws.{varint-small, varint-large, length-varint_le}
use Rattle.mvcc_value.proofs.varint.varint_len.Goals as goal

pub overflow_add-len : goal.overflow_add-len
overflow_add-len c = omega (arith, length-varint_le c.args.number, c.loop-number.invariant)

pub loop-number-preserved : goal.loop-number-preserved
loop-number-preserved c =
    let fits : c.loop-number.number < 2 ^ 64 = omega arith in
    omega (arith, ap length (varint-large c.loop-number.number c.loop-number-test.true fits), c.loop-number.invariant)

pub returns : goal.returns
returns c =
    let value : c.loop-number.len ≡ length (varint c.args.number) = omega (arith, ap length (varint-small c.loop-number.number c.loop-number-test.false), c.loop-number.invariant) in
    record { value = value; few = omega (arith, length-varint_le c.args.number) }
