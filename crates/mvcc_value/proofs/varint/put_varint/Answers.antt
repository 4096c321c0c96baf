use Rattle.std.proofs.Common.{◌≡◌, ◌+◌, ◌%◌, ◌^◌, ◌<◌, [], ◌∷◌, ◌++◌, length, vec_len, ap, ◌∙◌, arith}
use Rattle.mvcc_value.proofs.VarintLaws.{varint-small, varint-large, varint-put}
use Rattle.mvcc_value.proofs.varint.put_varint.Goals as goal

pub unwrap-requires : goal.unwrap-requires
unwrap-requires c =
    let fits : c.loop-number.number < 2 ^ 64 = omega arith in
    c.push.ensures.succeeds (omega (arith, ap length (varint-large c.loop-number.number c.loop-number-test.true fits)))

pub loop-number-preserved : goal.loop-number-preserved
loop-number-preserved c =
    let n = c.loop-number.number in
    let fits : n < 2 ^ 64 = omega arith in
    let items : c.push.new.self.items ≡ c.loop-number.out.items ++ (128 + n % 128) ∷ [] = rw c.unwrap.ensures at c.push.ensures.items in
    let len : vec_len c.push.new.self ≡ vec_len c.loop-number.out + 1 = rw c.unwrap.ensures at c.push.ensures.len in
    record {
      so_far = rw items (varint-put c.loop-number.out.items n c.loop-number-test.true fits ∙ c.loop-number.invariant.so_far);
      room = omega (arith, ap length (varint-large n c.loop-number-test.true fits));
    }

pub unwrap-requires-2 : goal.unwrap-requires-2
unwrap-requires-2 c =
    c.push-2.ensures.succeeds (omega (arith, ap length (varint-small c.loop-number.number c.loop-number-test.false)))

pub returns : goal.returns
returns c =
    let items : c.push-2.new.self.items ≡ c.loop-number.out.items ++ c.loop-number.number ∷ [] = rw c.unwrap-2.ensures at c.push-2.ensures.items in
    items ∙ rw (varint-small c.loop-number.number c.loop-number-test.false) at c.loop-number.invariant.so_far
