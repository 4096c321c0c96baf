use Rattle.std.proofs.Common.{◌≡◌, ◌^◌, ◌<◌, [], ◌∷◌, sym, ◌∙◌, arith, inl, inr}
use Rattle.std.proofs.lemmas.List.{nil_from_length}
use Rattle.mvcc_value.specs.Encoding.{varint}
use Rattle.mvcc_value.proofs.VarintLaws.{IsLastGroup, is_last-parts, is_varint-nil, is_varint-bad_last, is_varint-bad_group, is_varint-of, varint-small, varint-more}
use Rattle.mvcc_value.proofs.varint.read_varint.Goals as goal
use Rattle.mvcc_value.proofs.varint.read_varint.Goals.{then-group-lt128-via-then-group-lt128, then-group-lt128-via-else-group-lt128+then-number}

pub returns-in_err-last : goal.returns-in_err-last
returns-in_err-last c = rw c.from_residual.ensures (rw (nil_from_length c.args.bytes.now c.in_err-last.ensures.cases) is_varint-nil)

pub returns-then-not-is_last_group : goal.returns-then-not-is_last_group
returns-then-not-is_last_group c =
    is_varint-bad_last c.args.bytes.now c.in_ok-last.front.now c.in_ok-last.last.now c.in_ok-last.ensures.cases.0
    (sym c.is_last_group.ensures ∙ c.if-not-is_last_group.true)

pub loop-group-init : goal.loop-group-init
loop-group-init c =
    let is : IsLastGroup c.in_ok-last.front.now c.in_ok-last.last.now =
    is_last-parts c.in_ok-last.front.now c.in_ok-last.last.now (sym c.is_last_group.ensures ∙ c.if-not-is_last_group.false) in
    let small : varint c.from-number.result ≡ c.in_ok-last.last.now ∷ [] = rw c.from-number.ensures (varint-small c.in_ok-last.last.now is.low) in
    record {
      bytes_are = rw small (sym c.in_ok-last.ensures.cases.0);
      some = λ h. rw c.from-number.ensures (is.some h);
    }

pub returns-then-group-lt128 : goal.returns-then-group-lt128
returns-then-group-lt128 c =
    let fits : c.loop-group.number < 2 ^ 64 = omega arith in
    is_varint-bad_group c.args.bytes.now c.loop-group.front.now c.in-Some.rest.now c.in-Some.group.now c.loop-group.number fits c.in-Some.ensures.cases.0 c.loop-group.invariant.bytes_are
    (elim c.then-group-lt128.branch [
      | then-group-lt128-via-then-group-lt128 w ↦ inl w.if-group-lt128.true
      | then-group-lt128-via-else-group-lt128+then-number w ↦ inr w.if-number.true
    ])

pub loop-group-preserved : goal.loop-group-preserved
loop-group-preserved c =
    let some : 0 < c.loop-group.number = c.loop-group.invariant.some (omega (arith, c.in-Some.ensures.cases.1)) in
    record {
      bytes_are = rw c.from.ensures (varint-more c.args.bytes.now c.loop-group.front.now c.in-Some.rest.now c.in-Some.group.now c.loop-group.number c.in-Some.ensures.cases.0 c.loop-group.invariant.bytes_are c.if-group-lt128.false (omega arith) some c.if-number.false);
      some = λ h. omega arith;
    }

pub returns : goal.returns
returns c =
    let fits : c.loop-group.number < 2 ^ 64 = omega arith in
    is_varint-of c.args.bytes.now c.loop-group.number fits
    (rw (nil_from_length c.loop-group.front.now c.in_default.ensures.cases) at c.loop-group.invariant.bytes_are)
