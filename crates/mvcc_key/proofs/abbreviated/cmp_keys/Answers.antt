use Rattle.std.proofs.Common.{◌≤◌, ◌⊎◌, length, inl, inr, sym, ◌∙◌, arith}
use Rattle.mvcc_key.proofs.AbbreviatedKeyLaws.{keys-one, keys-past}
use Rattle.mvcc_key.proofs.abbreviated.cmp_keys.Goals.{then-a-le-ABBREVIATED_LEN-via-then-a-le-ABBREVIATED_LEN, then-a-le-ABBREVIATED_LEN-via-else-a-le-ABBREVIATED_LEN+then-b-le-ABBREVIATED_LEN}
use Rattle.mvcc_key.proofs.abbreviated.cmp_keys.Goals as goal

pub returns-then-a-le-ABBREVIATED_LEN : goal.returns-then-a-le-ABBREVIATED_LEN
returns-then-a-le-ABBREVIATED_LEN c =
    let a = c.args.a.now in
    let b = c.args.b.now in
    let short : (length a ≤ 8) ⊎ (length b ≤ 8) =
    elim c.then-a-le-ABBREVIATED_LEN.branch [
      | then-a-le-ABBREVIATED_LEN-via-then-a-le-ABBREVIATED_LEN w ↦ inl w.if-a-le-ABBREVIATED_LEN.true
      | then-a-le-ABBREVIATED_LEN-via-else-a-le-ABBREVIATED_LEN+then-b-le-ABBREVIATED_LEN w ↦ inr w.if-b-le-ABBREVIATED_LEN.true
    ] in
    c.cmp.ensures ∙ sym (keys-one a b (λ i. (c.type_inv.a i).fits) (λ i. (c.type_inv.b i).fits) c.requires short)

pub returns : goal.returns
returns c =
    let a = c.args.a.now in
    let b = c.args.b.now in
    c.cmp-2.ensures ∙ (rw (c.split_at.ensures.back, c.split_at-2.ensures.back) (sym (keys-past a b (λ i. (c.type_inv.a i).fits) (λ i. (c.type_inv.b i).fits) c.requires (omega arith) (omega arith))))
