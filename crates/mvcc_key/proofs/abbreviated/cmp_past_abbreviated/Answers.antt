use Rattle.std.proofs.Common.{◌≡◌, sym, ap, ◌∙◌}
use Rattle.std.specs.declared.cmp.Ordering.{Ordering}
use Rattle.std.specs.declared.cmp.Ordering.TheVariants.{Equal}
use Rattle.std.specs.Ordering.{ordering_then}
use Rattle.mvcc_key.specs.Order.{key_cmp}
use Rattle.mvcc_key.specs.Encoded.{name_in}
use Rattle.mvcc_key.proofs.NamedLaws.{name_cmp-ranks, rank_cmp}
use Rattle.mvcc_key.proofs.abbreviated.cmp_past_abbreviated.Goals as goal

pub returns-in-Equal : goal.returns-in-Equal
returns-in-Equal c =
    let m = name_in c.args.a.now in
    let n = name_in c.args.b.now in
    let keys : key_cmp m.key n.key ≡ Equal = rw (← c.key_in.ensures, ← c.key_in-2.ensures) (sym c.cmp_keys.ensures ∙ c.in-Equal.is) in
    let whole = name_cmp-ranks c.args.a.now c.args.b.now c.requires.left c.requires.right ∙ ap (λ (o : Ordering). ordering_then o (rank_cmp m.ts n.ts)) keys in
    (rw (c.rank_in.ensures.wall, c.rank_in.ensures.logical, c.rank_in-in-Equal.ensures.wall, c.rank_in-in-Equal.ensures.logical) at c.cmp.ensures) ∙ sym whole
