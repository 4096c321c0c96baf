use Rattle.std.proofs.Common.{◌∙◌, sym, ap, subst, take, drop}
use Rattle.mvcc_key.specs.Canonical.{IsCanonical}
use Rattle.mvcc_key.specs.Fragments.{cut_to}
use Rattle.mvcc_key.specs.Pieces.{StartsFrom}
use Rattle.range_key.proofs.PartLaws.{canonical-drop, cut_to-overlapping}
use Rattle.range_key.proofs.cut.overlapping.Goals as goal

pub starting_below-requires : goal.starting_below-requires
starting_below-requires c = subst IsCanonical (sym c.split_at.ensures.back) (canonical-drop c.ending_by.result c.args.fragments.now c.requires)

pub returns : goal.returns
returns c =
    let n = c.ending_by.result in
    let m = c.starting_below.result in
    let behind = subst (λ us. StartsFrom c.args.end.now (drop m us)) c.split_at.ensures.back c.starting_below.ensures.from in
    ap (cut_to c.args.start.now c.args.end.now) (c.split_at-2.ensures.front ∙ ap (take m) c.split_at.ensures.back)
    ∙ cut_to-overlapping c.args.start.now c.args.end.now n m c.args.fragments.now c.requires c.ending_by.ensures.before behind
