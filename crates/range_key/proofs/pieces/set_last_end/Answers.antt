use Rattle.std.proofs.Common.{◌+◌, ◌-◌, ◌∙◌, ap, length, arith, set, ◌≡◌}
use Rattle.mvcc_key.specs.Fragments.{Fragment}
use Rattle.mvcc_key.specs.Pieces.{piece}
use Rattle.range_key.proofs.JoiningLaws.{with_last_end-at}
use Rattle.range_key.proofs.pieces.set_last_end.Goals as goal

pub returns-in-Some : goal.returns-in-Some
returns-in-Some c =
    let item = c.in-Some.ensures.item in
    let some : length c.args.pieces.now - 1 + 1 ≡ length c.args.pieces.now = omega (arith, item.3.0) in
    ap (λ (g : Fragment). set c.args.pieces.now (length c.args.pieces.now - 1) (piece g.start c.args.end g.stack)) c.last.view_is
    ∙ with_last_end-at c.args.pieces.now (length c.args.pieces.now - 1) c.in-Some.last.now c.args.end some item.1
