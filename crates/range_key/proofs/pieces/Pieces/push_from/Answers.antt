use Rattle.std.proofs.Common.{◌∙◌, ◌+◌, ◌-◌, ◌≡◌, ap, length, arith}
use Rattle.mvcc_key.specs.Order.{Key}
use Rattle.mvcc_key.specs.Fragments.{part_within}
use Rattle.range_key.specs.views.Joining.{joined_on}
use Rattle.range_key.proofs.PartLaws.{cut_from-last}
use Rattle.range_key.proofs.pieces.Pieces.push_from.Goals as goal

pub returns-in_ok-push_part : goal.returns-in_ok-push_part
returns-in_ok-push_part c =
    let item = c.in-Some.ensures.item in
    let some : length c.args.fragments.now - 1 + 1 ≡ length c.args.fragments.now = omega (arith, item.3.0) in
    c.in_ok-push_part.ensures
    ∙ ap (λ (end : Key). joined_on c.args.self.now (part_within c.args.key.now end c.in-Some.last.now)) c.end_bytes.ensures
    ∙ ap (joined_on c.args.self.now)
    (cut_from-last c.args.key.now c.args.fragments.now (length c.args.fragments.now - 1) c.in-Some.last.now c.requires.canonical c.requires.by some item.1)
