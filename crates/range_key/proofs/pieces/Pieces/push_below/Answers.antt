use Rattle.std.proofs.Common.{◌∙◌, ap}
use Rattle.mvcc_key.specs.Order.{Key}
use Rattle.mvcc_key.specs.Fragments.{part_within}
use Rattle.range_key.specs.views.Joining.{joined_on}
use Rattle.range_key.proofs.PartLaws.{cut_below-first}
use Rattle.range_key.proofs.pieces.Pieces.push_below.Goals as goal

pub returns-in_ok-push_part : goal.returns-in_ok-push_part
returns-in_ok-push_part c =
    let item = c.in-Some.ensures.item in
    c.in_ok-push_part.ensures
    ∙ ap (λ (start : Key). joined_on c.args.self.now (part_within start c.args.key.now c.in-Some.first.now)) c.start_bytes.ensures
    ∙ ap (joined_on c.args.self.now)
    (cut_below-first c.args.key.now c.args.fragments.now c.in-Some.first.now c.requires.canonical c.requires.from item.3.0 item.1)
