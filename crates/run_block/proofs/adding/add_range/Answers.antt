use Rattle.std.proofs.Common.{ap, ◌∙◌}
use Rattle.run_block.specs.views.Places.{points_in}
use Rattle.run_block.proofs.AddingLaws.{index-next, points-next, ranges-added}
use Rattle.run_block.proofs.adding.add_range.Goals as goal

pub returns-clause-index : goal.returns-clause-index
returns-clause-index c =
    c.in_ok-add_range.ensures.index _ (index-next c.args.out.now.items _ _ c.args.index.now c.in_ok-place.ensures.items c.requires.index) c.in_ok-place.ensures.placed

pub returns-clause-points : goal.returns-clause-points
returns-clause-points c =
    ap (points_in c.put_range.new.out.items) c.in_ok-add_range.ensures.points
    ∙ points-next c.args.out.now.items c.put_range.new.out.items _ c.args.index.now c.in_ok-place.ensures.items c.requires.index

pub returns-clause-ranges : goal.returns-clause-ranges
returns-clause-ranges c =
    ranges-added c.args.out.now.items c.put_range.new.out.items _ c.args.index.now c.add_range.new.self c.in_ok-place.place _ c.in_ok-place.ensures.items c.requires.index
    c.in_ok-add_range.ensures.ranges c.in_ok-place.ensures.range
