use Rattle.std.proofs.Common.{◌∙◌}
use Rattle.run_block.proofs.AddingLaws.{index-next, points-added, behind-added}
use Rattle.run_block.proofs.adding.add_point.Goals as goal

pub add_point-requires-clause-index : goal.add_point-requires-clause-index
add_point-requires-clause-index c =
    index-next c.args.out.now.items c.as_slice.result.now _ c.args.index.now (c.as_slice.ensures.value ∙ c.in_ok-place.ensures.items) c.requires.index

pub returns-clause-points : goal.returns-clause-points
returns-clause-points c =
    points-added c.args.out.now.items c.put_point.new.out.items _ c.args.index.now c.add_point.new.self c.in_ok-place.place _ c.in_ok-place.ensures.items c.requires.index
    c.in_ok-add_point.ensures.points c.in_ok-place.ensures.point

pub returns-clause-behind : goal.returns-clause-behind
returns-clause-behind c = λ n le all.
    behind-added n _ c.args.index.now.points.items c.add_point.new.self.points.items c.in_ok-place.place c.in_ok-add_point.ensures.points le all c.in_ok-place.ensures.behind
