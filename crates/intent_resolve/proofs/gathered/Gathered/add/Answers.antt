use Rattle.std.proofs.Common.{refl, ap, ◌∙◌}
use Rattle.std.specs.Prelude.{◌+ℤ◌}
use Rattle.stat_core.specs.views.Seen.{number}
use Rattle.intent_resolve.proofs.AddLaws.{added}
use Rattle.intent_resolve.proofs.gathered.Gathered.add.Goals as goal

pub returns : goal.returns
returns c h last u ds key valid g is =
    added c.args.plan c.args.self.now _
    (record {
      points = c.in_ok-append_points.ensures.points;
      ranges = c.in_ok-append_points.ensures.ranges;
      last_is = refl;
      later_is = refl;
      still = λ f. c.in_ok-still.ensures.sum f ∙ ap (λ z. number f c.args.self.now.still +ℤ z) (c.front_delta-still.ensures.exact f);
      moved = λ f. c.in_ok-moved.ensures.sum f ∙ ap (λ z. number f c.args.self.now.moved +ℤ z) (c.front_delta-moved.ensures.exact f);
      leaves = c.leaves_with-leaves.ensures;
      count = c.in_ok-count.ensures;
    })
    h last u ds key g is
