use Rattle.std.proofs.Common.{◌≡◌, ◌∙◌, [], ◌∷◌, ◌++◌, ap, sym}
use Rattle.mvcc_key.specs.Points.{Point}
use Rattle.mvcc_key.specs.views.Seen.{time_of}
use Rattle.mvcc_key.specs.views.SeenPoint.{points_of}
use Rattle.mvcc_value.specs.views.Seen.{seen_body}
use Rattle.intent_meta.specs.PointPairs.{set_point}
use Rattle.write_rule.specs.views.Points.{pair_at}
use Rattle.write_rule.proofs.OpsLaws.{value_kept}
use Rattle.write_rule.proofs.points.version_points.Goals as goal

pub returns-clause-points : goal.returns-clause-points
returns-clause-points c =
    let op = c.in_ok-set.field-0 in
    let value = c.in_ok-value.ensures.value ∙ sym (value_kept (seen_body c.args.body) (time_of c.args.local) (time_of c.args.ts)) in
    let one : c.push.new.self ≡ op ∷ [] = c.in_ok-push.ensures.ok ∙ ap (λ l. l ++ op ∷ []) c.new-points.ensures in
    ap points_of one
    ∙ ap (λ (p : Point). p ∷ []) (c.in_ok-set.ensures.point ∙ ap (λ bytes. set_point (pair_at c.args.key.now (time_of c.args.ts) bytes)) value)
