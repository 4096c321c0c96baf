use Rattle.std.proofs.Common.{◌≡◌, [], ◌∷◌, ◌++◌, ap, ◌∙◌, sym, subst}
use Rattle.mvcc_key.specs.Batches.{AreEntries}
use Rattle.mvcc_key.specs.Order.{no_time}
use Rattle.mvcc_key.specs.views.Seen.{time_of}
use Rattle.mvcc_key.specs.views.SeenPoint.{points_of}
use Rattle.intent_meta.proofs.StoredLaws.{record_before}
use Rattle.write_rule.proofs.OpsLaws.{two_entries, names_less}
use Rattle.intent_resolve.proofs.points.gone_points.Goals as goal

pub returns-clause-points : goal.returns-clause-points
returns-clause-points c =
    let a = c.in_ok-head.head in
    let b = c.in_ok-version.version in
    let one : c.push.new.self ≡ a ∷ [] = c.in_ok-push.ensures.ok ∙ ap (λ l. l ++ a ∷ []) c.new-points.ensures in
    let two : c.push-2.new.self ≡ a ∷ b ∷ [] = c.in_ok-push-2.ensures.ok ∙ ap (λ l. l ++ b ∷ []) one in
    ap points_of two ∙ λ j. c.in_ok-head.ensures.point j ∷ c.in_ok-version.ensures.point j ∷ []

pub returns-clause-batch : goal.returns-clause-batch
returns-clause-batch c =
    let key = c.args.key.now in
    let a = c.in_ok-head.head in
    let b = c.in_ok-version.version in
    let old = time_of c.args.old in
    let first = ap (λ p. p.name) c.in_ok-head.ensures.point in
    let second = ap (λ p. p.name) c.in_ok-version.ensures.point in
    let less = names_less a b (record { key = key; ts = no_time }) (record { key = key; ts = old }) first second (record_before key old c.requires.time) in
    let one : c.push.new.self ≡ a ∷ [] = c.in_ok-push.ensures.ok ∙ ap (λ l. l ++ a ∷ []) c.new-points.ensures in
    let two : c.push-2.new.self ≡ a ∷ b ∷ [] = c.in_ok-push-2.ensures.ok ∙ ap (λ l. l ++ b ∷ []) one in
    subst AreEntries (sym two) (two_entries a b c.in_ok-head.ensures.storable c.in_ok-version.ensures.storable less)
