use Rattle.std.proofs.Common.{◌≡◌, [], ◌∷◌, ◌++◌, ap, ◌∙◌, sym, subst}
use Rattle.mvcc_key.specs.Batches.{AreEntries}
use Rattle.mvcc_key.specs.Order.{no_time}
use Rattle.mvcc_key.specs.views.Seen.{time_of}
use Rattle.intent_meta.proofs.StoredLaws.{record_before}
use Rattle.std.specs.Prelude.{IfSome}
use Rattle.write_rule.specs.views.Points.{IsLeft}
use Rattle.write_rule.proofs.OpsLaws.{two_entries, three_entries, newer_before, names_less}
use Rattle.write_rule.proofs.ops.intent_ops.Goals as goal
use Rattle.write_rule.proofs.ops.intent_ops.Goals.{in-Some+in_ok-cleared+in_ok-push-3, in_default}

pub returns-clause-batch : goal.returns-clause-batch
returns-clause-batch c =
    let key = c.args.key.now in
    let a = c.in_ok-head.head in
    let b = c.in_ok-version.version in
    let ts = time_of c.args.ts in
    let first = ap (λ p. p.name) c.in_ok-head.ensures.point in
    let second = ap (λ p. p.name) c.in_ok-version.ensures.point in
    let less = names_less a b (record { key = key; ts = no_time }) (record { key = key; ts = ts }) first second (record_before key ts c.requires.time) in
    let one : c.push.new.self ≡ a ∷ [] = c.in_ok-push.ensures.ok ∙ ap (λ l. l ++ a ∷ []) c.new-points.ensures in
    let two : c.push-2.new.self ≡ a ∷ b ∷ [] = c.in_ok-push-2.ensures.ok ∙ ap (λ l. l ++ b ∷ []) one in
    elim c.match-left.branch [
      | in-Some+in_ok-cleared+in_ok-push-3 w ↦
          let d = w.in_ok-cleared.field-0 in
          let left = time_of w.in-Some.left in
          let behind = subst (λ o. IfSome o (λ l. IsLeft (time_of l) ts)) w.in-Some.is c.requires.left in
          let third = ap (λ p. p.name) w.in_ok-cleared.ensures.point in
          let older = names_less b d (record { key = key; ts = ts }) (record { key = key; ts = left }) second third (newer_before key left ts behind.some c.requires.time behind.before) in
          let three : c.match-left.points ≡ a ∷ b ∷ d ∷ [] = w.points-is ∙ w.in_ok-push-3.ensures.ok ∙ ap (λ l. l ++ d ∷ []) two in
          subst AreEntries (sym three) (three_entries a b d c.in_ok-head.ensures.storable c.in_ok-version.ensures.storable w.in_ok-cleared.ensures.storable less older)
      | in_default w ↦ subst AreEntries (sym (w.points-is ∙ two)) (two_entries a b c.in_ok-head.ensures.storable c.in_ok-version.ensures.storable less)
    ]
