use Rattle.std.proofs.Common.{◌≡◌, ℕ, List, Option, [], ◌∷◌, ◌++◌, Some, None, ap, ◌∙◌, sym, subst}
use Rattle.std.specs.Prelude.{IfSome, option_map}
use Rattle.mvcc_key.specs.Batches.{AreEntries}
use Rattle.mvcc_key.specs.Order.{Key, Timestamp, no_time}
use Rattle.mvcc_key.specs.Points.{Point}
use Rattle.mvcc_key.specs.views.Seen.{time_of}
use Rattle.mvcc_key.specs.views.SeenPoint.{point_of, points_of}
use Rattle.intent_meta.proofs.StoredLaws.{record_before}
use Rattle.write_rule.specs.views.Points.{IsLeft}
use Rattle.write_rule.proofs.OpsLaws.{two_entries, three_entries, newer_before, names_less}
use Rattle.mvcc_cursor.specs.views.Lent.{LentVersion}
use Rattle.intent_resolve.specs.views.Left.{cleared_if, kept_points, point_at, seen_new, time_left}
use Rattle.intent_resolve.proofs.points.put_points.Goals as goal
use Rattle.intent_resolve.proofs.points.put_points.Goals.{in-Some+in_ok-operation-in-Some+in_ok-push-in-Some, in-None}

-- the points where an old version is left behind
behind : (key : Key) (old left : Timestamp) (head : Option (List ℕ)) (v : LentVersion) (a b d : Point) → a ≡ point_at key no_time head → b ≡ point_at key v.ts (Some v.value) → d ≡ point_at key left None
    → Some left ≡ time_left old v.ts → a ∷ b ∷ d ∷ [] ≡ kept_points key old head v
behind key old left head v a b d e f g is =
    (λ j. e j ∷ f j ∷ g j ∷ []) ∙ ap (λ (o : Option Timestamp). point_at key no_time head ∷ point_at key v.ts (Some v.value) ∷ cleared_if key o) is

-- and where none is
in_place : (key : Key) (old : Timestamp) (head : Option (List ℕ)) (v : LentVersion) (a b : Point) → a ≡ point_at key no_time head → b ≡ point_at key v.ts (Some v.value) → None ≡ time_left old v.ts
    → a ∷ b ∷ [] ≡ kept_points key old head v
in_place key old head v a b e f is =
    (λ j. e j ∷ f j ∷ []) ∙ ap (λ (o : Option Timestamp). point_at key no_time head ∷ point_at key v.ts (Some v.value) ∷ cleared_if key o) is

pub returns-clause-points : goal.returns-clause-points
returns-clause-points c =
    let key = c.args.key.now in
    let old = time_of c.args.old in
    let v = seen_new c.args.version in
    let a = c.in_ok-head.head in
    let b = c.in_ok-new.new in
    let one : c.push.new.self ≡ a ∷ [] = c.in_ok-push.ensures.ok ∙ ap (λ l. l ++ a ∷ []) c.new-points.ensures in
    let two : c.push-2.new.self ≡ a ∷ b ∷ [] = c.in_ok-push-2.ensures.ok ∙ ap (λ l. l ++ b ∷ []) one in
    elim c.match-behind.branch [
      | in-Some+in_ok-operation-in-Some+in_ok-push-in-Some w ↦
          let d = w.in_ok-operation-in-Some.field-0 in
          let three : c.match-behind.points ≡ a ∷ b ∷ d ∷ [] = w.points-is ∙ w.in_ok-push-in-Some.ensures.ok ∙ ap (λ l. l ++ d ∷ []) two in
          let left = ap (option_map time_of) (sym w.in-Some.is) ∙ c.left_behind-behind.ensures.value in
          ap points_of three ∙ behind key old (time_of w.in-Some.left) c.args.head v (point_of a) (point_of b) (point_of d) c.in_ok-head.ensures.point c.in_ok-new.ensures.point w.in_ok-operation-in-Some.ensures.point left
      | in-None w ↦
          let left = ap (option_map time_of) (sym w.in-None.is) ∙ c.left_behind-behind.ensures.value in
          ap points_of (w.points-is ∙ two) ∙ in_place key old c.args.head v (point_of a) (point_of b) c.in_ok-head.ensures.point c.in_ok-new.ensures.point left
    ]

pub returns-clause-batch : goal.returns-clause-batch
returns-clause-batch c =
    let key = c.args.key.now in
    let a = c.in_ok-head.head in
    let b = c.in_ok-new.new in
    let ts = time_of c.args.version.ts in
    let first = ap (λ p. p.name) c.in_ok-head.ensures.point in
    let second = ap (λ p. p.name) c.in_ok-new.ensures.point in
    let less = names_less a b (record { key = key; ts = no_time }) (record { key = key; ts = ts }) first second (record_before key ts (c.requires.version).some) in
    let one : c.push.new.self ≡ a ∷ [] = c.in_ok-push.ensures.ok ∙ ap (λ l. l ++ a ∷ []) c.new-points.ensures in
    let two : c.push-2.new.self ≡ a ∷ b ∷ [] = c.in_ok-push-2.ensures.ok ∙ ap (λ l. l ++ b ∷ []) one in
    elim c.match-behind.branch [
      | in-Some+in_ok-operation-in-Some+in_ok-push-in-Some w ↦
          let d = w.in_ok-operation-in-Some.field-0 in
          let left = time_of w.in-Some.left in
          let behind = subst (λ o. IfSome o (λ l. IsLeft (time_of l) ts)) w.in-Some.is (c.left_behind-behind.ensures.left c.requires.time (c.requires.version).up) in
          let third = ap (λ p. p.name) w.in_ok-operation-in-Some.ensures.point in
          let older = names_less b d (record { key = key; ts = ts }) (record { key = key; ts = left }) second third (newer_before key left ts behind.some (c.requires.version).some behind.before) in
          let three : c.match-behind.points ≡ a ∷ b ∷ d ∷ [] = w.points-is ∙ w.in_ok-push-in-Some.ensures.ok ∙ ap (λ l. l ++ d ∷ []) two in
          subst AreEntries (sym three) (three_entries a b d c.in_ok-head.ensures.storable c.in_ok-new.ensures.storable w.in_ok-operation-in-Some.ensures.storable less older)
      | in-None w ↦ subst AreEntries (sym (w.points-is ∙ two)) (two_entries a b c.in_ok-head.ensures.storable c.in_ok-new.ensures.storable less)
    ]
