-- What the points of a write put on top of its key.
use Rattle.std.specs.Prelude.{◌≡◌, ℕ, ◌<◌, ◌≤◌, List, [], ◌∷◌, length, Some}
use Rattle.std.proofs.Common.{ap, ◌∙◌, arith, get_or}
use Rattle.mvcc_key.specs.Order.{Key, Pair}
use Rattle.mvcc_key.specs.History.{Changed, History, intent_of}
use Rattle.mvcc_key.specs.views.SeenPoint.{point_of, points_of}
use Rattle.mvcc_key.specs.declared.batch.PointOp.{PointOp}
use Rattle.intent_meta.specs.PointPairs.{set_point}
use Rattle.intent_meta.specs.StoredPairs.{RecordOf, VersionOf, provisional, stored_pair}
use Rattle.stat_core.specs.DeadSince.{VersionShape, shape_of}
use Rattle.write_rule.specs.Outcome.{Outcome, Replayed, Added, Left}
use Rattle.write_rule.specs.Planned.{points_for}
use Rattle.write_rule.specs.Write.{WriteAnswer, WriteRequest, new_version, new_intent}
use Rattle.key_top.specs.Top.{Version, Intent}
use Rattle.mvcc_put.specs.views.Written.{written_for}

-- one point is a version
pub version-written : (ops : List PointOp) (op : PointOp) (shape : VersionShape) → 1 ≤ length ops → length ops < 2 → op ≡ get_or ops 0 op
    → ((p : Pair) → point_of op ≡ set_point p → shape ≡ shape_of p)
    → (h : History) (key : Key) (w : WriteRequest) (c : Changed WriteAnswer) (outcome : Outcome h key w c) → points_of ops ≡ points_for outcome
    → Some (Version shape) ≡ written_for outcome
version-written [] op shape some few is tells h key w c outcome e = absurd (omega arith)
version-written (x ∷ []) op shape some few is tells h key w c (Replayed t inside same) e = absurd cc
version-written (x ∷ []) op shape some few is tells h key w c (Added ts body outside formed put) e =
    let here : point_of x ≡ set_point (stored_pair (VersionOf (new_version key ts w.local body))) = cc in
    ap (λ s. Some (Version s)) (tells (stored_pair (VersionOf (new_version key ts w.local body))) (ap point_of is ∙ here))
version-written (x ∷ []) op shape some few is tells h key w c (Left t body inside formed put) e = absurd cc
version-written (x ∷ y ∷ ops) op shape some few is tells h key w c outcome e = absurd (omega arith)

-- two or more are an intent
pub intent-written : (ops : List PointOp) (record_op provisional_op : PointOp) (record_length : ℕ) (shape : VersionShape) → 2 ≤ length ops
    → record_op ≡ get_or ops 0 record_op → provisional_op ≡ get_or ops 1 provisional_op
    → ((p : Pair) → point_of record_op ≡ set_point p → record_length ≡ length p.value)
    → ((p : Pair) → point_of provisional_op ≡ set_point p → shape ≡ shape_of p)
    → (h : History) (key : Key) (w : WriteRequest) (c : Changed WriteAnswer) (outcome : Outcome h key w c) → points_of ops ≡ points_for outcome
    → Some (Intent (record { record_length = record_length; provisional = shape })) ≡ written_for outcome
intent-written [] r p len shape some is is' tells tells' h key w c outcome e = absurd (omega arith)
intent-written (x ∷ []) r p len shape some is is' tells tells' h key w c outcome e = absurd (omega arith)
intent-written (x ∷ y ∷ ops) r p len shape some is is' tells tells' h key w c (Replayed t inside same) e = absurd cc
intent-written (x ∷ y ∷ ops) r p len shape some is is' tells tells' h key w c (Added ts body outside formed put) e = absurd cc
intent-written (x ∷ y ∷ ops) r p len shape some is is' tells tells' h key w c (Left t body inside formed put) e =
    let new = new_intent key t (intent_of key h) w.local body in
    let here : point_of x ≡ set_point (stored_pair (RecordOf new)) = cc in
    let next : point_of y ≡ set_point (stored_pair (VersionOf (provisional new))) = cc in
    let lengths = tells (stored_pair (RecordOf new)) (ap point_of is ∙ here) in
    let shapes = tells' (stored_pair (VersionOf (provisional new))) (ap point_of is' ∙ next) in
    λ i. Some (Intent (record { record_length = lengths i; provisional = shapes i }))
