-- The plan of one key as the change from the history before to the history after.
use Rattle.std.specs.Prelude.{◌≡◌, ℕ, ◌≤◌, pos, true, false, List, [], ◌∷◌, ◌++◌, length, map, filter, option_map, Some, None, Ok, not}
use Rattle.std.proofs.Common.{refl, sym, ap, subst, ◌∙◌, arith}
use Rattle.mvcc_key.specs.Order.{Key, is_same_key}
use Rattle.mvcc_key.specs.History.{Intent, History, intent_of, without_intent, versions_of}
use Rattle.mvcc_key.specs.Fragments.{fragments}
use Rattle.mvcc_key.specs.Field.{Field}
use Rattle.mvcc_key.specs.views.SeenPoint.{points_of}
use Rattle.mvcc_key.specs.declared.batch.Batch.{Batch}
use Rattle.mvcc_key.specs.declared.batch.PointOp.{PointOp}
use Rattle.mvcc_key.proofs.HistoryLaws.{intent_of-key}
use Rattle.mvcc_key.proofs.EachLaws.{All-split, All-append, All-map, All-unmap, All-filter}
use Rattle.mvcc_key.proofs.TimeLaws.{up_to_timed}
use Rattle.intent_meta.specs.StoredPairs.{stored_pairs}
use Rattle.intent_meta.specs.PointPairs.{with_points}
use Rattle.intent_meta.specs.Valid.{IsValid}
use Rattle.intent_meta.proofs.ChangedLaws.{intent_of-stored}
use Rattle.intent_meta.proofs.ReadBackLaws.{stored_timed}
use Rattle.stat_core.specs.ComputeStats.{compute_stats}
use Rattle.stat_core.specs.views.Seen.{number}
use Rattle.stat_delta.specs.Moments.{stored_walls, greatest, IsStoredBy}
use Rattle.stat_delta.specs.Laws.{stored_change}
use Rattle.stat_delta.specs.Shapes.{intent_shape}
use Rattle.stat_delta.specs.declared.change.Change.{Change}
use Rattle.stat_delta.proofs.ChangesOverLaws.{difference-itself}
use Rattle.stat_delta.proofs.MomentLaws.{nothing_moves, version_moves, intent_moves}
use Rattle.stat_delta.proofs.ShortLaws.{value-short, intent-short}
use Rattle.key_top.specs.Laws.{StandsInFront}
use Rattle.key_top.specs.Top.{IsShortFront, IsShortTop, front_change, moment_of, top_in}
use Rattle.key_top.specs.views.Seen.{seen_front, seen_top}
use Rattle.key_top.proofs.TopLaws.{front-change, top-short}
use Rattle.intent_resolve.specs.Resolve.{Update, Resolution, Gone, Stays, Becomes, resolution, resolved, is_of, of_update}
use Rattle.intent_resolve.specs.Resolved.{FitsIntent, IsStoredResolution}
use Rattle.intent_resolve.specs.Planned.{IsPlannedResolve}
use Rattle.intent_resolve.specs.views.KeyPlan.{IsKeyPlan}
use Rattle.intent_resolve.specs.views.Left.{left_by, left_points}
use Rattle.intent_resolve.specs.views.Front.{front_by, front_left}
use Rattle.intent_resolve.specs.declared.key_plan.KeyPlan.{KeyPlan}
use Rattle.intent_resolve.proofs.FormLaws.{resolution_fits, resolution_stored}
use Rattle.intent_resolve.proofs.PairsLaws.{resolution_stores}
use Rattle.intent_resolve.proofs.PointLaws.{IsTimedLeft, left_points-pairs}
use Rattle.intent_resolve.proofs.ResolveLaws.{resolved_is, resolved_changes_only, resolved_keeps_valid, resolve-own, resolve-none}

-- ---- moments

-- nothing is after a moment where an intent goes
without-by : (last : ℕ) (key : Key) (h : History) → IsStoredBy last h → IsStoredBy last (without_intent key h)
without-by last key h by =
    let of_versions : List ℕ = map (λ v. v.ts.wall) h.versions in
    let of_intents : List ℕ = map (λ i. i.ts.wall) h.intents in
    let of_tombstones : List ℕ = map (λ t. t.ts.wall) h.tombstones in
    let left : List Intent = filter (λ i. not (is_same_key i.key key)) h.intents in
    let two = All-split (λ w. w ≤ last) (of_versions ++ of_intents) of_tombstones by in
    let one = All-split (λ w. w ≤ last) of_versions of_intents two.0 in
    All-append (λ w. w ≤ last) (of_versions ++ map (λ i. i.ts.wall) left) of_tombstones
    (All-append (λ w. w ≤ last) of_versions (map (λ i. i.ts.wall) left) one.0
    (All-map (λ w. w ≤ last) (λ i. i.ts.wall) left
    (All-filter (λ i. i.ts.wall ≤ last) (λ i. not (is_same_key i.key key)) h.intents (All-unmap (λ w. w ≤ last) (λ i. i.ts.wall) h.intents one.1))))
    two.1

-- the moment after a resolution is the latest of all that is stored then
pub moment-is : (last : ℕ) (h : History) (key : Key) (r : Resolution) → IsStoredBy last h → greatest last (stored_walls (resolved key h r)) ≡ moment_of last (front_by r)
moment-is last h key Gone by = nothing_moves last (without_intent key h) (without-by last key h by)
moment-is last h key (Stays n) by = intent_moves last h n by
moment-is last h key (Becomes v) by = version_moves last (without_intent key h) v (without-by last key h by)

-- ---- lengths

-- what is left of an intent, told by its bytes
pub front-left : (r : Resolution) → front_left (left_by r) ≡ front_by r
front-left Gone = refl
front-left (Stays n) = refl
front-left (Becomes v) = refl

module _ (h : History) (valid : IsValid h) where
  -- the top of a key with an intent is short
  pub own_top-short : (key : Key) (i : Intent) → intent_of key h ≡ Some i → IsShortTop (top_in h key)
  own_top-short key i was =
      let stored = intent_of-stored key h i valid was in
      let bound = (stored.key).1 in
      let same : length i.key ≡ length key = ap length (intent_of-key key h i was) in
      top-short h key valid (omega (arith, bound, same))

  -- so is what is left of its intent
  pub left-short : (r : Resolution) → IsStoredResolution h r → IsShortFront (front_by r)
  left-short Gone stored = tt
  left-short (Stays n) stored = intent-short h n stored
  left-short (Becomes v) stored = value-short v.body v.local v.ts stored.body

  module _ (i : Intent) (was : intent_of i.key h ≡ Some i) where
    -- what is left has a timestamp
    pub left-timed : (r : Resolution) → FitsIntent i r → IsTimedLeft r
    left-timed Gone fits = tt
    left-timed (Stays n) fits = tt
    left-timed (Becomes v) fits = up_to_timed i.ts v.ts fits.no_lower (stored_timed i.ts (intent_of-stored i.key h i valid was).ts)

    -- ---- statistics

    -- what is left stands in front of the versions of the key
    left-stands : (r : Resolution) → FitsIntent i r → StandsInFront (resolved i.key h r) i.key (versions_of i.key h) (front_by r)
    left-stands Gone fits =
        let to = resolved_is h i Gone valid was fits in
        record { new = []; intent_is = ap (option_map intent_shape) to.intent; versions_are = to.versions; new_are = refl }
    left-stands (Stays n) fits =
        let to = resolved_is h i (Stays n) valid was fits in
        record { new = []; intent_is = ap (option_map intent_shape) to.intent; versions_are = to.versions; new_are = refl }
    left-stands (Becomes v) fits =
        let to = resolved_is h i (Becomes v) valid was fits in
        record { new = v ∷ []; intent_is = ap (option_map intent_shape) to.intent; versions_are = to.versions; new_are = refl }

    -- it changes the statistics of what is stored by what it changes for the top of the key
    pub change-is : (now : ℕ) (r : Resolution) (f : Field) → FitsIntent i r → IsValid (resolved i.key h r)
        → front_change now (top_in h i.key) (front_by r) f ≡ stored_change now (fragments h.tombstones) h (resolved i.key h r) f
    change-is now r f fits after =
        front-change now h (resolved i.key h r) i.key (front_by r) f valid after (resolved_changes_only h i r fits).others (left-stands r fits)

-- ---- the plan of one key

-- its moment is that after what is left, and its delta is by how much that changes the statistics then
pub record Counts (last : ℕ) (plan : KeyPlan) (change : Change) : Type 0 where
  pub batch : change.batch ≡ record { points = plan.points; ranges = [] }
  pub moment : change.last ≡ moment_of last (seen_front plan.left)
  pub delta : (f : Field) → number f change.delta ≡ front_change change.last (seen_top plan.top) (seen_front plan.left) f

module _ (h : History) (last : ℕ) (u : Update) (plan : KeyPlan) (valid : IsValid h) where
  -- what is left of the intent may be stored
  pub plan-stored : (key : Key) (is : IsKeyPlan h key u plan) → IsStoredResolution h is.resolution_is
  plan-stored key is = resolution_stored u h is.intent is.resolution_is (intent_of-stored key h is.intent valid is.was) is.fits is.resolves

  -- the lengths of a plan are short
  pub plan-top : (key : Key) → IsKeyPlan h key u plan → IsShortTop (seen_top plan.top)
  plan-top key is = subst IsShortTop (sym is.top) (own_top-short h valid key is.intent is.was)

  pub plan-left : (key : Key) → IsKeyPlan h key u plan → IsShortFront (seen_front plan.left)
  plan-left key is = subst IsShortFront (sym is.left) (left-short h valid is.resolution_is (plan-stored key is))

  -- the change of the plan of an intent's key
  change-own : (change : Change) (i : Intent) (r : Resolution) → IsStoredBy last h → Counts last plan change
      → intent_of i.key h ≡ Some i → is_of u i ≡ true → resolution u.status u i ≡ Ok r → IsStoredResolution h r
      → points_of plan.points ≡ left_points i.key i.ts (left_by r) → seen_top plan.top ≡ top_in h i.key → seen_front plan.left ≡ front_by r
      → IsPlannedResolve h last i.key u change true
  change-own change i r by told was own resolves stored points top left =
      let fits : FitsIntent i r = resolution_fits u i r resolves in
      let after : IsValid (resolved i.key h r) = resolved_keeps_valid h i r valid was fits stored in
      record {
        after = resolved i.key h r;
        taken = resolve-own h u i r was own resolves;
        change_is = record {
          valid = after;
          pairs = resolution_stores h i r valid was fits
              ∙ sym (left_points-pairs h i r (left-timed h valid i was r fits) fits)
              ∙ ap (λ ps. with_points ps (stored_pairs h)) (sym points)
              ∙ ap (λ (ops : List PointOp). with_points (points_of ops) (stored_pairs h)) (sym (ap (λ (b : Batch). b.points) told.batch));
          ranges = ap (λ (b : Batch). b.ranges) told.batch;
          tombstones = (resolved_changes_only h i r fits).tombstones;
          moment = told.moment ∙ ap (moment_of last) left ∙ sym (moment-is last h i.key r by);
          delta = λ f. told.delta f ∙ (λ j. front_change change.last (top j) (left j) f) ∙ change-is h valid i was change.last r f fits after;
        };
      }

  -- the change of a plan is that from the history to the one after it
  pub planned-own : (key : Key) (change : Change) → IsStoredBy last h → Counts last plan change → IsKeyPlan h key u plan → IsPlannedResolve h last key u change true
  planned-own key change by told is =
      let i : Intent = is.intent in
      subst (λ (k : Key). intent_of k h ≡ Some i → points_of plan.points ≡ left_points k i.ts (left_by is.resolution_is) → seen_top plan.top ≡ top_in h k → IsPlannedResolve h last k u change true)
      (intent_of-key key h i is.was)
      (λ was points top. change-own change i is.resolution_is by told was is.own is.resolves (plan-stored key is) points top is.left)
      is.was is.points is.top

-- where the key has no intent of the transaction nothing changes
pub planned-none : (h : History) (last : ℕ) (key : Key) (u : Update) (change : Change) → IsValid h → IsStoredBy last h → of_update u (intent_of key h) ≡ None
    → change.batch ≡ record { points = []; ranges = [] } → change.last ≡ last → ((f : Field) → number f change.delta ≡ pos 0)
    → IsPlannedResolve h last key u change false
planned-none h last key u change valid by none batch moment delta = record {
  after = h;
  taken = resolve-none h key u none;
  change_is = record {
    valid = valid;
    pairs = sym (ap (λ (b : Batch). with_points (points_of b.points) (stored_pairs h)) batch);
    ranges = ap (λ (b : Batch). b.ranges) batch;
    tombstones = refl;
    moment = moment ∙ sym (nothing_moves last h by);
    delta = λ f. delta f ∙ sym (difference-itself (compute_stats change.last (stored_pairs h) (fragments h.tombstones)) f);
  };
}
