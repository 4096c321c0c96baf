-- Keys that are deleted one after another: each is planned as it was, and the changes add up.
use Rattle.std.specs.Prelude.{◌≡◌, ℕ, ◌≤◌, ◌<◌, ◌+◌, max, ℤ, ◌+ℤ◌, pos, false, List, [], ◌∷◌, ◌++◌, length, take, drop, Option, Some, None, Result, Ok, Err}
use Rattle.std.specs.List.{AllByRecursion}
use Rattle.std.specs.List.Sorted.{IsStrictlySortedBy}
use Rattle.std.specs.declared.cmp.Ordering.TheVariants.{Less}
use Rattle.std.proofs.Common.{refl, sym, ap, subst, ◌∙◌, arith, get_or}
use Rattle.std.proofs.lemmas.List.{take-append-drop, drop_more}
use Rattle.mvcc_key.specs.Steps.{◌>>=◌}
use Rattle.mvcc_key.specs.Field.{Field}
use Rattle.mvcc_key.specs.Fragments.{fragments}
use Rattle.mvcc_key.specs.Order.{Timestamp, Key, key_cmp, is_same_key}
use Rattle.mvcc_key.specs.History.{Version, Intent, History, Changed, intent_of, versions_of}
use Rattle.mvcc_key.specs.Batches.{IsBatch}
use Rattle.mvcc_key.specs.Points.{point_cmp}
use Rattle.mvcc_key.specs.Refusal.{Refusal}
use Rattle.mvcc_key.specs.views.SeenPoint.{points_of}
use Rattle.mvcc_key.specs.declared.batch.Batch.{Batch}
use Rattle.mvcc_key.specs.declared.batch.PointOp.{PointOp}
use Rattle.mvcc_key.proofs.EachLaws.{All-split}
use Rattle.mvcc_key.proofs.PointLaws.{sorted-rising}
use Rattle.mvcc_key.proofs.SameKeyLaws.{below_differs, differs_back}
use Rattle.intent_meta.specs.Valid.{IsValid}
use Rattle.intent_meta.specs.LeftAlone.{AgreeAt, ChangesOnly}
use Rattle.intent_meta.specs.PointPairs.{with_points}
use Rattle.intent_meta.specs.StoredPairs.{stored_pairs}
use Rattle.intent_meta.proofs.ChangesOnlyLaws.{changes_only-agrees, agree_along}
use Rattle.intent_meta.proofs.KeyChangeLaws.{change_leaves_others, on_top-versions, in_place-intent}
use Rattle.intent_meta.proofs.ReadBackLaws.{stored_pairs-rise}
use Rattle.stat_core.specs.ComputeStats.{compute_stats}
use Rattle.stat_core.specs.views.Seen.{number}
use Rattle.stat_core.specs.declared.group.Group.{Group}
use Rattle.stat_delta.specs.Laws.{stored_change}
use Rattle.stat_delta.specs.Moments.{stored_walls, greatest, IsStoredBy}
use Rattle.stat_delta.specs.PointChange.{IsPointChange}
use Rattle.stat_delta.specs.declared.change.Change.{Change}
use Rattle.stat_delta.proofs.ChangesOverLaws.{difference-itself}
use Rattle.stat_delta.proofs.KeyDeltaLaws.{stored_change-add}
use Rattle.stat_delta.proofs.MomentLaws.{last_is_up_to, greatest_is_last, nothing_moves}
use Rattle.mvcc_key.specs.views.Seen.{time_of}
use Rattle.txn_state.specs.Transaction.{Txn, Actor, write_time}
use Rattle.txn_state.specs.views.Seen.{actor_of}
use Rattle.write_rule.specs.Outcome.{Outcome, Replayed, Added, Left}
use Rattle.write_rule.specs.Planned.{points_for}
use Rattle.write_rule.specs.Write.{WriteRequest, WriteAnswer, new_version, new_intent, raised_time, write}
use Rattle.write_rule.specs.views.Seen.{answer_of, kind_of, request_of, refusal_of, Tells}
use Rattle.write_rule.specs.declared.request.WriteKind.TheVariants as kind
use Rattle.write_rule.specs.declared.request.WriteRequest.{WriteRequest as Request}
use Rattle.write_rule.specs.declared.change.WriteAnswer.{WriteAnswer as CodeAnswer}
use Rattle.write_rule.specs.declared.fault.WriteFault.{WriteFault}
use Rattle.write_rule.proofs.WriteLaws.{outcome-change}
use Rattle.key_top.proofs.GatheringLaws.{points-append}
use Rattle.key_top.proofs.StoredByLaws.{intent-by, version-by, below_bound, later-keeps, later-high}
use Rattle.mvcc_put.specs.DeleteRange.{deletion, delete_each}
use Rattle.mvcc_put.specs.PlannedDeletes.{ArePlannedDeletes}
use Rattle.mvcc_put.specs.views.Gathered.{moment_with}
use Rattle.mvcc_put.specs.views.Planning.{IsPlannedWith, Plans}
use Rattle.mvcc_put.specs.views.Written.{moment_by, written_for}
use Rattle.mvcc_put.specs.declared.gathered.Gathered.{Gathered}
use Rattle.mvcc_put.proofs.OnTopLaws.{moment-is}
use Rattle.mvcc_put.proofs.PointsLaws.{first-rises, points-parts}

-- ---- one after another

-- the history after a write
abbrev after_of : Result (Changed WriteAnswer) Refusal → Result History Refusal
after_of r = r >>= λ c. Ok c.history

-- keys and one more are deleted as the one is after the others
delete_each-more : (who : Actor) (local : Timestamp) (h : History) (keys : List Key) (key : Key)
    → delete_each who local h (keys ++ key ∷ []) ≡ (delete_each who local h keys >>= λ g. after_of (write g key (deletion who local)))
unfolding delete_each
delete_each-more who local h [] key = refl
delete_each-more who local h (k ∷ keys) key = by (write h k (deletion who local)) (λ g. delete_each-more who local g keys key)
  where
    by : (x : Result (Changed WriteAnswer) Refusal)
        → ((g : History) → delete_each who local g (keys ++ key ∷ []) ≡ (delete_each who local g keys >>= λ f. after_of (write f key (deletion who local))))
        → (x >>= λ done. delete_each who local done.history (keys ++ key ∷ []))
        ≡ ((x >>= λ done. delete_each who local done.history keys) >>= λ f. after_of (write f key (deletion who local)))
    by (Ok c) rest = rest c.history
    by (Err why) rest = refl

-- where one is refused behind others that are deleted, so are all
pub delete_each-refused : (who : Actor) (local : Timestamp) (h : History) (keys rest : List Key) (g : History) (key : Key) (why : Refusal) → delete_each who local h keys ≡ Ok g
    → write g key (deletion who local) ≡ Err why → delete_each who local h (keys ++ key ∷ rest) ≡ Err why
unfolding delete_each
delete_each-refused who local h [] rest g key why done refused =
    let same : h ≡ g = cc in
    ap (λ (x : Result (Changed WriteAnswer) Refusal). x >>= λ d. delete_each who local d.history rest) (ap (λ f. write f key (deletion who local)) same ∙ refused)
delete_each-refused who local h (k ∷ keys) rest g key why done refused =
    by (write h k (deletion who local)) done (λ f e. delete_each-refused who local f keys rest g key why e refused)
  where
    by : (x : Result (Changed WriteAnswer) Refusal) → (x >>= λ d. delete_each who local d.history keys) ≡ Ok g
        → ((f : History) → delete_each who local f keys ≡ Ok g → delete_each who local f (keys ++ key ∷ rest) ≡ Err why)
        → (x >>= λ d. delete_each who local d.history (keys ++ key ∷ rest)) ≡ Err why
    by (Ok c) e rest = rest c.history e
    by (Err w) e rest = absurd cc

-- ---- keys that rise

-- of keys that rise those before one differ from it
pub before-differ : (keys : List Key) (key : Key) (rest : List Key) → IsStrictlySortedBy key_cmp (keys ++ key ∷ rest) → AllByRecursion (λ k. is_same_key k key ≡ false) keys
unfolding IsStrictlySortedBy
before-differ [] key rest rising = tt
before-differ (k ∷ keys) key rest rising =
    (below_differs k key (All-split (λ x. key_cmp k x ≡ Less) keys (key ∷ rest) rising.0).1.0, before-differ keys key rest rising.1)

-- a list about one of its elements
pub at-key : (keys : List Key) (i : ℕ) (key other : Key) → i < length keys → key ≡ get_or keys i other → keys ≡ take i keys ++ key ∷ drop (i + 1) keys
at-key keys i key other below is =
    sym (take-append-drop i keys) ∙ ap (λ (ks : List Key). take i keys ++ ks) (drop_more keys i other below) ∙ ap (λ (k : Key). take i keys ++ k ∷ drop (i + 1) keys) (sym is)

-- a request whose kind is that of a delete is one
pub request-deletes : (r : Request) → r.kind ≡ kind.Delete → request_of r ≡ deletion (actor_of r.who) (time_of r.local)
request-deletes r is = λ j. record { who = actor_of r.who; kind = kind_of (is j); local = time_of r.local }

-- ---- moments

-- no point was put, and the history is as it was; or the wall time of the writes is among those stored
abbrev pub IsMoved : List PointOp → ℕ → History → History → Type 0
IsMoved [] wall before after = after ≡ before
IsMoved (op ∷ ops) wall before after = (m : ℕ) → IsStoredBy m after → wall ≤ m

-- the wall time of an intent that takes the place of another is that of the write or of the other
raised-low : (ts : Timestamp) (old : Option Intent) → ts.wall ≤ (raised_time ts old).wall
raised-low ts None = omega arith
raised-low ts (Some i) = later-keeps ts i.ts

raised-high : (m : ℕ) (h : History) (key : Key) (ts : Timestamp) (old : Option Intent) → IsStoredBy m h → intent_of key h ≡ old → ts.wall ≤ m → (raised_time ts old).wall ≤ m
raised-high m h key ts None by is low = low
raised-high m h key ts (Some i) by is low =
    let high = later-high ts i.ts in
    let old = intent-by m h key i by is in
    omega (arith, high, old, low)

-- what a write puts is stored at its wall time or later
written-low : (h : History) (key : Key) (w : WriteRequest) (c : Changed WriteAnswer) (o : Outcome h key w c) (ops : List PointOp) → IsValid h → points_of ops ≡ points_for o
    → IsMoved ops (write_time w.who).wall h c.history
written-low h key w c (Replayed t inside same) [] valid e = same
written-low h key w c (Replayed t inside same) (op ∷ ops) valid e = absurd cc
written-low h key w c (Added ts body outside formed is) [] valid e = absurd cc
written-low h key w c (Added ts body outside formed is) (op ∷ ops) valid e = λ m by.
    let v : Version = new_version key ts w.local body in
    let time : (write_time w.who).wall ≡ ts.wall = ap (λ who. (write_time who).wall) outside in
    let up = version-by m c.history key v (versions_of key h) by (on_top-versions key h c.history v valid is) in
    omega (arith, time, up)
written-low h key w c (Left t body inside formed is) [] valid e = absurd cc
written-low h key w c (Left t body inside formed is) (op ∷ ops) valid e = λ m by.
    let i : Intent = new_intent key t (intent_of key h) w.local body in
    let time : (write_time w.who).wall ≡ t.write_ts.wall = ap (λ who. (write_time who).wall) inside in
    let low = raised-low t.write_ts (intent_of key h) in
    let up = intent-by m c.history key i by (in_place-intent key h c.history i is) in
    omega (arith, time, low, up)

-- nor is it stored after a moment that is after the write and all that was stored
written-by : (m : ℕ) (h : History) (key : Key) (w : WriteRequest) (c : Changed WriteAnswer) (o : Outcome h key w c) → IsStoredBy m h → (write_time w.who).wall ≤ m → moment_by m (written_for o) ≡ m
written-by m h key w c (Replayed t inside same) by low = refl
written-by m h key w c (Added ts body outside formed is) by low =
    let time : (write_time w.who).wall ≡ ts.wall = ap (λ who. (write_time who).wall) outside in
    omega (arith, time, low)
written-by m h key w c (Left t body inside formed is) by low =
    let time : (write_time w.who).wall ≡ t.write_ts.wall = ap (λ who. (write_time who).wall) inside in
    let high = raised-high m h key t.write_ts (intent_of key h) by refl (omega (arith, time, low)) in
    omega (arith, high)

-- one change after another
moved-more : (xs ys : List PointOp) (wall : ℕ) (f g h : History) → IsMoved xs wall f g → IsMoved ys wall g h → IsMoved (xs ++ ys) wall f h
moved-more [] [] wall f g h a b = b ∙ a
moved-more [] (y ∷ ys) wall f g h a b = b
moved-more (x ∷ xs) [] wall f g h a b = λ m by. a m (subst (IsStoredBy m) b by)
moved-more (x ∷ xs) (y ∷ ys) wall f g h a b = b

-- ---- what is gathered

-- this is gathered of the deletes of keys: the history after them, and the change to it at a moment that nothing stored then is after
pub record IsGathered (h : History) (now : ℕ) (who : Actor) (local : Timestamp) (keys : List Key) (g : Gathered) : Type 0 where
  pub after : History
  pub taken : delete_each who local h keys ≡ Ok after
  pub valid : IsValid after
  pub by : IsStoredBy now after
  pub others : (key : Key) → AllByRecursion (λ k. is_same_key k key ≡ false) keys → AgreeAt key after h
  pub tombstones : after.tombstones ≡ h.tombstones
  pub pairs : IsStrictlySortedBy point_cmp (points_of g.batch.points) → stored_pairs after ≡ with_points (points_of g.batch.points) (stored_pairs h)
  pub ranges : g.batch.ranges ≡ []
  pub delta : (f : Field) → number f g.delta ≡ stored_change now (fragments h.tombstones) h after f
  pub moved : IsMoved g.batch.points (write_time who).wall h after

-- no deletes
pub gathered-none : (h : History) (now : ℕ) (who : Actor) (local : Timestamp) (g : Gathered) → IsValid h → IsStoredBy now h → g.batch ≡ record { points = []; ranges = [] } → ((f : Field) → number f g.delta ≡ pos 0)
    → IsGathered h now who local [] g
unfolding delete_each
gathered-none h now who local g valid by batch delta =
    let none : [] ≡ g.batch.points = ap (λ b. b.points) (sym batch) in
    record {
      after = h;
      taken = refl;
      valid = valid;
      by = by;
      others = λ key none. record { versions = refl; intent = refl };
      tombstones = refl;
      pairs = λ rising. ap (λ (ops : List PointOp). with_points (points_of ops) (stored_pairs h)) none;
      ranges = ap (λ b. b.ranges) batch;
      delta = λ f. delta f ∙ sym (difference-itself (compute_stats now (stored_pairs h) (fragments h.tombstones)) f);
      moved = subst (λ (ops : List PointOp). IsMoved ops (write_time who).wall h h) none refl;
    }

module _ (h : History) (now : ℕ) (who : Actor) (local : Timestamp) (keys : List Key) (old : Gathered) (is : IsGathered h now who local keys old)
    (key : Key) (change : Change) (answer : CodeAnswer) (plan : IsPlannedWith is.after now key (deletion who local) change answer) where
  abbrev g : History
  g = is.after

  abbrev c : Changed WriteAnswer
  c = record { history = plan.planned.after; answer = answer_of answer }

  only : ChangesOnly key g c.history
  only = change_leaves_others key g c.history (outcome-change g key (deletion who local) c plan.outcome)

  put : IsMoved change.batch.points (write_time who).wall g c.history
  put = written-low g key (deletion who local) c plan.outcome change.batch.points is.valid plan.points

  -- one delete more
  pub gathered-more : (new : Gathered) → (write_time who).wall ≤ now → new.batch.points ≡ old.batch.points ++ change.batch.points → new.batch.ranges ≡ old.batch.ranges → ((f : Field) → number f new.delta ≡ number f old.delta +ℤ number f change.delta)
      → IsGathered h now who local (keys ++ key ∷ []) new
  gathered-more new low points ranges delta = record {
    after = c.history;
    taken = delete_each-more who local h keys key ∙ ap (λ (x : Result History Refusal). x >>= λ f. after_of (write f key (deletion who local))) is.taken ∙ ap after_of plan.planned.taken;
    valid = (plan.planned.change_is).valid;
    by = subst (λ m. IsStoredBy m c.history) still (greatest_is_last now c.history);
    others = λ k apart.
        let two = All-split (λ j. is_same_key j k ≡ false) keys (key ∷ []) apart in
        agree_along k c.history g h (changes_only-agrees key k g c.history only two.1.0) (is.others k two.0);
    tombstones = only.tombstones ∙ is.tombstones;
    pairs = λ rising.
        let parts : IsStrictlySortedBy point_cmp (points_of old.batch.points ++ points_of change.batch.points) = subst (IsStrictlySortedBy point_cmp) all rising in
        (plan.planned.change_is).pairs
        ∙ ap (with_points (points_of change.batch.points)) (is.pairs (first-rises (points_of old.batch.points) (points_of change.batch.points) parts))
        ∙ sym (points-parts (points_of old.batch.points) (points_of change.batch.points) (stored_pairs h) parts (stored_pairs-rise h))
        ∙ ap (λ ps. with_points ps (stored_pairs h)) (sym all);
    ranges = ranges ∙ is.ranges;
    delta = λ f. delta f ∙ (λ j. is.delta f j +ℤ one f j) ∙ stored_change-add now (fragments h.tombstones) h g c.history f;
    moved = subst (λ (ops : List PointOp). IsMoved ops (write_time who).wall h c.history) (sym points)
        (moved-more old.batch.points change.batch.points (write_time who).wall h g c.history is.moved put);
  }
    where
      still : greatest now (stored_walls c.history) ≡ now
      still = moment-is now g key (deletion who local) c plan.outcome is.by ∙ written-by now g key (deletion who local) c plan.outcome is.by low

      all : points_of new.batch.points ≡ points_of old.batch.points ++ points_of change.batch.points
      all = ap points_of points ∙ points-append old.batch.points change.batch.points

      at_now : change.last ≡ now
      at_now = (plan.planned.change_is).moment ∙ still

      one : (f : Field) → number f change.delta ≡ stored_change now (fragments h.tombstones) g c.history f
      one f = (plan.planned.change_is).delta f ∙ λ j. stored_change (at_now j) (fragments (is.tombstones j)) g c.history f

-- the plan of the next key, by what a store tells of it, is that from the history after the others
pub plans-next : (h s : History) (now : ℕ) (who : Actor) (local : Timestamp) (keys : List Key) (g : Gathered) (is : IsGathered h now who local keys g) (r : Result (Change × CodeAnswer) WriteFault)
    (key : Key) (w : WriteRequest) → h ≡ s → w ≡ deletion who local → AllByRecursion (λ k. is_same_key k key ≡ false) keys
    → ((k : History) → IsValid k → IsStoredBy now k → AgreeAt key k s → k.tombstones ≡ s.tombstones → Plans r k now key w) → Plans r is.after now key (deletion who local)
plans-next h s now who local keys g is r key w same delete differ plans =
    subst (λ v. Plans r is.after now key v) delete
    (plans is.after is.valid is.by (subst (AgreeAt key is.after) same (is.others key differ)) (is.tombstones ∙ ap (λ (k : History). k.tombstones) same))

-- what refuses it refuses all
pub refused-next : (h : History) (now : ℕ) (who : Actor) (local : Timestamp) (keys rest : List Key) (g : Gathered) (is : IsGathered h now who local keys g) (key : Key) (why : WriteFault)
    → Tells (refusal_of why) (write is.after key (deletion who local)) → Tells (refusal_of why) (delete_each who local h (keys ++ key ∷ rest))
refused-next h now who local keys rest g is key why tells = by (refusal_of why) tells
  where
    by : (o : Option Refusal) → Tells o (write is.after key (deletion who local)) → Tells o (delete_each who local h (keys ++ key ∷ rest))
    by None t = tt
    by (Some refusal) t = delete_each-refused who local h keys rest is.after key refusal is.taken t

-- ---- the change

-- what is gathered is the change of planned deletes
pub gathered-change : (h : History) (last now : ℕ) (who : Actor) (local : Timestamp) (keys : List Key) (g : Gathered) → IsStoredBy last h → now ≡ max last (write_time who).wall
    → IsGathered h now who local keys g → (change : Change) → IsBatch change.batch → change.batch ≡ g.batch → change.delta ≡ g.delta → change.last ≡ moment_with last now g.batch.points
    → ArePlannedDeletes h last who local keys change
gathered-change h last now who local keys g by now_is is change taken batch delta moment =
    let both = at_moment g.batch.points is.moved moment in
    record {
      after = after;
      taken = is.taken;
      change_is = record {
        valid = is.valid;
        pairs = is.pairs (subst (λ (b : Batch). IsStrictlySortedBy point_cmp (points_of b.points)) batch (sorted-rising (points_of change.batch.points) (taken.points).rising)) ∙ ap (λ (b : Batch). with_points (points_of b.points) (stored_pairs h)) (sym batch);
        ranges = ap (λ (b : Batch). b.ranges) batch ∙ is.ranges;
        tombstones = is.tombstones;
        moment = both.0;
        delta = λ f. ap (number f) delta ∙ both.1 f;
      };
    }
  where
    after : History
    after = is.after

    at_moment : (ops : List PointOp) → IsMoved ops (write_time who).wall h after → change.last ≡ moment_with last now ops
        → (change.last ≡ greatest last (stored_walls after)) × ((f : Field) → number f g.delta ≡ stored_change change.last (fragments h.tombstones) h after f)
    at_moment [] same is_last = (
      is_last ∙ sym (nothing_moves last h by) ∙ ap (λ k. greatest last (stored_walls k)) (sym same),
      λ f. is.delta f ∙ nothing now f ∙ sym (nothing change.last f),
    )
      where
        nothing : (m : ℕ) (f : Field) → stored_change m (fragments h.tombstones) h after f ≡ pos 0
        nothing m f = ap (λ k. stored_change m (fragments h.tombstones) h k f) same ∙ difference-itself (compute_stats m (stored_pairs h) (fragments h.tombstones)) f
    at_moment (op ∷ ops) low is_now = (
      is_now ∙ (
          let first = last_is_up_to last after in
          let wall = low (greatest last (stored_walls after)) (greatest_is_last last after) in
          let high = below_bound last now (stored_walls after) (omega (arith, now_is)) is.by in
          omega (arith, now_is, first, wall, high)),
      λ f. is.delta f ∙ ap (λ m. stored_change m (fragments h.tombstones) h after f) (sym is_now),
    )
