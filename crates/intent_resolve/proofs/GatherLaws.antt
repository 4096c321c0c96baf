-- What is gathered of several resolutions is the change from the history before to the one after them.
use Rattle.std.specs.Prelude.{◌≡◌, ℕ, ◌+ℤ◌, false, List, [], ◌∷◌, ◌++◌, length, option_map, Some, Result, Ok, Err, ⊤, IsTrue}
use Rattle.std.specs.List.{AllByRecursion}
use Rattle.std.proofs.Common.{refl, sym, ap, ◌∙◌}
use Rattle.mvcc_key.specs.Steps.{◌>>=◌}
use Rattle.mvcc_key.specs.Order.{Key, is_same_key, is_in_range, Pair}
use Rattle.mvcc_key.specs.Field.{Field}
use Rattle.mvcc_key.specs.Fragments.{fragments, stack_at}
use Rattle.mvcc_key.specs.Lists.{first}
use Rattle.mvcc_key.specs.Points.{Point}
use Rattle.mvcc_key.specs.History.{Intent, History, intent_of}
use Rattle.mvcc_key.specs.Refusal.{Refusal}
use Rattle.mvcc_key.proofs.EachLaws.{All-both}
use Rattle.mvcc_key.proofs.SameKeyLaws.{differs_back}
use Rattle.intent_meta.specs.Valid.{IsValid}
use Rattle.intent_meta.specs.StoredPairs.{stored_pairs}
use Rattle.intent_meta.specs.PointPairs.{with_points, with_value}
use Rattle.intent_meta.specs.LeftAlone.{AgreeAt}
use Rattle.intent_meta.proofs.ChangedLaws.{intent_of-stored}
use Rattle.intent_meta.proofs.ChangesOnlyLaws.{changes_only-agrees, agree_along}
use Rattle.stat_core.specs.ComputeStats.{compute_stats}
use Rattle.stat_delta.specs.Laws.{stored_change}
use Rattle.stat_delta.specs.Shapes.{version_shape, intent_shape}
use Rattle.stat_delta.proofs.ChangesOverLaws.{difference-itself}
use Rattle.stat_delta.proofs.KeyDeltaLaws.{stored_change-add}
use Rattle.key_top.specs.Top.{front_change, top_in}
use Rattle.intent_resolve.specs.Resolve.{Update, Resolution, resolution, resolved, resolve_intent, resolve_each}
use Rattle.intent_resolve.specs.Resolved.{FitsIntent, IsStoredResolution, HasResolvedEach}
use Rattle.intent_resolve.specs.views.Gathered.{Done, IsDone, handled_of, all_points, all_change, after_all}
use Rattle.intent_resolve.proofs.FormLaws.{resolution_fits, resolution_stored}
use Rattle.intent_resolve.proofs.ResolveLaws.{resolved_changes_only, resolved_keeps_valid, resolve_intent-is, resolve_intent-refused}
use Rattle.intent_resolve.specs.views.Left.{left_by, left_points}
use Rattle.intent_resolve.specs.views.Front.{front_by}
use Rattle.intent_resolve.proofs.EachLaws.{resolve_each_keeps_valid, resolve_each_resolves}
use Rattle.intent_resolve.proofs.SameLaws.{resolved_each_is_one}
use Rattle.intent_resolve.proofs.PairsLaws.{resolution_stores}
use Rattle.intent_resolve.proofs.PointLaws.{left_points-pairs}
use Rattle.intent_resolve.proofs.ChangeLaws.{left-timed, change-is}

-- ---- one after another

-- intents and one more are resolved as the one is after the others
pub resolve_each-more : (u : Update) (h : History) (is : List Intent) (i : Intent) → resolve_each u h (is ++ i ∷ []) ≡ (resolve_each u h is >>= λ g. resolve_intent u g i)
unfolding resolve_each
resolve_each-more u h [] i = one (resolve_intent u h i)
  where
    one : (x : Result History Refusal) → (x >>= λ after. Ok after) ≡ x
    one (Ok g) = refl
    one (Err why) = refl
resolve_each-more u h (j ∷ js) i = by (resolve_intent u h j) (λ g. resolve_each-more u g js i)
  where
    by : (x : Result History Refusal) → ((g : History) → resolve_each u g (js ++ i ∷ []) ≡ (resolve_each u g js >>= λ k. resolve_intent u k i))
        → (x >>= λ after. resolve_each u after (js ++ i ∷ [])) ≡ ((x >>= λ after. resolve_each u after js) >>= λ k. resolve_intent u k i)
    by (Ok g) rest = rest g
    by (Err why) rest = refl

-- intents that were resolved
pub resolve_each-done : (u : Update) (h : History) (ds : List Done) → AllByRecursion (IsDone u h) ds → resolve_each u h (handled_of ds) ≡ Ok (after_all ds h)
unfolding resolve_each
resolve_each-done u h [] each = refl
resolve_each-done u h (d ∷ ds) each =
    resolve_each-more u h (handled_of ds) d.intent
    ∙ ap (λ (x : Result History Refusal). x >>= λ g. resolve_intent u g d.intent) (resolve_each-done u h ds each.1)
    ∙ resolve_intent-is u (after_all ds h) d.intent d.resolution_is (each.0).resolves

-- and one behind them that is refused
pub resolve_each-refused : (u : Update) (h : History) (is js : List Intent) (g : History) (i : Intent) (why : Refusal) → resolve_each u h is ≡ Ok g → resolution u.status u i ≡ Err why
    → resolve_each u h (is ++ i ∷ js) ≡ Err why
unfolding resolve_each
resolve_each-refused u h [] js g i why done refused = ap (λ (x : Result History Refusal). x >>= λ after. resolve_each u after js) (resolve_intent-refused u h i why refused)
resolve_each-refused u h (j ∷ is) js g i why done refused = by (resolve_intent u h j) done (λ k e. resolve_each-refused u k is js g i why e refused)
  where
    by : (x : Result History Refusal) → (x >>= λ after. resolve_each u after is) ≡ Ok g → ((k : History) → resolve_each u k is ≡ Ok g → resolve_each u k (is ++ i ∷ js) ≡ Err why)
        → (x >>= λ after. resolve_each u after (is ++ i ∷ js)) ≡ Err why
    by (Ok k) e rest = rest k e
    by (Err w) e rest = absurd cc

-- ---- distinct keys

-- no two of them have one key
abbrev pub AreDistinct : List Done → Type 0
AreDistinct [] = ⊤
AreDistinct (d ∷ ds) = AllByRecursion (λ e. is_same_key e.intent.key d.intent.key ≡ false) ds × AreDistinct ds

-- what was done in valid histories at distinct keys
pub record AreDone (u : Update) (h : History) (ds : List Done) : Type 0 where
  pub each : AllByRecursion (IsDone u h) ds
  pub distinct : AreDistinct ds

-- the others are done too
pub done-rest : (u : Update) (h : History) (d : Done) (ds : List Done) → AreDone u h (d ∷ ds) → AreDone u h ds
done-rest u h d ds is = record { each = is.each.1; distinct = is.distinct.1 }

-- what becomes of one fits it
pub done-fits : (u : Update) (h : History) (d : Done) → IsDone u h d → FitsIntent d.intent d.resolution_is
done-fits u h d is = resolution_fits u d.intent d.resolution_is is.resolves

-- the history after them is valid, has the tombstones, and has what it had at all other keys
pub record IsAfter (h : History) (ds : List Done) (after : History) : Type 0 where
  pub valid : IsValid after
  pub tombstones : after.tombstones ≡ h.tombstones
  pub others : (key : Key) → AllByRecursion (λ e. is_same_key e.intent.key key ≡ false) ds → AgreeAt key after h

module _ (u : Update) (h : History) (valid : IsValid h) (range : IsTrue (is_in_range u.ts)) where
  -- so it is
  pub after-is : (ds : List Done) → AreDone u h ds → IsAfter h ds (after_all ds h)
  after-is [] is = record { valid = valid; tombstones = refl; others = λ key none. record { versions = refl; intent = refl } }
  after-is (d ∷ ds) is =
      let before = after-is ds (done-rest u h d ds is) in
      let g : History = after_all ds h in
      let one : IsDone u h d = is.each.0 in
      let fits = done-fits u h d one in
      let agree = before.others d.intent.key is.distinct.0 in
      let there : intent_of d.intent.key g ≡ Some d.intent = agree.intent ∙ one.own.there in
      let only = resolved_changes_only g d.intent d.resolution_is fits in
      record {
        valid = resolved_keeps_valid g d.intent d.resolution_is before.valid there fits
            (resolution_stored u g d.intent d.resolution_is (intent_of-stored d.intent.key g d.intent before.valid there) range one.resolves);
        tombstones = only.tombstones ∙ before.tombstones;
        others = λ key none. agree_along key (resolved d.intent.key g d.resolution_is) g h
            (changes_only-agrees d.intent.key key g (resolved d.intent.key g d.resolution_is) only none.0) (before.others key none.1);
      }

  -- the next one is still there
  pub still-there : (d : Done) (ds : List Done) → AreDone u h (d ∷ ds) → intent_of d.intent.key (after_all ds h) ≡ Some d.intent
  still-there d ds is = ((after-is ds (done-rest u h d ds is)).others d.intent.key is.distinct.0).intent ∙ (is.each.0).own.there

  -- what becomes of it may be stored
  pub still-stored : (d : Done) (ds : List Done) → AreDone u h (d ∷ ds) → IsStoredResolution (after_all ds h) d.resolution_is
  still-stored d ds is =
      resolution_stored u (after_all ds h) d.intent d.resolution_is
      (intent_of-stored d.intent.key (after_all ds h) d.intent (after-is ds (done-rest u h d ds is)).valid (still-there d ds is)) range (is.each.0).resolves

-- ---- in another order

-- what two intents of distinct keys come to, one after the other
both_resolved : (u : Update) (g : History) (c d : Done) → IsDone u g c → IsDone u g d → resolve_each u g (c.intent ∷ d.intent ∷ []) ≡ Ok (resolved d.intent.key (resolved c.intent.key g c.resolution_is) d.resolution_is)
unfolding resolve_each
both_resolved u g c d one two =
    ap (λ (x : Result History Refusal). x >>= λ after. resolve_each u after (d.intent ∷ [])) (resolve_intent-is u g c.intent c.resolution_is one.resolves)
    ∙ ap (λ (x : Result History Refusal). x >>= λ after. resolve_each u after []) (resolve_intent-is u (resolved c.intent.key g c.resolution_is) d.intent d.resolution_is two.resolves)

-- is the same in the other order
pub both_swap : (u : Update) (g : History) (c d : Done) → IsValid g → IsTrue (is_in_range u.ts) → IsDone u g c → IsDone u g d → is_same_key c.intent.key d.intent.key ≡ false
    → resolved d.intent.key (resolved c.intent.key g c.resolution_is) d.resolution_is ≡ resolved c.intent.key (resolved d.intent.key g d.resolution_is) c.resolution_is
both_swap u g c d valid range one two differ =
    let f : History = resolved d.intent.key (resolved c.intent.key g c.resolution_is) d.resolution_is in
    let k : History = resolved c.intent.key (resolved d.intent.key g d.resolution_is) c.resolution_is in
    let back = differs_back c.intent.key d.intent.key differ in
    let to_f = both_resolved u g c d one two in
    let to_k = both_resolved u g d c two one in
    let there = one.own.there in
    let there' = two.own.there in
    let a : HasResolvedEach u (c.intent ∷ d.intent ∷ []) g f = resolve_each_resolves u g (c.intent ∷ d.intent ∷ []) f valid range ((differ, tt), (tt, tt)) (there, (there', tt)) to_f in
    let b : HasResolvedEach u (d.intent ∷ c.intent ∷ []) g k = resolve_each_resolves u g (d.intent ∷ c.intent ∷ []) k valid range ((back, tt), (tt, tt)) (there', (there, tt)) to_k in
    resolved_each_is_one u (c.intent ∷ d.intent ∷ []) g f k
    (resolve_each_keeps_valid u g (c.intent ∷ d.intent ∷ []) f valid range ((differ, tt), (tt, tt)) (there, (there', tt)) to_f)
    (resolve_each_keeps_valid u g (d.intent ∷ c.intent ∷ []) k valid range ((back, tt), (tt, tt)) (there', (there, tt)) to_k)
    a
    (record { each = (b.each.1.0, (b.each.0, tt)); others = λ key none. b.others key (none.1.0, (none.0, tt)); tombstones = b.tombstones })

-- an intent that is done is done in each history that has it
done-there : (u : Update) (h g : History) (d : Done) → intent_of d.intent.key g ≡ Some d.intent → IsDone u h d → IsDone u g d
done-there u h g d there is = record { own = record { there = there; own = is.own.own }; resolves = is.resolves }

-- the last of several may as well be the first
pub last_first : (u : Update) (h : History) (d : Done) (ds : List Done) → IsValid h → IsTrue (is_in_range u.ts) → AreDone u h (d ∷ ds)
    → after_all ds (resolved d.intent.key h d.resolution_is) ≡ after_all (d ∷ ds) h
last_first u h d [] valid range is = refl
last_first u h d (e ∷ ds) valid range is =
    let g : History = after_all ds h in
    let without : AreDone u h (d ∷ ds) = record { each = (is.each.0, is.each.1.1); distinct = (is.distinct.0.1, is.distinct.1.1) } in
    let rest : AreDone u h (e ∷ ds) = done-rest u h d (e ∷ ds) is in
    let g_valid = (after-is u h valid range ds (done-rest u h d ds without)).valid in
    let here = done-there u h g d (still-there u h valid range d ds without) without.each.0 in
    let there = done-there u h g e (still-there u h valid range e ds rest) rest.each.0 in
    ap (λ (k : History). resolved e.intent.key k e.resolution_is) (last_first u h d ds valid range without)
    ∙ both_swap u g d e g_valid range here there (differs_back e.intent.key d.intent.key is.distinct.0.0)

-- ---- pairs

-- points one after another
with_points-append : (xs ys : List Point) (ps : List Pair) → with_points (xs ++ ys) ps ≡ with_points xs (with_points ys ps)
with_points-append [] ys ps = refl
with_points-append (x ∷ xs) ys ps = ap (with_value x.name x.value) (with_points-append xs ys ps)

-- the others are done in the history after the last one too
done-after : (u : Update) (h : History) (d : Done) (ds : List Done) → AreDone u h (d ∷ ds) → AreDone u (resolved d.intent.key h d.resolution_is) ds
done-after u h d ds is = record {
  each = All-both (λ e. is_same_key e.intent.key d.intent.key ≡ false) (IsDone u h) (IsDone u after) ds one is.distinct.0 is.each.1;
  distinct = is.distinct.1;
}
  where
    after : History
    after = resolved d.intent.key h d.resolution_is

    one : (e : Done) → is_same_key e.intent.key d.intent.key ≡ false → IsDone u h e → IsDone u after e
    one e differ done =
        done-there u h after e
        ((changes_only-agrees d.intent.key e.intent.key h after (resolved_changes_only h d.intent d.resolution_is (done-fits u h d is.each.0)) (differs_back e.intent.key d.intent.key differ)).intent ∙ done.own.there)
        done

-- the points of all of them make the stored pairs those after them
pub pairs-all : (u : Update) (h : History) (ds : List Done) → IsValid h → IsTrue (is_in_range u.ts) → AreDone u h ds → stored_pairs (after_all ds h) ≡ with_points (all_points ds) (stored_pairs h)
pairs-all u h [] valid range is = refl
pairs-all u h (d ∷ ds) valid range is =
    let i : Intent = d.intent in
    let r : Resolution = d.resolution_is in
    let one : IsDone u h d = is.each.0 in
    let fits = done-fits u h d one in
    let was = one.own.there in
    let after : History = resolved i.key h r in
    let after_valid : IsValid after = resolved_keeps_valid h i r valid was fits (resolution_stored u h i r (intent_of-stored i.key h i valid was) range one.resolves) in
    ap stored_pairs (sym (last_first u h d ds valid range is))
    ∙ pairs-all u after ds after_valid range (done-after u h d ds is)
    ∙ ap (with_points (all_points ds)) (resolution_stores h i r valid was fits ∙ sym (left_points-pairs h i r (left-timed h valid i was r fits) fits))
    ∙ sym (with_points-append (all_points ds) (left_points i.key i.ts (left_by r)) (stored_pairs h))

-- ---- statistics

-- they change the statistics by what they change for the tops of their keys
pub change-all : (u : Update) (h : History) (now : ℕ) (f : Field) (ds : List Done) → IsValid h → IsTrue (is_in_range u.ts) → AreDone u h ds
    → all_change now h ds f ≡ stored_change now (fragments h.tombstones) h (after_all ds h) f
change-all u h now f [] valid range is = sym (difference-itself (compute_stats now (stored_pairs h) (fragments h.tombstones)) f)
change-all u h now f (d ∷ ds) valid range is =
    let i : Intent = d.intent in
    let r : Resolution = d.resolution_is in
    let g : History = after_all ds h in
    let before = after-is u h valid range ds (done-rest u h d ds is) in
    let agree = before.others i.key is.distinct.0 in
    let all_valid = (after-is u h valid range (d ∷ ds) is).valid in
    let top : top_in h i.key ≡ top_in g i.key = λ j. record {
      key_length = length i.key;
      intent = option_map intent_shape (sym agree.intent j);
      newest = option_map version_shape (first (sym agree.versions j));
      stack = stack_at (fragments (sym before.tombstones j)) i.key;
    } in
    let one : front_change now (top_in h i.key) (front_by r) f ≡ stored_change now (fragments h.tombstones) g (resolved i.key g r) f =
    ap (λ t. front_change now t (front_by r) f) top
    ∙ change-is g before.valid i (still-there u h valid range d ds is) now r f (done-fits u h d is.each.0) all_valid
    ∙ ap (λ ts. stored_change now (fragments ts) g (resolved i.key g r) f) before.tombstones in
    (λ j. change-all u h now f ds valid range (done-rest u h d ds is) j +ℤ one j)
    ∙ stored_change-add now (fragments h.tombstones) h g (resolved i.key g r) f
