-- What a put is planned as.
use Rattle.std.specs.Prelude.{◌≡◌, ℕ, ◌≤◌, ◌<◌, nat_lt, ◌==◌, Bool, true, false, List, [], ◌∷◌, ◌++◌, length, map, option_map, take, Result, Ok, Err}
use Rattle.std.proofs.Common.{zero, suc, refl, sym, ap, ap₂, subst, ◌∙◌, arith}
use Rattle.std.proofs.lemmas.Bool.Decides.{nat_tests}
use Rattle.std.proofs.lemmas.Bool.{lt-ltb, ltb-false, ltb-true}
use Rattle.mvcc_key.specs.Limits.{max_key_length}
use Rattle.mvcc_key.specs.Order.{Key}
use Rattle.mvcc_key.specs.Lists.{first, in_order}
use Rattle.mvcc_key.specs.Items.{items, item_cmp, version_item, tombstone_item, tombstones_over}
use Rattle.mvcc_key.specs.Fragments.{fragments, stack_at}
use Rattle.mvcc_key.specs.History as history
use Rattle.mvcc_key.specs.History.{History}
use Rattle.mvcc_key.specs.Refusal.{KeyTooLong}
use Rattle.mvcc_key.specs.views.SeenPoint.{points_of}
use Rattle.mvcc_key.specs.declared.batch.Batch.{Batch}
use Rattle.mvcc_key.specs.declared.batch.PointOp.{PointOp}
use Rattle.intent_meta.specs.PointPairs.{with_points}
use Rattle.intent_meta.specs.StoredPairs.{stored_pairs}
use Rattle.intent_meta.specs.Valid.{IsValid}
use Rattle.intent_meta.specs.LeftAlone.{AgreeAt}
use Rattle.intent_meta.specs.KeyChanges.{Change as KeyChanges}
use Rattle.intent_meta.proofs.KeyChangeLaws.{change_keeps_valid, change_leaves_others}
use Rattle.stat_delta.specs.Moments.{IsStoredBy}
use Rattle.stat_delta.specs.Shapes.{version_shape, intent_shape}
use Rattle.stat_delta.specs.declared.change.Change.{Change}
use Rattle.write_rule.specs.Outcome.{Outcome}
use Rattle.write_rule.specs.Planned.{points_for, IsPlanned}
use Rattle.write_rule.specs.Write.{WriteRequest, WriteAnswer, write}
use Rattle.write_rule.specs.views.Seen.{answer_of}
use Rattle.write_rule.specs.declared.change.KeyChange.{KeyChange}
use Rattle.write_rule.proofs.WriteLaws.{outcome-change}
use Rattle.write_rule.specs.declared.change.WriteAnswer.{WriteAnswer as CodeAnswer}
use Rattle.write_rule.specs.declared.fault.WriteFault.{WriteFault}
use Rattle.write_rule.specs.declared.fault.WriteFault.TheVariants as fault
use Rattle.run_block.specs.RunFormat.{Run}
use Rattle.intent_meta.specs.KeyHistory.{key_history}
use Rattle.mvcc_cursor.specs.WellFormed.{IsWellFormed, history_in}
use Rattle.mvcc_cursor.specs.Standing.{Standing, AtKey, at_place, anew, told_at, told}
use Rattle.mvcc_put.specs.PlannedPut.{Answers}
use Rattle.mvcc_put.specs.views.Planning.{IsPlannedWith, Plans}
use Rattle.key_top.specs.Top.{Top, top_in}
use Rattle.mvcc_put.specs.views.Written.{written_for, change_by}
use Rattle.mvcc_put.specs.views.Changed.{SetsShort, CountsOnTop}
use Rattle.mvcc_put.proofs.OnTopLaws.{written-short, moment-is, change-is}

-- a number above another is not zero
above_zero : (n m : ℕ) → m < n → (n == 0) ≡ false
above_zero n m above = grind (arith, nat_tests)

-- a key that is too long is refused with its length
pub too_long : (h : History) (key : Key) (w : WriteRequest) → max_key_length < length key → write h key w ≡ Err (KeyTooLong (length key))
unfolding write
too_long h key w long =
    let some : (length key == 0) ≡ false = above_zero (length key) max_key_length long in
    let above : nat_lt max_key_length (length key) ≡ true = lt-ltb _ _ long in
    rw (some, above) refl

-- so many elements of a list that has no more are all of it
pub whole_take : (n : ℕ) (xs : List ℕ) → length xs ≤ n → take n xs ≡ xs
whole_take zero [] short = refl
whole_take zero (x ∷ xs) short = absurd (omega (arith, short))
whole_take (suc n) [] short = refl
whole_take (suc n) (x ∷ xs) short = ap (λ (l : List ℕ). x ∷ l) (whole_take n xs (omega (arith, short)))

-- what is not refused where a number is above a bound is not above it
pub not_above : {T E : Type 0} (x : T) (why : E) (bound n : ℕ) → (bound < n → Ok x ≡ Err why) → n ≤ bound
not_above x why bound n refused = by (nat_lt bound n) refl
  where
    by : (b : Bool) → nat_lt bound n ≡ b → n ≤ bound
    by true is = let no : Ok x ≡ Err why = refused (ltb-true _ _ is) in absurd cc
    by false is = ltb-false _ _ is

module _ (h : History) (last : ℕ) (key : Key) (w : WriteRequest) (planned : KeyChange) (valid : IsValid h) (is : IsPlanned h key w planned) where
  -- what is put is short
  pub sets-short : SetsShort planned.points
  sets-short = record {
    before = h;
    key = key;
    request = w;
    changed = record { history = is.after; answer = answer_of planned.answer };
    outcome = is.outcome;
    points_are = is.points;
    short = written-short h key w (record { history = is.after; answer = answer_of planned.answer }) is.outcome;
  }

  -- the change of a plan is that from the history to the one after it, with the points of its outcome
  pub planned-put : (top : Top) (change : Change) → IsStoredBy last h → top ≡ top_in h key → change.batch ≡ record { points = planned.points; ranges = [] }
      → ((g : History) (k : Key) (v : WriteRequest) (c : history.Changed WriteAnswer) (outcome : Outcome g k v c) → points_of planned.points ≡ points_for outcome
      → CountsOnTop last top (written_for outcome) change)
      → IsPlannedWith h last key w change planned.answer
  planned-put top change by top_is batch counts =
      let c : history.Changed WriteAnswer = record { history = is.after; answer = answer_of planned.answer } in
      let one : KeyChanges key h is.after = outcome-change h key w c is.outcome in
      let told = counts h key w c is.outcome is.points in
      let points : change.batch.points ≡ planned.points = ap (λ (b : Batch). b.points) batch in
      record {
        planned = record {
          after = is.after;
          taken = is.taken;
          change_is = record {
            valid = change_keeps_valid key h is.after valid one;
            pairs = is.pairs ∙ ap (λ (ops : List PointOp). with_points (points_of ops) (stored_pairs h)) (sym points);
            ranges = ap (λ (b : Batch). b.ranges) batch;
            tombstones = (change_leaves_others key h is.after one).tombstones;
            moment = told.moment ∙ sym (moment-is last h key w c is.outcome by);
            delta = λ f. told.delta f ∙ ap (λ t. change_by change.last t (written_for is.outcome) f) top_is ∙ change-is change.last h key valid f w c is.outcome;
          };
        };
        outcome = is.outcome;
        points = ap points_of points ∙ is.points;
      }

-- ---- where a cursor stands

-- at the key, over the store
pub record StandsAt (store : List Run) (sought : Key) (s : Standing) : Type 0 where
  pub over : s.store ≡ store
  pub at_key : s.at ≡ AtKey sought

-- after the key was sought, and the newest version was looked at
pub stands-at : (store : List Run) (sought : Key) (first second third : Standing) → first.store ≡ store → second ≡ at_place (AtKey sought) first → third ≡ anew second → StandsAt store sought third
stands-at store sought first second third a b c = record {
  over = ap (λ s. s.store) c ∙ ap (λ s. s.store) b ∙ a;
  at_key = ap (λ s. s.at) c ∙ ap (λ s. s.at) b;
}

module _ (store : List Run) (key sought : Key) (s : Standing) (stands : StandsAt store sought s) (same : sought ≡ key) where
  -- what is told is what the history has of the key
  pub told-is : key_history key (history_in store) ≡ told s
  told-is = ap (λ k. key_history k (history_in store)) (sym same) ∙ sym (ap₂ (λ p (r : List Run). told_at p (history_in r)) stands.at_key stands.over)

  -- the top is that of the key in the history
  pub top-is : IsWellFormed (history_in store) store → (top : Top)
      → ((k : Key) → s.at ≡ AtKey k → length key ≡ length k → IsWellFormed (history_in s.store) s.store → top ≡ top_in (history_in s.store) k)
      → top ≡ top_in (history_in store) key
  top-is formed top told_by =
      let here : IsWellFormed (history_in s.store) s.store = subst (λ (r : List Run). IsWellFormed (history_in r) r) (sym stands.over) formed in
      told_by sought stands.at_key (sym (ap length same)) here ∙ λ j. top_in (history_in (stands.over j)) (same j)

-- ---- what is answered

-- a plan is answered where it is that of a key that is not too long
pub plans-put : (r : Result (Change × CodeAnswer) WriteFault) (h : History) (last : ℕ) (key : Key) (w : WriteRequest)
    → (max_key_length < length key → r ≡ Err (fault.KeyTooLong (length key))) → (length key ≤ max_key_length → Plans r h last key w) → Plans r h last key w
plans-put r h last key w long short = by (nat_lt max_key_length (length key)) refl
  where
    by : (b : Bool) → nat_lt max_key_length (length key) ≡ b → Plans r h last key w
    by true is = subst (λ q. Plans q h last key w) (sym (long (ltb-true _ _ is))) (too_long h key w (ltb-true _ _ is))
    by false is = short (ltb-false _ _ is)

-- what is planned with its points is answered
pub plans-answers : (r : Result (Change × CodeAnswer) WriteFault) (h : History) (last : ℕ) (key : Key) (w : WriteRequest) → Plans r h last key w → Answers r h last key w
plans-answers (Ok planned) h last key w plans = plans.planned
plans-answers (Err why) h last key w plans = plans

-- ---- what histories have of a key

-- histories that agree at a key and have the same tombstones have the same of it
pub same-told : (key : Key) (g h : History) → AgreeAt key g h → g.tombstones ≡ h.tombstones → key_history key g ≡ key_history key h
unfolding items
same-told key g h agree tombstones = λ j. record {
  key = key;
  intent = agree.intent j;
  items = in_order item_cmp (map version_item (agree.versions j) ++ map tombstone_item (tombstones_over (tombstones j) key));
}

-- and the same top
pub same-top : (key : Key) (g h : History) → AgreeAt key g h → g.tombstones ≡ h.tombstones → top_in g key ≡ top_in h key
same-top key g h agree tombstones = λ j. record {
  key_length = length key;
  intent = option_map intent_shape (agree.intent j);
  newest = option_map version_shape (first (agree.versions j));
  stack = stack_at (fragments (tombstones j)) key;
}
