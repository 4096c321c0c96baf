-- What holds of every engine is kept by its calls.
use Rattle.std.specs.Prelude.{◌≡◌, ℕ, ◌≤◌, [], List}
use Rattle.std.proofs.Common.{refl, sym, ap, ap₂, ◌∙◌, subst}
use Rattle.mvcc_key.specs.History.{RangeTombstone, History}
use Rattle.mvcc_key.specs.Fragments.{Fragment, fragments, tombstones_of}
use Rattle.mvcc_key.specs.views.SeenPoint.{points_of}
use Rattle.mvcc_key.specs.views.SeenRange.{range_ops_of}
use Rattle.mvcc_key.specs.declared.batch.RangeOp.{RangeOp}
use Rattle.intent_meta.specs.PointPairs.{with_points}
use Rattle.intent_meta.specs.StoredPairs.{stored_pairs}
use Rattle.intent_meta.specs.HistoryOf.{history_of}
use Rattle.intent_meta.proofs.ReadBackLaws.{history_of-stored_pairs}
use Rattle.range_key.specs.RangeOps.{fragments_after}
use Rattle.run_block.specs.RunFormat.{Run}
use Rattle.lsm_store.specs.Shown.{points_in, shown, fragments_in, pairs_of, with_batch}
use Rattle.lsm_store.proofs.ApplyLaws.{sorted-shown}
use Rattle.stat_core.specs.Running.{Running}
use Rattle.stat_core.specs.ComputeStats.{compute_stats}
use Rattle.stat_core.specs.Settling.{NoDebt, aged_number, settled_number, aged_to, settled_stats}
use Rattle.stat_core.specs.Laws.{AreOf}
use Rattle.stat_core.proofs.SettlingLaws.{aged_to-computes, aged_number-no_debt, settled-computes, settled_number-no_debt}
use Rattle.stat_delta.specs.Moments.{IsStoredBy}
use Rattle.stat_delta.specs.PointChange.{IsPointChange}
use Rattle.stat_delta.specs.declared.change.Change.{Change}
use Rattle.stat_delta.proofs.MomentLaws.{last_is_up_to, stored_later, stored_is_by, greatest_is_last}
use Rattle.mvcc_cursor.specs.WellFormed.{IsWellFormed, history_in}
use Rattle.mvcc_engine.specs.Step.{statistics}
use Rattle.mvcc_engine.specs.views.Sound.{IsSound}
use Rattle.mvcc_engine.proofs.BatchLaws.{pairs-with_batch}

-- ---- statistics

-- the running statistics of an engine are those of what it stores
are_of : (store : List Run) (r : Running) → IsSound store r → AreOf r (stored_pairs (history_in store)) (fragments (history_in store).tombstones)
unfolding statistics
are_of store r sound =
    let by = stored_is_by r.last (history_in store) (sound.formed).valid sound.by in
    record { sums = sound.sums; pairs_by = by.0; fragments_by = by.1 }

-- statistics that are a recount
abbrev pub counted : Running → ℕ → History → Running
counted r now h = record { sums = statistics now h; last = now; count_max = r.count_max }

module _ (store : List Run) (r : Running) (sound : IsSound store r) (now : ℕ) (up : r.last ≤ now) where
  -- aged statistics are a recount at the later moment
  pub aged-is : aged_to r now ≡ counted r now (history_in store)
  unfolding statistics
  aged-is = aged_to-computes r (stored_pairs (history_in store)) (fragments (history_in store).tombstones) now (are_of store r sound) up

  -- none of them is negative
  pub aged-no_debt : NoDebt (aged_number r now)
  aged-no_debt = aged_number-no_debt r (stored_pairs (history_in store)) (fragments (history_in store).tombstones) now (are_of store r sound) up

  -- they are sound
  pub sound-later : IsSound store (counted r now (history_in store))
  sound-later = record { formed = sound.formed; by = stored_later r.last now (history_in store) up sound.by; sums = refl }

-- ---- stores that show the same

-- a store that shows the same is of the same history
pub same-history : (old new : List Run) → shown new ≡ shown old → fragments_in new ≡ fragments_in old → history_in new ≡ history_in old
same-history old new same same' = λ i. history_of (pairs_of (same i)) (same' i)

-- ---- a batch

-- a batch without range operations leaves the fragments
left-alone : (ops : List RangeOp) (old : List Fragment) {new : List Fragment} → ops ≡ [] → new ≡ fragments_after old (range_ops_of ops) → new ≡ old
left-alone ops old none is = is ∙ ap (λ (os : List RangeOp). fragments_after old (range_ops_of os)) none

module _ (old : List Run) (r : Running) (sound : IsSound old r) (h' : History) (change : Change) (is : IsPointChange r.last (history_in old) h' change) where
  -- the moment of a change is not before the last one
  pub up : r.last ≤ change.last
  up = subst (λ m. r.last ≤ m) (sym is.moment) (last_is_up_to r.last h')

  -- the settled statistics owe nothing
  pub settled-no_debt : NoDebt (settled_number r change.delta change.last)
  settled-no_debt =
      settled_number-no_debt r (stored_pairs (history_in old)) (stored_pairs h') (fragments (history_in old).tombstones) (fragments (history_in old).tombstones) change.delta change.last
      (are_of old r sound) up is.delta

  -- they are a recount of the history after it
  pub settled-is : settled_stats r change.delta change.last ≡ counted r change.last h'
  unfolding statistics
  settled-is =
      settled-computes r (stored_pairs (history_in old)) (stored_pairs h') (fragments (history_in old).tombstones) (fragments (history_in old).tombstones) change.delta change.last
      (are_of old r sound) up is.delta
      ∙ ap (λ ts. record { sums = compute_stats change.last (stored_pairs h') (fragments ts); last = change.last; count_max = r.count_max }) (sym is.tombstones)

module _ (old new : List Run) (r : Running) (sound : IsSound old r) (h' : History) (change : Change) (is : IsPointChange r.last (history_in old) h' change)
    (shown_is : shown new ≡ with_batch (points_of change.batch.points) (shown old)) (fragments_are : fragments_in new ≡ fragments_after (fragments_in old) (range_ops_of change.batch.ranges)) where
  abbrev h : History
  h = history_in old

  -- the pairs that are shown are those of the history after the change
  pairs_after : pairs_of (shown new) ≡ stored_pairs h'
  pairs_after =
      ap pairs_of shown_is ∙ pairs-with_batch (points_of change.batch.points) (shown old) (sorted-shown (points_in old))
      ∙ ap (with_points (points_of change.batch.points)) (sound.formed).pairs ∙ sym is.pairs

  -- and the fragments
  same_fragments : fragments h'.tombstones ≡ fragments h.tombstones
  same_fragments = ap fragments is.tombstones

  fragments_after_are : fragments_in new ≡ fragments h'.tombstones
  fragments_after_are = left-alone change.batch.ranges (fragments_in old) is.ranges fragments_are ∙ (sound.formed).fragments ∙ sym same_fragments

  -- its tombstones are in the order of their fragments, as those of every history that is read back
  in_order_again : tombstones_of (fragments h'.tombstones) ≡ h'.tombstones
  unfolding history_of
  in_order_again = ap tombstones_of (same_fragments ∙ sym (sound.formed).fragments) ∙ sym is.tombstones

  -- so that history is read back
  pub history-after : history_in new ≡ h'
  history-after =
      ap₂ history_of pairs_after fragments_after_are ∙ history_of-stored_pairs h' is.valid
      ∙ ap (λ (ts : List RangeTombstone). record h' { tombstones = ts }) in_order_again

  -- the store is that of the history after the change
  pub formed_after : IsWellFormed h' new
  formed_after = record { valid = is.valid; pairs = pairs_after; fragments = fragments_after_are }

  -- and the engine over it is sound
  pub sound-after : IsSound new (counted r change.last h')
  sound-after =
      let back : h' ≡ history_in new = sym history-after in
      let by : IsStoredBy change.last h' = subst (λ m. IsStoredBy m h') (sym is.moment) (greatest_is_last r.last h') in
      record {
        formed = subst (λ g. IsWellFormed g new) back formed_after;
        by = subst (IsStoredBy change.last) back by;
        sums = ap (statistics change.last) back;
      }
