-- A store that holds nothing is well formed, and nothing in it is after any moment.
use Rattle.std.proofs.Common.{refl, ap₂, ◌∙◌}
use Rattle.std.specs.Prelude.{◌≡◌, ℕ, true, false, [], ◌∷◌}
use Rattle.std.specs.declared.cmp.Ordering.{Ordering}
use Rattle.std.specs.declared.cmp.Ordering.TheVariants.{Less, Equal, Greater}
use Rattle.std.specs.Ordering.{is_lt}
use Rattle.mvcc_key.specs.Order.{Key, key_cmp, is_below}
use Rattle.mvcc_key.specs.Spans.{is_bad_span}
use Rattle.intent_meta.proofs.AcceptedLaws.{span_has_key}
use Rattle.std.specs.List.Sorted.{IsStrictlySortedBy}
use Rattle.mvcc_key.specs.Fragments.{fragments}
use Rattle.intent_meta.specs.StoredPairs.{stored_pairs}
use Rattle.intent_meta.specs.HistoryOf.{history_of}
use Rattle.merge_cursor.specs.Merged.{merged}
use Rattle.lsm_store.specs.Shown.{first_runs, pairs_of, visible_points}
use Rattle.stat_delta.specs.Moments.{IsStoredBy}
use Rattle.mvcc_cursor.specs.WellFormed.{IsWellFormed, history_in}

-- its history is empty
pub empty-well_formed : IsWellFormed (history_in first_runs) first_runs
unfolding IsStrictlySortedBy fragments stored_pairs history_of merged pairs_of visible_points
empty-well_formed = record {
  valid = record { versions_in_order = tt; intents_in_order = tt; versions = tt; intents = tt; tombstones = tt; own_times = tt };
  pairs = refl;
  fragments = refl;
}

-- so it has no wall times
pub empty-by : (last : ℕ) → IsStoredBy last (history_in first_runs)
unfolding IsStrictlySortedBy fragments stored_pairs history_of merged pairs_of visible_points
empty-by last = tt

-- ---- two keys

less : (o : Ordering) → is_lt o ≡ true → o ≡ Less
less Less is = refl
less Equal is = absurd cc
less Greater is = absurd cc

-- the bounds of a span rise
pub two-rise : (a b x y : Key) → is_bad_span a b ≡ false → x ≡ a → y ≡ b → IsStrictlySortedBy key_cmp (x ∷ y ∷ [])
unfolding IsStrictlySortedBy
two-rise a b x y good first second =
    let below : is_below x y ≡ true = ap₂ is_below first second ∙ span_has_key a b good in
    ((less (key_cmp x y) below, tt), (tt, tt))
