-- The store of the tests is that of a history.
use Rattle.std.proofs.Common.{◌≡◌, ◌<◌, ◌≤◌, List, refl, ap, sym, subst, ◌∙◌, arith}
use Rattle.std.specs.List.{AllByRecursion}
use Rattle.std.specs.List.Sorted.{IsStrictlySortedBy}
use Rattle.mvcc_key.specs.Points.{Point}
use Rattle.mvcc_key.specs.Fragments.{fragments}
use Rattle.mvcc_key.specs.Items.{items}
use Rattle.mvcc_key.specs.KeyFormat.{encoded_name, name_of}
use Rattle.mvcc_key.specs.views.SeenPoint.{points_of}
use Rattle.mvcc_value.specs.Encoding.{value_bytes}
use Rattle.range_key.specs.RangeOps.{fragments_after, fragments_with}
use Rattle.intent_meta.specs.Record.{record_bytes}
use Rattle.intent_meta.specs.ReadBack.{in_fragment_order}
use Rattle.intent_meta.specs.StoredPairs.{stored_pairs}
use Rattle.intent_meta.specs.Valid.{IsStoredVersion, IsStoredIntent, IsValid}
use Rattle.merge_cursor.specs.Merged.{merged}
use Rattle.run_block.specs.RunFormat.{Run}
use Rattle.lsm_store.specs.Shown.{shown, first_runs, fragments_in, with_batch, pairs_of, visible_points}
use Rattle.stat_delta.specs.Moments.{IsStoredBy}
use Rattle.mvcc_cursor.specs.WellFormed.{IsOfHistory, IsWellFormed, history_in}
use Rattle.mvcc_cursor.proofs.ReadBackLaws.{histories-read, history_from-of}
use Rattle.intent_resolve.specs.views.Hidden.{history, hidden_points, hidden_ranges, five_seconds}

-- the points that are seen
points : List Point
points = with_batch (points_of hidden_points) (shown first_runs)

some : 0 < 1
some = omega arith

within-key : 1 ≤ 4096
within-key = omega arith

within-bound : 1 ≤ 4097
within-bound = omega arith

within-bytes : 3 ≤ 1048576
within-bytes = omega arith

within-stored : 45 ≤ 16777216
within-stored = omega arith

no-count : 0 ≤ 2147483647
no-count = omega arith

history-versions : AllByRecursion IsStoredVersion history.versions
history-versions = (record { key = (some, within-key); ts = refl; local = refl; body = within-bytes }, tt)

history-intents : AllByRecursion (IsStoredIntent history) history.intents
unfolding IsStrictlySortedBy record_bytes value_bytes items
history-intents = (
  record {
    key = (some, within-key);
    id = refl;
    epoch = no-count;
    ts = refl;
    local = refl;
    some_entry = some;
    entries = (record { sequence = no-count; body = within-bytes }, tt);
    rising = (tt, tt);
    size = within-stored;
    above_items = (refl, (refl, tt));
  },
  tt,
)

history-valid : IsValid history
unfolding IsStrictlySortedBy
history-valid = record {
  versions_in_order = (tt, tt);
  intents_in_order = (tt, tt);
  versions = history-versions;
  intents = history-intents;
  tombstones = (record { ts = refl; span = refl; start = within-bound; end = within-bound }, tt);
  own_times = ((refl, tt), tt);
}

history-pairs : pairs_of points ≡ stored_pairs history
unfolding points pairs_of with_batch visible_points merged stored_pairs record_bytes value_bytes encoded_name name_of
history-pairs = refl

history-fragments : fragments_after (fragments_in first_runs) hidden_ranges ≡ fragments history.tombstones
unfolding fragments_with fragments
history-fragments = refl

-- a store with these points and fragments is that of the history
store-of : (store : List Run) → shown store ≡ with_batch (points_of hidden_points) (shown first_runs) → fragments_in store ≡ fragments_after (fragments_in first_runs) hidden_ranges
    → IsOfHistory history (shown store) (fragments_in store)
unfolding points
store-of store shows pieces = record {
  valid = history-valid;
  pairs = ap pairs_of shows ∙ history-pairs;
  fragments = pieces ∙ history-fragments;
}

-- so it is well formed
pub hidden-well_formed : (store : List Run) → shown store ≡ with_batch (points_of hidden_points) (shown first_runs)
    → fragments_in store ≡ fragments_after (fragments_in first_runs) hidden_ranges → IsWellFormed (history_in store) store
hidden-well_formed store shows pieces = histories-read history (shown store) (fragments_in store) (store-of store shows pieces)

-- nothing in the history is after five seconds
history-by : IsStoredBy five_seconds (in_fragment_order history)
unfolding fragments
history-by = (omega arith, (omega arith, (omega arith, tt)))

-- nor in that of the store
pub hidden-by : (store : List Run) → shown store ≡ with_batch (points_of hidden_points) (shown first_runs)
    → fragments_in store ≡ fragments_after (fragments_in first_runs) hidden_ranges → IsStoredBy five_seconds (history_in store)
hidden-by store shows pieces =
    subst (IsStoredBy five_seconds) (sym (history_from-of history (shown store) (fragments_in store) (store-of store shows pieces))) history-by
