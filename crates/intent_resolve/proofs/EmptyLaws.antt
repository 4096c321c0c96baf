-- A store that holds nothing.
use Rattle.std.specs.List.Sorted.{IsStrictlySortedBy}
use Rattle.mvcc_key.specs.Fragments.{fragments}
use Rattle.intent_meta.specs.StoredPairs.{stored_pairs}
use Rattle.intent_meta.specs.HistoryOf.{history_of}
use Rattle.merge_cursor.specs.Merged.{merged}
use Rattle.lsm_store.specs.Shown.{first_runs, pairs_of, visible_points}
use Rattle.stat_delta.specs.Moments.{IsStoredBy}
use Rattle.mvcc_cursor.specs.WellFormed.{history_in}

-- it has no wall times
pub empty-by : IsStoredBy 5 (history_in first_runs)
unfolding IsStrictlySortedBy fragments stored_pairs history_of merged pairs_of visible_points
empty-by = tt
