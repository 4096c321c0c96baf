-- A store that holds nothing is well formed.
use Rattle.std.proofs.Common.{refl}
use Rattle.std.specs.List.Sorted.{IsStrictlySortedBy}
use Rattle.mvcc_key.specs.Fragments.{fragments}
use Rattle.intent_meta.specs.StoredPairs.{stored_pairs}
use Rattle.intent_meta.specs.HistoryOf.{history_of}
use Rattle.merge_cursor.specs.Merged.{merged}
use Rattle.lsm_store.specs.Shown.{first_runs, pairs_of, visible_points}
use Rattle.mvcc_cursor.specs.WellFormed.{IsWellFormed, history_in}

pub empty-well_formed : IsWellFormed (history_in first_runs) first_runs
unfolding IsStrictlySortedBy fragments stored_pairs history_of merged pairs_of visible_points
empty-well_formed = record {
  valid = record { versions_in_order = tt; intents_in_order = tt; versions = tt; intents = tt; tombstones = tt; own_times = tt };
  pairs = refl;
  fragments = refl;
}
