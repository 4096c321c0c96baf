-- What a new engine stores: nothing.
use Rattle.std.specs.Prelude.{◌≡◌, ℕ}
use Rattle.std.specs.List.Sorted.{IsStrictlySortedBy}
use Rattle.std.proofs.Common.{refl}
use Rattle.mvcc_key.specs.Fragments.{fragments}
use Rattle.intent_meta.specs.StoredPairs.{stored_pairs}
use Rattle.intent_meta.specs.HistoryOf.{history_of}
use Rattle.merge_cursor.specs.Merged.{merged}
use Rattle.lsm_store.specs.Shown.{first_runs, visible_points, pairs_of, parts_of}
use Rattle.stat_core.specs.ComputeStats.{no_sums, compute_stats}
use Rattle.stat_core.specs.Running.{Running}
use Rattle.mvcc_engine.specs.Step.{first_state, statistics}
use Rattle.mvcc_engine.specs.views.Sound.{IsSound, state_of}

-- the running statistics of nothing
abbrev pub nothing_counted : ℕ → Running
nothing_counted count_max = record { sums = no_sums; last = 0; count_max = count_max }

-- a new engine is sound
pub sound-nothing : (count_max : ℕ) → IsSound first_runs (nothing_counted count_max)
unfolding visible_points merged pairs_of history_of stored_pairs fragments statistics compute_stats IsStrictlySortedBy
sound-nothing count_max = record {
  formed = record {
    valid = record { versions_in_order = tt; intents_in_order = tt; versions = tt; intents = tt; tombstones = tt; own_times = tt };
    pairs = refl;
    fragments = refl;
  };
  by = tt;
  sums = refl;
}

-- its state is the first
pub nothing-is : (count_max : ℕ) → state_of first_runs (nothing_counted count_max) ≡ first_state count_max
unfolding visible_points merged pairs_of history_of parts_of
nothing-is count_max = refl
