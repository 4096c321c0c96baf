-- Which stores are those of a history.
use Rattle.std.specs.Prelude.{◌≡◌, List}
use Rattle.mvcc_key.specs.History.{History}
use Rattle.mvcc_key.specs.Points.{Point}
use Rattle.mvcc_key.specs.Fragments.{Fragment, fragments}
use Rattle.intent_meta.specs.StoredPairs.{stored_pairs}
use Rattle.intent_meta.specs.HistoryOf.{history_of}
use Rattle.intent_meta.specs.Valid.{IsValid}
use Rattle.run_block.specs.RunFormat.{Run}
use Rattle.lsm_store.specs.Shown.{shown, fragments_in, pairs_of}

-- the history is valid, and these are its pairs and its fragments
pub record IsOfHistory (h : History) (points : List Point) (fs : List Fragment) : Type 0 where
  pub valid : IsValid h
  pub pairs : pairs_of points ≡ stored_pairs h
  pub fragments : fs ≡ fragments h.tombstones

-- the store's pairs and fragments are those of the history
abbrev pub IsWellFormed : History → List Run → Type 0
IsWellFormed h store = IsOfHistory h (shown store) (fragments_in store)

-- the history that points and fragments are read back as
abbrev pub history_from : List Point → List Fragment → History
history_from points fs = history_of (pairs_of points) fs

-- the history that the pairs and fragments of a store are read back as
abbrev pub history_in : List Run → History
history_in store = history_from (shown store) (fragments_in store)

-- points and fragments of a valid history are those of the history that they are read back as
abbrev pub HistoriesAreReadBack : Type 0
HistoriesAreReadBack = (h : History) (points : List Point) (fs : List Fragment) → IsOfHistory h points fs → IsOfHistory (history_from points fs) points fs
