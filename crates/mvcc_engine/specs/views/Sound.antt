-- What holds of every engine.
use Rattle.std.specs.Prelude.{◌≡◌, List}
use Rattle.lsm_store.specs.Shown.{parts_of}
use Rattle.run_block.specs.RunFormat.{Run}
use Rattle.stat_core.specs.Running.{Running}
use Rattle.stat_delta.specs.Moments.{IsStoredBy}
use Rattle.mvcc_cursor.specs.WellFormed.{IsWellFormed, history_in}
use Rattle.mvcc_engine.specs.Step.{State, statistics}

-- the pairs and fragments of the store are those of one valid history, nothing in it is after the moment of the running statistics,
-- and these are a recount of it
pub record IsSound (store : List Run) (running : Running) : Type 0 where
  pub formed : IsWellFormed (history_in store) store
  pub by : IsStoredBy running.last (history_in store)
  pub sums : running.sums ≡ statistics running.last (history_in store)

-- the state of a store and of running statistics
abbrev pub state_of : List Run → Running → State
state_of store running = record { history = history_in store; last = running.last; count_max = running.count_max; parts = parts_of store }
