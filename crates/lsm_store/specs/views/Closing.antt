-- A memory table made a run.
use Rattle.std.specs.Prelude.{◌≡◌, Bool, ◌&&◌, List, ◌∷◌, Option, Some, None, if◌then◌else◌}
use Rattle.mvcc_key.specs.Lists.{is_empty}
use Rattle.run_block.specs.RunFormat.{Run}
use Rattle.lsm_store.specs.Shown.{empty_run}

-- no point and no range operation
abbrev pub is_empty_run : Run → Bool
is_empty_run r = is_empty r.points && is_empty r.ranges

-- the run of what a memory table holds, where that is anything
abbrev pub IsRunOfTable : Run → Option Run → Type 0
IsRunOfTable table None = table ≡ empty_run
IsRunOfTable table (Some run) = (run ≡ table) × (table ≡ empty_run → ⊥)

-- the runs after a flush
abbrev pub flushed_runs : Run → List Run → List Run
flushed_runs table runs = if is_empty_run table then runs else table ∷ runs
