-- How many looks a resolution of one key takes.
use Rattle.std.specs.Prelude.{ℕ, ◌+◌, ◌*◌, List, length}
use Rattle.mvcc_key.specs.Order.{Key}
use Rattle.mvcc_key.specs.views.Looks.{bits}
use Rattle.run_block.specs.RunFormat.{Run}
use Rattle.lsm_store.specs.Shown.{fragments_in}
use Rattle.mvcc_cursor.specs.Standing.{one_seek, entries_of, sought_key}

-- the most looks that a resolution of the key takes: of a key that is longer than any stored one, so many bytes count
abbrev pub resolve_looks : Key → List Run → ℕ
resolve_looks key store = 8 * entries_of (sought_key key) store + 6 * one_seek store + 4 * (bits (length (fragments_in store)) + 1)
