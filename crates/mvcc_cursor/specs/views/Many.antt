-- The store of the test of time: a key with many versions, one with two, and one at each end of the store.
use Rattle.std.specs.Prelude.{◌≡◌, ℕ, zero, suc, List, [], ◌∷◌, map, Some}
use Rattle.mvcc_key.specs.Order.{no_time}
use Rattle.mvcc_key.specs.History.{Bytes, Version, version_name, History}
use Rattle.mvcc_key.specs.KeyFormat.{encoded_name}
use Rattle.mvcc_key.specs.Points.{Point}
use Rattle.mvcc_key.specs.declared.batch.PointOp.{PointOp}
use Rattle.mvcc_key.specs.declared.batch.Batch.{Batch}
use Rattle.intent_meta.specs.StoredPairs.{stored_value}
use Rattle.run_block.specs.RunFormat.{Run}
use Rattle.lsm_store.specs.Shown.{shown, fragments_in}
use Rattle.mvcc_cursor.specs.views.Filled.{plain, time}

-- `versions/` and a byte
abbrev pub key : ℕ → List ℕ
key last = 118 ∷ 101 ∷ 114 ∷ 115 ∷ 105 ∷ 111 ∷ 110 ∷ 115 ∷ 47 ∷ last ∷ []

-- a version of a key, whose value is x
abbrev pub version : List ℕ → ℕ → Version
version key wall = record { key = key; ts = time wall; local = no_time; body = Bytes (120 ∷ []) }

-- the operation that sets it
abbrev pub set_version : List ℕ → ℕ → PointOp
set_version key wall = record { key = encoded_name (record { key = key; ts = time wall }); value = Some (plain 120 wall) }

-- so many versions of versions/c, from the newest, and behind them versions/d at 1
unfoldable pub many_from : ℕ → List Version
many_from zero = version (key 100) 1 ∷ []
many_from (suc n) = version (key 99) (suc n) ∷ many_from n

-- before them versions/a at 1, and versions/b at 2 and at 1
abbrev pub versions_with : ℕ → List Version
versions_with n = version (key 97) 1 ∷ version (key 98) 2 ∷ version (key 98) 1 ∷ many_from n

-- the history that has these versions alone
abbrev pub many : ℕ → History
many n = record { versions = versions_with n; intents = []; tombstones = [] }

-- the point that sets a version
abbrev pub version_point : Version → Point
version_point v = record { name = version_name v; value = Some (stored_value v) }

-- the points of the history
abbrev pub points_with : ℕ → List Point
points_with n = map version_point (versions_with n)

-- what is stored before the first version of versions/c, as a batch
abbrev pub first_batch : Batch
first_batch = record {
  points = set_version (key 97) 1 ∷ set_version (key 98) 2 ∷ set_version (key 98) 1 ∷ set_version (key 100) 1 ∷ [];
  ranges = [];
}

-- the store shows these points, and has no fragments
pub record HoldsMany (n : ℕ) (store : List Run) : Type 0 where
  pub shows : shown store ≡ points_with n
  pub none : fragments_in store ≡ []
