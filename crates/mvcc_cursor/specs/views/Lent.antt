-- How contracts see what is lent of a stored point.
use Rattle.std.specs.Prelude.{ℕ, List, [], Option, Some, None, if◌then◌else◌}
use Rattle.mvcc_key.specs.Order.{Timestamp, is_no_time}
use Rattle.mvcc_key.specs.Points.{Point}
use Rattle.mvcc_key.specs.History.{Version}
use Rattle.mvcc_key.specs.views.Seen.{time_of}
use Rattle.mvcc_value.specs.Encoding.{value_of}
use Rattle.intent_meta.specs.StoredPairs.{stored_value}
use Rattle.intent_meta.specs.views.Lent.{LentItem}
use Rattle.intent_meta.specs.views.Listed.{known_value}
use Rattle.mvcc_cursor.specs.declared.version_ref.VersionRef.{VersionRef}

-- a version as it is stored: its timestamp, and its value in bytes
pub record LentVersion : Type 0 where
  pub ts : Timestamp
  pub value : List ℕ

-- the version that is lent
abbrev pub seen_version : VersionRef → LentVersion
seen_version v = record { ts = time_of v.ts; value = v.value.now }

-- the bytes that are set, where any are
abbrev pub bytes_in : Option (List ℕ) → List ℕ
bytes_in None = []
bytes_in (Some bytes) = bytes

-- the version that a point is
abbrev pub version_in : Point → LentVersion
version_in p = record { ts = p.name.ts; value = bytes_in p.value }

-- what is to be lent of a version
abbrev pub lent_version : Version → LentVersion
lent_version v = record { ts = v.ts; value = stored_value v }

-- a version that is lent as an item, with the local timestamp that its bytes have
abbrev pub item_in : LentVersion → LentItem
item_in v = record { ts = v.ts; local = (known_value (value_of v.ts v.value)).local; bytes = v.value }

-- the timestamps of a version that is lent: its own, and its effective local one
abbrev pub times_in : LentVersion → Timestamp × Timestamp
times_in v = (v.ts, if is_no_time (item_in v).local then v.ts else (item_in v).local)
