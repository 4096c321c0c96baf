-- The store of the tests.
use Rattle.std.specs.Prelude.{ℕ, false, List, [], ◌∷◌, Option, Some, None}
use Rattle.mvcc_key.specs.Order.{Timestamp, no_time}
use Rattle.mvcc_key.specs.History.{Bytes, Version, Intent, History}
use Rattle.mvcc_key.specs.KeyFormat.{encoded_name}
use Rattle.mvcc_key.specs.declared.batch.PointOp.{PointOp}
use Rattle.mvcc_key.specs.declared.batch.Batch.{Batch}
use Rattle.mvcc_key.specs.RangeOperations.{RangeOp}
use Rattle.mvcc_value.specs.Encoding.{value_bytes}
use Rattle.intent_meta.specs.Record.{record_bytes}

-- so many nanoseconds
abbrev pub time : ℕ → Timestamp
time wall = record { wall = wall; logical = 0 }

-- the bytes of a value of one byte
abbrev pub plain : ℕ → ℕ → List ℕ
plain byte wall = value_bytes (Bytes (byte ∷ [])) no_time (time wall)

-- a version of a key of one byte
abbrev pub version : ℕ → ℕ → ℕ → Version
version key wall byte = record { key = key ∷ []; ts = time wall; local = no_time; body = Bytes (byte ∷ []) }

-- the intent of a at 5
abbrev pub intent : Intent
intent = record {
  key = 97 ∷ [];
  id = 7 ∷ 7 ∷ 7 ∷ 7 ∷ 7 ∷ 7 ∷ 7 ∷ 7 ∷ 7 ∷ 7 ∷ 7 ∷ 7 ∷ 7 ∷ 7 ∷ 7 ∷ 7 ∷ [];
  epoch = 0;
  ts = time 5;
  local = no_time;
  entries = record { sequence = 1; value = Bytes (112 ∷ []) } ∷ [];
}

-- a with the intent and versions at 3 and 1, d at 9, and a tombstone from c up to e at 4
abbrev pub history : History
history = record {
  versions = version 97 3 120 ∷ version 97 1 121 ∷ version 100 9 119 ∷ [];
  intents = intent ∷ [];
  tombstones = record { start = 99 ∷ []; end = 101 ∷ []; ts = time 4 } ∷ [];
}

-- the bytes of the intent's record
abbrev pub record_at_five : List ℕ
record_at_five = record_bytes (record {
  id = intent.id;
  epoch = 0;
  sequence = 1;
  ts = time 5;
  deleted = false;
  value_length = 6;
  history = [];
})

-- an operation on a point of a key of one byte
abbrev pub op : ℕ → ℕ → Option (List ℕ) → PointOp
op key wall value = record { key = encoded_name (record { key = key ∷ []; ts = time wall }); value = value }

-- what the oldest part has
abbrev pub first_batch : Batch
first_batch = record {
  points = op 97 3 (Some (plain 120 3)) ∷ op 97 1 (Some (plain 121 1)) ∷ op 98 2 (Some (plain 122 2)) ∷ op 100 9 (Some (plain 119 9)) ∷ [];
  ranges = [];
}

-- what the middle part clears
abbrev pub cleared_points : List PointOp
cleared_points = op 98 2 None ∷ []

-- the range operations of the middle part
abbrev pub second_ranges : List RangeOp
second_ranges = record { start = 99 ∷ []; end = 101 ∷ []; ts = time 4; value = Some [] } ∷ []

-- what the newest part has
abbrev pub third_batch : Batch
third_batch = record { points = op 97 0 (Some record_at_five) ∷ op 97 5 (Some (plain 112 5)) ∷ []; ranges = [] }
