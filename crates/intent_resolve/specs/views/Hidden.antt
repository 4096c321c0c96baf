-- The store of the tests: a version that a tombstone hides, and an intent above both.
use Rattle.std.specs.Prelude.{ℕ, false, List, [], ◌∷◌, Some}
use Rattle.mvcc_key.specs.Order.{Timestamp, no_time}
use Rattle.mvcc_key.specs.History.{Bytes, Intent, History}
use Rattle.mvcc_key.specs.KeyFormat.{encoded_name}
use Rattle.mvcc_key.specs.declared.batch.PointOp.{PointOp}
use Rattle.mvcc_key.specs.RangeOperations.{RangeOp}
use Rattle.mvcc_value.specs.Encoding.{value_bytes}
use Rattle.intent_meta.specs.Record.{record_bytes}

-- so many nanoseconds
abbrev pub time : ℕ → Timestamp
time wall = record { wall = wall; logical = 0 }

-- five seconds, at which the intent stands
abbrev pub five_seconds : ℕ
five_seconds = 5000000000

-- the bytes of the value abc at a timestamp
abbrev pub abc : ℕ → List ℕ
abc wall = value_bytes (Bytes (97 ∷ 98 ∷ 99 ∷ [])) no_time (time wall)

-- the intent of a
abbrev pub intent : Intent
intent = record {
  key = 97 ∷ [];
  id = 7 ∷ 7 ∷ 7 ∷ 7 ∷ 7 ∷ 7 ∷ 7 ∷ 7 ∷ 7 ∷ 7 ∷ 7 ∷ 7 ∷ 7 ∷ 7 ∷ 7 ∷ 7 ∷ [];
  epoch = 0;
  ts = time five_seconds;
  local = no_time;
  entries = record { sequence = 0; value = Bytes (97 ∷ 98 ∷ 99 ∷ []) } ∷ [];
}

-- a with the intent and a version at one second, and a tombstone from a up to b at three
abbrev pub history : History
history = record {
  versions = record { key = 97 ∷ []; ts = time 1000000000; local = no_time; body = Bytes (97 ∷ 98 ∷ 99 ∷ []) } ∷ [];
  intents = intent ∷ [];
  tombstones = record { start = 97 ∷ []; end = 98 ∷ []; ts = time 3000000000 } ∷ [];
}

-- the bytes of the intent's record
abbrev pub head_bytes : List ℕ
head_bytes = record_bytes (record {
  id = intent.id;
  epoch = 0;
  sequence = 0;
  ts = time five_seconds;
  deleted = false;
  value_length = 8;
  history = [];
})

-- an operation that sets a point of a
abbrev pub op : ℕ → List ℕ → PointOp
op wall value = record { key = encoded_name (record { key = 97 ∷ []; ts = time wall }); value = Some value }

-- the points of the batch
abbrev pub hidden_points : List PointOp
hidden_points = op 0 head_bytes ∷ op five_seconds (abc five_seconds) ∷ op 1000000000 (abc 1000000000) ∷ []

-- its range operations
abbrev pub hidden_ranges : List RangeOp
hidden_ranges = record { start = 97 ∷ []; end = 98 ∷ []; ts = time 3000000000; value = Some [] } ∷ []
