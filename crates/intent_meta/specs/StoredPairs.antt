-- The pairs that a history is stored as.
use Rattle.std.specs.Prelude.{ℕ, List, ◌++◌, length, map, unwrap_or, option_map}
use Rattle.std.specs.declared.cmp.Ordering.{Ordering}
use Rattle.std.specs.Ordering.{on}
use Rattle.mvcc_key.specs.Lists.{in_order, last, before_last}
use Rattle.mvcc_key.specs.Order.{no_time, Name, name_cmp, Pair}
use Rattle.mvcc_key.specs.History.{Body, Deletion, is_deletion, Version, version_name, Entry, Intent, History}
use Rattle.mvcc_value.specs.Encoding.{plain_bytes, value_bytes}
use Rattle.intent_meta.specs.Record.{IntentRecord, record_bytes}

-- the body of the last entry
abbrev pub provisional_body : Intent → Body
provisional_body i = unwrap_or (option_map (λ e. e.value) (last i.entries)) Deletion

-- the sequence of the last entry
abbrev pub provisional_sequence : Intent → ℕ
provisional_sequence i = unwrap_or (option_map (λ e. e.sequence) (last i.entries)) 0

-- the version that stands for the intent beside its record
abbrev pub provisional : Intent → Version
provisional i = record { key = i.key; ts = i.ts; local = i.local; body = provisional_body i }

-- the encoded value of a version
abbrev pub stored_value : Version → List ℕ
stored_value v = value_bytes v.body v.local v.ts

-- an entry with the bytes of its plain value
abbrev pub plain_entry : Entry Body → Entry (List ℕ)
plain_entry e = record { sequence = e.sequence; value = plain_bytes e.value }

-- the record of an intent
abbrev pub intent_record : Intent → IntentRecord
intent_record i = record {
  id = i.id;
  epoch = i.epoch;
  sequence = provisional_sequence i;
  ts = i.ts;
  deleted = is_deletion (provisional_body i);
  value_length = length (stored_value (provisional i));
  history = map plain_entry (before_last i.entries);
}

-- what is stored under one name: the record of an intent, or a version
pub data Stored : Type 0 where
  RecordOf : (intent : Intent) → Stored
  VersionOf : (version : Version) → Stored

-- a record's name has no timestamp
abbrev pub stored_name : Stored → Name
stored_name (RecordOf i) = record { key = i.key; ts = no_time }
stored_name (VersionOf v) = version_name v

-- by name
abbrev pub stored_cmp : Stored → Stored → Ordering
stored_cmp = on stored_name name_cmp

-- each intent's record, each intent's provisional version, and each version, in the order of stored pairs
abbrev pub stored : History → List Stored
stored h =
    in_order stored_cmp
    (map RecordOf h.intents ++ map (λ i. VersionOf (provisional i)) h.intents ++ map VersionOf h.versions)

-- what is stored under the name
abbrev pub stored_bytes : Stored → List ℕ
stored_bytes (RecordOf i) = record_bytes (intent_record i)
stored_bytes (VersionOf v) = stored_value v

-- the name with its bytes
abbrev pub stored_pair : Stored → Pair
stored_pair x = record { name = stored_name x; value = stored_bytes x }

-- the pairs that the history is stored as
unfoldable pub stored_pairs : History → List Pair
stored_pairs h = map stored_pair (stored h)
