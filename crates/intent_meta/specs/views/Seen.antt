-- How contracts see intents in their bytes.
use Rattle.std.specs.Prelude.{ℕ, Bool, false, ◌&&◌, nat_le, List, [], Result, Ok, Err}
use Rattle.std.specs.List.{list_any}
use Rattle.mvcc_key.specs.Order.{no_time}
use Rattle.mvcc_key.specs.History.{Entry}
use Rattle.mvcc_key.specs.declared.span.SeqRange.{SeqRange}
use Rattle.intent_meta.specs.Record.{IntentRecord, record_of}
use Rattle.intent_meta.specs.declared.fault.IntentFault.{IntentFault}
use Rattle.intent_meta.specs.declared.fields.EntryRef.{EntryRef}
use Rattle.intent_meta.specs.declared.intent_ref.IntentRef.{IntentRef}

-- the record that was read; where there is none, an empty one
abbrev pub known_record : Result IntentRecord IntentFault → IntentRecord
known_record (Ok r) = r
known_record (Err fault) = record { id = []; epoch = 0; sequence = 0; ts = no_time; deleted = false; value_length = 0; history = [] }

-- the record that the bytes are known to be
abbrev pub record_in : List ℕ → IntentRecord
record_in bytes = known_record (record_of bytes)

-- the record that is read
abbrev pub seen_intent : IntentRef → IntentRecord
seen_intent i = record_in i.bytes.now

-- an entry that lies in bytes
abbrev pub seen_entry : EntryRef → Entry (List ℕ)
seen_entry e = record { sequence = e.sequence; value = e.value.now }

-- a range contains the sequence
abbrev pub is_ignored_by : List SeqRange → ℕ → Bool
is_ignored_by ranges sequence = list_any (λ r. nat_le r.first sequence && nat_le sequence r.last) ranges
