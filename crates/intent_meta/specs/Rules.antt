-- What holds of every record: its fields are within their limits, and its entries rise below its sequence.
use Rattle.std.specs.Prelude.{◌≡◌, ℕ, ◌^◌, ◌<◌, ◌≤◌, true, false, List, [], ◌∷◌, length, Option, Some, None, Ok, ⊤}
use Rattle.mvcc_key.specs.Encoded.{IsBytes}
use Rattle.mvcc_key.specs.Limits.{max_count}
use Rattle.mvcc_key.specs.Order.{Timestamp, is_no_time, is_in_range}
use Rattle.mvcc_key.specs.History.{Entry}
use Rattle.mvcc_value.specs.Encoding.{is_value_length}
use Rattle.intent_meta.specs.Record.{IntentRecord, record_bytes, record_of, is_entry_value, is_next_sequence}

-- a timestamp that a record may have
pub record IsRecordTime (t : Timestamp) : Type 0 where
  pub some : is_no_time t ≡ false
  pub range : is_in_range t ≡ true

-- an entry that a record of the sequence limit may have, behind one with the sequence before
pub record IsRecordEntry (before : Option ℕ) (limit : ℕ) (e : Entry (List ℕ)) : Type 0 where
  pub sequence : e.sequence ≤ max_count
  pub placed : is_next_sequence before limit e.sequence ≡ true
  pub size : length e.value < 2 ^ 32
  pub value : is_entry_value e.value ≡ true

-- the entries that a record of the sequence limit may have, behind one with the sequence before
abbrev pub AreRecordEntries : Option ℕ → ℕ → List (Entry (List ℕ)) → Type 0
AreRecordEntries before limit [] = ⊤
AreRecordEntries before limit (e ∷ es) = IsRecordEntry before limit e × AreRecordEntries (Some e.sequence) limit es

-- a record that has bytes
pub record IsRecord (r : IntentRecord) : Type 0 where
  pub id : length r.id ≡ 16
  pub epoch : r.epoch ≤ max_count
  pub sequence : r.sequence ≤ max_count
  pub ts : IsRecordTime r.ts
  pub value_length : is_value_length r.deleted r.value_length ≡ true
  pub value_size : r.value_length < 2 ^ 32
  pub entries : AreRecordEntries None r.sequence r.history

-- the bytes are those of the record
pub record IsRecordOf (bytes : List ℕ) (r : IntentRecord) : Type 0 where
  pub bytes_are : bytes ≡ record_bytes r
  pub is_record : IsRecord r

-- a record is read from its bytes
abbrev pub RecordIsRead : Type 0
RecordIsRead = (r : IntentRecord) → IsRecord r → record_of (record_bytes r) ≡ Ok r

-- bytes that are read as a record are its bytes
abbrev pub ReadingWasWritten : Type 0
ReadingWasWritten = (bytes : List ℕ) (r : IntentRecord) → IsBytes bytes → record_of bytes ≡ Ok r → IsRecordOf bytes r
