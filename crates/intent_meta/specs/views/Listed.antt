-- How contracts see a key's items that are held in a list.
use Rattle.std.specs.Prelude.{◌≡◌, ℕ, Bool, true, false, ◌&&◌, List, [], ◌∷◌, ◌++◌, length, map, Option, Some, None, Result, Ok, Err, unwrap_or, option_map, ◌==◌, not, if◌then◌else◌}
use Rattle.mvcc_key.specs.Lists.{last}
use Rattle.mvcc_key.specs.Order.{Timestamp, no_time, is_before, Key}
use Rattle.mvcc_key.specs.History.{Body, Deletion, is_deletion, Intent}
use Rattle.mvcc_key.specs.Items.{Item}
use Rattle.mvcc_value.specs.Encoding.{Value, value_of, value_bytes}
use Rattle.mvcc_value.specs.declared.fault.ValueFault.{ValueFault}
use Rattle.intent_meta.specs.Record.{IntentRecord, record_of}
use Rattle.intent_meta.specs.HistoryOf.{entry_body}
use Rattle.intent_meta.specs.KeyHistory.{KeyHistory}
use Rattle.intent_meta.specs.views.WholeKeys.{IsWholeItem, IsWholeIntent}
use Rattle.intent_meta.specs.StoredPairs.{intent_record}
use Rattle.intent_meta.specs.views.Lent.{lent_item}
use Rattle.intent_meta.specs.views.Seen.{record_in}
use Rattle.intent_meta.specs.declared.fault.IntentFault.{IntentFault}

-- the value that bytes are known to be
abbrev pub known_value : Result Value ValueFault → Value
known_value (Ok v) = v
known_value (Err fault) = record { local = no_time; body = Deletion }

-- the body of an item's bytes; a tombstone has none
abbrev pub body_in : Timestamp → Option (List ℕ) → Body
body_in ts None = Deletion
body_in ts (Some bytes) = (known_value (value_of ts bytes)).body

-- the bytes are those of the item, which is whole
pub record IsListedItem (i : Item) (bytes : Option (List ℕ)) : Type 0 where
  pub bytes_are : unwrap_or bytes [] ≡ (lent_item i).bytes
  pub whole : IsWholeItem i

-- an intent that is read from a record and the value of its provisional version
pub record ListedIntent : Type 0 where
  pub head : IntentRecord
  pub value : Value

-- what the two are known to be
abbrev pub intent_in : List ℕ → List ℕ → ListedIntent
intent_in head value = record { head = record_in head; value = known_value (value_of (record_in head).ts value) }

-- as the intent of the key
abbrev pub intent_at : Key → ListedIntent → Intent
intent_at key i = record {
  key = key;
  id = i.head.id;
  epoch = i.head.epoch;
  ts = i.head.ts;
  local = i.value.local;
  entries = map entry_body i.head.history ++ record { sequence = i.head.sequence; value = i.value.body } ∷ [];
}

-- equal truth values
abbrev pub is_same_flag : Bool → Bool → Bool
is_same_flag true b = b
is_same_flag false b = not b

-- the value is one that the record speaks of
abbrev pub is_value_of : IntentRecord → List ℕ → Result Value ValueFault → Bool
is_value_of r bytes (Ok v) = is_same_flag r.deleted (is_deletion v.body) && (r.value_length == length bytes)
is_value_of r bytes (Err fault) = false

-- the value is one that the record speaks of, if that is one
abbrev pub fits : Result IntentRecord IntentFault → List ℕ → Bool
fits (Ok r) bytes = is_value_of r bytes (value_of r.ts bytes)
fits (Err fault) bytes = false

-- a record and the value of its provisional version
abbrev pub are_intent : List ℕ → List ℕ → Bool
are_intent head value = fits (record_of head) value

-- the two are those of the intent, at each key, and it is whole
pub record IsListedIntent (head value : List ℕ) (i : ListedIntent) : Type 0 where
  pub read : record_of head ≡ Ok i.head
  pub value_is : value ≡ value_bytes i.value.body i.value.local i.head.ts
  pub head_is : (key : Key) → intent_record (intent_at key i) ≡ i.head
  pub whole : (key : Key) → IsWholeIntent key (intent_at key i)

-- what is held of a key
abbrev pub listed : Key → Option ListedIntent → List Item → KeyHistory
listed key intent items = record { key = key; intent = option_map (intent_at key) intent; items = items }

-- older than the last one
abbrev pub is_older_than : Option Item → Timestamp → Bool
is_older_than None ts = true
is_older_than (Some i) ts = is_before ts i.ts

-- the item is older than all others
abbrev pub is_older : List Item → Item → Bool
is_older items i = is_older_than (last items) i.ts

-- the items with one more, if it is older than all others
abbrev pub with_older : List Item → Item → List Item
with_older items i = if is_older items i then items ++ i ∷ [] else items
