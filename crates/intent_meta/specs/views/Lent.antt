-- How contracts see what is lent of one key.
use Rattle.std.specs.Prelude.{◌≡◌, ℕ, List, [], option_map, unwrap_or}
use Rattle.mvcc_key.specs.Order.{Timestamp}
use Rattle.mvcc_key.specs.History.{Intent}
use Rattle.mvcc_key.specs.Items.{Item, effective_local}
use Rattle.mvcc_key.specs.views.Seen.{time_of}
use Rattle.mvcc_value.specs.Encoding.{plain_bytes, value_bytes}
use Rattle.intent_meta.specs.Record.{IntentRecord}
use Rattle.intent_meta.specs.StoredPairs.{provisional_body, intent_record}
use Rattle.intent_meta.specs.KeyHistory.{KeyHistory}
use Rattle.intent_meta.specs.views.Seen.{seen_intent}
use Rattle.mvcc_key.specs.declared.timestamp.Timestamp.{Timestamp as Declared}
use Rattle.intent_meta.specs.declared.key_items.ItemRef.{ItemRef}
use Rattle.intent_meta.specs.declared.key_items.IntentAt.{IntentAt}

-- an item: its timestamps, and the bytes of its value
pub record LentItem : Type 0 where
  pub ts : Timestamp
  pub local : Timestamp
  pub bytes : List ℕ

-- an intent: its record, and its plain provisional value
pub record LentIntent : Type 0 where
  pub head : IntentRecord
  pub provisional : List ℕ

-- what is to be lent of an item
abbrev pub lent_item : Item → LentItem
lent_item i = record { ts = i.ts; local = i.local; bytes = value_bytes i.body i.local i.ts }

-- what is to be lent of an intent
abbrev pub lent_intent : Intent → LentIntent
lent_intent i = record { head = intent_record i; provisional = plain_bytes (provisional_body i) }

-- an item that is lent; a tombstone has no bytes, as a deletion has none
abbrev pub seen_item : ItemRef → LentItem
seen_item r = record { ts = time_of r.ts; local = time_of r.local; bytes = unwrap_or (option_map (λ v. v.now) r.value) [] }

-- an intent that is lent
abbrev pub seen_intent_at : IntentAt → LentIntent
seen_intent_at r = record { head = seen_intent r.head; provisional = r.provisional.now }

-- the timestamps of an item: its own, and its effective local one
abbrev pub item_times : Item → Timestamp × Timestamp
item_times i = (i.ts, effective_local i)

-- two timestamps
abbrev pub seen_times : Declared × Declared → Timestamp × Timestamp
seen_times p = (time_of p.0, time_of p.1)

-- what is told of the key, and the place, are as before
pub record Stays {K P : Type 0} (shown : K → KeyHistory) (place : K → P) (old new : K) : Type 0 where
  pub shown_same : shown new ≡ shown old
  pub place_same : place new ≡ place old
