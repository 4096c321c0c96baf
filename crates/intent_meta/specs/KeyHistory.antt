-- What a history has of one key: its intent, and its items.
use Rattle.std.specs.Prelude.{Bool, ◌&&◌, ◌||◌, List, Option}
use Rattle.mvcc_key.specs.Order.{Timestamp, is_no_time, is_before, is_up_to, Key}
use Rattle.mvcc_key.specs.History.{Intent, History, intent_of}
use Rattle.mvcc_key.specs.Items.{Item, items, effective_local}

-- a key, its intent if it has one, and its items, newest first
pub record KeyHistory : Type 0 where
  pub key : Key
  pub intent : Option Intent
  pub items : List Item

-- what the history has of the key
abbrev pub key_history : Key → History → KeyHistory
key_history key h = record { key = key; intent = intent_of key h; items = items h key }

-- an item above one timestamp and up to another, and, where there is a local limit, written up to that
abbrev pub is_uncertain : Timestamp → Timestamp → Timestamp → Item → Bool
is_uncertain above limit local_limit i =
    is_before above i.ts && is_up_to i.ts limit
    && (is_no_time local_limit || is_up_to (effective_local i) local_limit)
