-- What holds of each key of a valid history.
use Rattle.std.specs.Prelude.{◌≡◌, ◌<◌, length, IfSome}
use Rattle.std.specs.List.{AllByRecursion}
use Rattle.std.specs.List.Sorted.{IsStrictlySortedBy}
use Rattle.mvcc_key.specs.Order.{Key}
use Rattle.mvcc_key.specs.History.{Entry, Body, Intent, History}
use Rattle.mvcc_key.specs.Items.{Item, item_cmp}
use Rattle.mvcc_value.specs.Encoding.{IsEncodable}
use Rattle.intent_meta.specs.Valid.{IsKeptLocal, IsValid}
use Rattle.intent_meta.specs.KeyHistory.{KeyHistory, key_history}

-- an item that has bytes
pub record IsWholeItem (i : Item) : Type 0 where
  pub local : IsKeptLocal i.local i.ts
  pub body : IsEncodable i.body

-- an intent of the key that has bytes
pub record IsWholeIntent (key : Key) (i : Intent) : Type 0 where
  pub key_is : i.key ≡ key
  pub local : IsKeptLocal i.local i.ts
  pub some_entry : 0 < length i.entries
  pub bodies : AllByRecursion (λ (e : Entry Body). IsEncodable e.value) i.entries

-- what holds of each key: its items are in strict order, and all has bytes
pub record IsKeyHistory (k : KeyHistory) : Type 0 where
  pub in_order : IsStrictlySortedBy item_cmp k.items
  pub items : AllByRecursion IsWholeItem k.items
  pub intent : IfSome k.intent (IsWholeIntent k.key)

-- it holds of each key of a valid history
abbrev pub KeysAreWhole : Type 0
KeysAreWhole = (h : History) (key : Key) → IsValid h → IsKeyHistory (key_history key h)
