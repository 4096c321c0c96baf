-- How contracts see an intent as it lies in bytes.
use Rattle.std.specs.Prelude.{◌≡◌, ℕ, List, [], ◌∷◌, ◌++◌, if◌then◌else◌}
use Rattle.std.specs.List.{AllByRecursion}
use Rattle.mvcc_key.specs.Order.{Timestamp, is_before, is_no_time}
use Rattle.mvcc_key.specs.History.{Body, Entry, Intent}
use Rattle.mvcc_key.specs.views.Seen.{time_of}
use Rattle.intent_meta.specs.StoredPairs.{plain_entry}
use Rattle.intent_meta.specs.Valid.{IsStoredEntry}
use Rattle.intent_meta.specs.views.WholeKeys.{IsWholeIntent}
use Rattle.intent_meta.specs.views.Lent.{LentIntent, lent_intent}
use Rattle.intent_meta.specs.views.Seen.{seen_intent}
use Rattle.intent_resolve.specs.declared.own_intent.OwnIntent.{OwnIntent}

-- the local timestamp of what is moved from one timestamp to another
abbrev pub local_after : Timestamp → Timestamp → Timestamp → Timestamp
local_after old local ts = if is_before old ts then (if is_no_time local then old else local) else local

-- its record and its plain provisional value
abbrev pub seen_own : OwnIntent → LentIntent
seen_own o = record { head = seen_intent o.head; provisional = o.provisional.now }

-- it is this intent, with its local timestamp
pub record IsLentOf (own : OwnIntent) (i : Intent) : Type 0 where
  pub lent : seen_own own ≡ lent_intent i
  pub local : time_of own.local ≡ i.local
  pub whole : IsWholeIntent i.key i

-- it is some intent, whose entries may be stored
pub record IsSomeIntent (own : OwnIntent) : Type 0 where
  pub intent : Intent
  pub is : IsLentOf own intent
  pub entries : AllByRecursion IsStoredEntry intent.entries

-- it is an entry that may be stored
pub record IsOfStored (e : Entry (List ℕ)) : Type 0 where
  pub entry : Entry Body
  pub stored : IsStoredEntry entry
  pub is : e ≡ plain_entry entry

-- entries and the one behind them
abbrev pub with_last : List (Entry (List ℕ)) × Entry (List ℕ) → List (Entry (List ℕ))
with_last p = p.0 ++ p.1 ∷ []
