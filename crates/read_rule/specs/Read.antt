-- What a read of one key answers.
use Rattle.std.specs.Prelude.{ℕ, Bool, false, ◌&&◌, ◌||◌, not, List, [], ◌∷◌, length, find, Option, Some, None, option_map, Result, Ok, Err, nat_lt, ◌==◌, if◌then◌else◌}
use Rattle.mvcc_key.specs.Steps.{◌>>=◌, unless_fault}
use Rattle.mvcc_key.specs.Order.{Timestamp, is_up_to, later, Key}
use Rattle.mvcc_key.specs.History.{Body, Deletion, Bytes, Int, Entry, Intent, History, intent_of, entry_at}
use Rattle.mvcc_key.specs.Items.{Item, effective_local, newest_at}
use Rattle.mvcc_key.specs.Refusal.{IntentSeen, seen, Refusal, BadOptions, Conflict, EpochFault, TooOld, Uncertain}
use Rattle.mvcc_value.specs.Encoding.{plain_bytes, value_bytes}
use Rattle.mvcc_value.specs.Found.{Found}
use Rattle.intent_meta.specs.StoredPairs.{provisional_sequence}
use Rattle.intent_meta.specs.KeyHistory.{KeyHistory, key_history, is_uncertain}
use Rattle.txn_state.specs.Transaction.{Txn, Actor, read_time, uncertainty_limit, is_in_txn, own_txn}

-- a limit for local timestamps, and two flags
pub record ReadOptions : Type 0 where
  pub local_limit : Timestamp
  pub inconsistent : Bool
  pub fail_more_recent : Bool

-- who reads, and how
pub record ReadRequest : Type 0 where
  pub who : Actor
  pub options : ReadOptions

-- what is found, and the length of its value as it is stored
pub record Row : Type 0 where
  pub found : Found
  pub stored : ℕ

-- a row, unless it is a deletion
abbrev pub row_of : Key → Body → Timestamp → ℕ → Option Row
row_of key Deletion ts stored = None
row_of key (Bytes bytes) ts stored = Some (record { found = record { key = key; body = Bytes bytes; ts = ts }; stored = stored })
row_of key (Int number) ts stored = Some (record { found = record { key = key; body = Int number; ts = ts }; stored = stored })

-- what a read answers: a row, no row, or why it is refused
abbrev pub Decision : Type 0
Decision = Result (Option Row) Refusal

-- an item above the read timestamp and up to the limit, which the reader may not tell from an older one
abbrev pub is_unsure : ReadRequest → Item → Bool
is_unsure r = is_uncertain (read_time r.who) (uncertainty_limit r.who) r.options.local_limit

-- an item that a read which fails on more recent ones refuses
abbrev pub is_more_recent : ReadRequest → Item → Bool
is_more_recent r i = r.options.fail_more_recent && is_up_to (read_time r.who) i.ts

-- an item as a row
abbrev pub item_row : Key → Option Item → Decision
item_row key None = Ok None
item_row key (Some i) = Ok (row_of key i.body i.ts (length (value_bytes i.body i.local i.ts)))

-- an uncertain item refuses
abbrev pub past_uncertain : Option Item → Decision → Decision
past_uncertain None others = others
past_uncertain (Some i) others = Err (Uncertain i.ts (effective_local i))

-- a more recent item refuses
abbrev pub past_more_recent : Option Item → Decision → Decision
past_more_recent None others = others
past_more_recent (Some i) others = Err (TooOld i.ts)

-- what the key's items, newest first, answer
abbrev pub by_items : Key → ReadRequest → List Item → Decision
by_items key r is =
    past_more_recent (find (is_more_recent r) is)
    (past_uncertain (find (is_unsure r) is)
    (item_row key (newest_at (read_time r.who) is)))

-- the length of an entry's value as it is stored: the provisional one is a version, the others are plain
abbrev pub stored_entry : Intent → Entry Body → ℕ
stored_entry i e =
    if e.sequence == provisional_sequence i then length (value_bytes e.value i.local i.ts)
    else length (plain_bytes e.value)

-- the own entry that the reader sees, where its intent is of the reader's epoch
abbrev pub entry_of : Intent → Option Txn → Option (Entry Body)
entry_of i None = None
entry_of i (Some t) = if t.epoch == i.epoch then entry_at t.sequence t.ignored i.entries else None

-- of the key's intent, if there is one
abbrev pub own_entry : ReadRequest → Option Intent → Option (Entry Body)
own_entry r None = None
own_entry r (Some i) = entry_of i (own_txn i.id r.who)

-- an own entry is the row; without one others decide
abbrev pub entry_row : Intent → Option (Entry Body) → Decision → Decision
entry_row i None others = others
entry_row i (Some e) others = Ok (row_of i.key e.value i.ts (stored_entry i e))

-- another transaction's intent is in the way
abbrev pub is_conflict : ReadRequest → Intent → Bool
is_conflict r i =
    not r.options.inconsistent
    && (r.options.fail_more_recent || is_up_to i.ts (later (read_time r.who) (uncertainty_limit r.who)))

-- past another's intent, and past an own one
abbrev pub past_intent : ReadRequest → Intent → Option Txn → Decision → Decision
past_intent r i None others = if is_conflict r i then Err (Conflict (seen i ∷ [])) else others
past_intent r i (Some t) others =
    if nat_lt t.epoch i.epoch then Err (EpochFault t.epoch i.epoch)
    else entry_row i (entry_of i (Some t)) others

-- past the key's intent, if there is one
abbrev pub past_any_intent : ReadRequest → Option Intent → Decision → Decision
past_any_intent r None others = others
past_any_intent r (Some i) others = past_intent r i (own_txn i.id r.who) others

-- the answer of a read, by what a history has of the key
abbrev pub decision : ReadRequest → KeyHistory → Decision
decision r k = past_any_intent r k.intent (by_items k.key r k.items)

-- the answer of a read of the key
unfoldable pub decide : History → ReadRequest → Key → Decision
decide h r key = decision r (key_history key h)

-- an inconsistent read lists another's intent up to its timestamp, and passes over it
abbrev pub is_listed : ReadRequest → Intent → Option Txn → Bool
is_listed r i None = r.options.inconsistent && is_up_to i.ts (read_time r.who)
is_listed r i (Some t) = false

-- whether the intent, if there is one, is listed
abbrev pub lists : ReadRequest → Option Intent → Bool
lists r None = false
lists r (Some i) = is_listed r i (own_txn i.id r.who)

-- the intent, if it is listed
abbrev pub listed_of : ReadRequest → Option Intent → List IntentSeen
listed_of r None = []
listed_of r (Some i) = if lists r (Some i) then seen i ∷ [] else []

-- what a read of the key lists
unfoldable pub listed : History → ReadRequest → Key → List IntentSeen
listed h r key = listed_of r (intent_of key h)

-- an inconsistent read is outside transactions, and does not fail on more recent items
abbrev pub are_bad_options : ReadRequest → Bool
are_bad_options r = r.options.inconsistent && (is_in_txn r.who || r.options.fail_more_recent)

-- a row, if there is one, and the intents that were passed over
pub record GetAnswer : Type 0 where
  pub found : Option Found
  pub intents : List IntentSeen

-- the answer of a read of one key, with what it lists
unfoldable pub get : History → ReadRequest → Key → Result GetAnswer Refusal
get h r key = do
  good ← unless_fault (are_bad_options r) BadOptions r
  found ← decide h r key
  Ok (record { found = option_map (λ row. row.found) found; intents = listed h r key })
