-- Why a write is refused: what each refusal says of the key and of the request.
use Rattle.std.specs.Prelude.{◌≡◌, ℕ, ◌<◌, ℤ, ◌+ℤ◌, true, false, List, [], ◌∷◌, length, Option, Some, None, Ok, Err}
use Rattle.mvcc_key.specs.Order.{Timestamp, is_no_time, is_up_to, Key}
use Rattle.mvcc_key.specs.Limits.{max_key_length, max_bytes_length, max_stored_length}
use Rattle.mvcc_key.specs.History.{Body, Bytes, Int, Entry, Intent, History, intent_of}
use Rattle.mvcc_key.specs.Items.{Item, items, newest}
use Rattle.mvcc_key.specs.Refusal.{IntentSeen, seen, Refusal, EmptyKey, KeyTooLong, ValueTooLong, BadTimestamp, Conflict, EpochFault, ReplayMissing, ReplayMismatch, TooOld, ConditionFailed, NotInteger, IntegerOverflow, IntentTooLong}
use Rattle.intent_meta.specs.Record.{record_bytes}
use Rattle.intent_meta.specs.StoredPairs.{intent_record}
use Rattle.txn_state.specs.Transaction.{Txn, In, read_time, write_time, own_txn}
use Rattle.write_rule.specs.Write.{WriteRequest, Increment, fits_64, own_intent, value_before, new_body, meets_condition, given_length, replayed, first_write, is_body, new_intent, write}

module _ (h : History) (key : Key) (w : WriteRequest) where
  -- the number is the length, which is above the limit
  pub record IsTooLong (limit n given : ℕ) : Type 0 where
    pub number : n ≡ given
    pub above : limit < n

  -- the key has an intent that is none of the writer's
  pub record MeetsForeign (intents : List IntentSeen) : Type 0 where
    pub intent : Intent
    pub here : intent_of key h ≡ Some intent
    pub foreign : own_txn intent.id w.who ≡ None
    pub told : intents ≡ seen intent ∷ []

  -- the key has an own intent of a later epoch
  pub record MeetsLater (own other : ℕ) : Type 0 where
    pub txn : Txn
    pub intent : Intent
    pub here : intent_of key h ≡ Some intent
    pub mine : own_txn intent.id w.who ≡ Some txn
    pub epochs : (own ≡ txn.epoch) × (other ≡ intent.epoch)
    pub later : own < other

  -- the write is a replay of this intent
  abbrev pub Replays : Txn × Intent → Type 0
  Replays own = replayed (own_intent (intent_of key h) w.who) ≡ Some own

  -- it is no replay
  abbrev pub IsNew : Type 0
  IsNew = replayed (own_intent (intent_of key h) w.who) ≡ None

  -- a replay, and no entry has its sequence
  pub record FindsNoEntry (sequence : ℕ) : Type 0 where
    pub own : Txn × Intent
    pub replays : Replays own
    pub number : sequence ≡ (own.0).sequence
    pub none : first_write own.0 own.1 ≡ None

  -- a replay, and the entry of its sequence has another value than it forms
  pub record FindsOther (stored : Body) : Type 0 where
    pub own : Txn × Intent
    pub replays : Replays own
    pub entry : Entry Body
    pub here : first_write own.0 own.1 ≡ Some entry
    pub told : stored ≡ entry.value
    pub differs : is_body (new_body w.kind (value_before h w.who key)) stored ≡ false

  -- no replay, and the newest item is at or above the timestamp at which the writer reads
  pub record MeetsNewer (existing : Timestamp) : Type 0 where
    pub new : IsNew
    pub item : Item
    pub here : newest (items h key) ≡ Some item
    pub told : existing ≡ item.ts
    pub newer : is_up_to (read_time w.who) existing ≡ true

  -- no replay, and the value before is not the one on which the write depends
  pub record FailsCondition (actual : Option Body) : Type 0 where
    pub new : IsNew
    pub told : actual ≡ value_before h w.who key
    pub unmet : meets_condition w.kind actual ≡ false

  -- no replay, and the value before an increment is bytes
  pub record FindsBytes (actual : Body) : Type 0 where
    pub new : IsNew
    pub by : ℤ
    pub increments : w.kind ≡ Increment by
    pub bytes : List ℕ
    pub told : actual ≡ Bytes bytes
    pub here : value_before h w.who key ≡ Some actual

  -- no replay, and the sum leaves 64 bits
  pub record Overflows (old by : ℤ) : Type 0 where
    pub new : IsNew
    pub increments : w.kind ≡ Increment by
    pub here : value_before h w.who key ≡ Some (Int old)
    pub leaves : fits_64 (old +ℤ by) ≡ false

  -- no replay, and the record of the new intent is too long
  pub record LeavesTooLong (n : ℕ) : Type 0 where
    pub new : IsNew
    pub txn : Txn
    pub inside : w.who ≡ In txn
    pub body : Body
    pub formed : new_body w.kind (value_before h w.who key) ≡ Ok body
    pub long : IsTooLong max_stored_length n (length (record_bytes (intent_record (new_intent key txn (intent_of key h) w.local body))))

  -- each refusal has its cause, and there is no other
  abbrev pub HasCause : Refusal → Type 0
  HasCause EmptyKey = length key ≡ 0
  HasCause (KeyTooLong n) = IsTooLong max_key_length n (length key)
  HasCause (ValueTooLong n) = IsTooLong max_bytes_length n (given_length w.kind)
  HasCause BadTimestamp = is_no_time (write_time w.who) ≡ true
  HasCause (Conflict intents) = MeetsForeign intents
  HasCause (EpochFault own other) = MeetsLater own other
  HasCause (ReplayMissing sequence) = FindsNoEntry sequence
  HasCause (ReplayMismatch stored) = FindsOther stored
  HasCause (TooOld existing) = MeetsNewer existing
  HasCause (ConditionFailed actual) = FailsCondition actual
  HasCause (NotInteger actual) = FindsBytes actual
  HasCause (IntegerOverflow old by) = Overflows old by
  HasCause (IntentTooLong n) = LeavesTooLong n
  HasCause other = ⊥

-- a write that is refused is refused for its cause
abbrev pub RefusalsHaveCauses : Type 0
RefusalsHaveCauses = (h : History) (key : Key) (w : WriteRequest) (why : Refusal) → write h key w ≡ Err why → HasCause h key w why
