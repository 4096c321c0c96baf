-- How contracts see the decision of a read.
use Rattle.std.specs.Prelude.{◌≡◌, ℕ, Bool, true, false, List, [], ◌∷◌, Option, Some, None, Ok, Err}
use Rattle.mvcc_key.specs.Order.{Timestamp}
use Rattle.mvcc_key.specs.History.{Body, Entry}
use Rattle.mvcc_key.specs.Items.{Item, newest_at}
use Rattle.mvcc_key.specs.Refusal as refusal
use Rattle.mvcc_key.specs.views.Seen.{time_of}
use Rattle.mvcc_value.specs.Encoding.{plain_bytes, value_bytes, value_of}
use Rattle.intent_meta.specs.KeyHistory.{KeyHistory}
use Rattle.txn_state.specs.Transaction.{read_time}
use Rattle.txn_state.specs.views.Seen.{actor_of}
use Rattle.txn_state.specs.views.SeenId.{id_of}
use Rattle.read_rule.specs.Read as read
use Rattle.read_rule.specs.declared.request.ReadOptions.{ReadOptions}
use Rattle.read_rule.specs.declared.request.ReadRequest.{ReadRequest}
use Rattle.read_rule.specs.declared.decision.Decision.{Decision}
use Rattle.read_rule.specs.declared.decision.Decision.TheVariants as code

-- how a read is made
abbrev pub options_of : ReadOptions → read.ReadOptions
options_of o = record { local_limit = time_of o.local_limit; inconsistent = o.inconsistent; fail_more_recent = o.fail_more_recent }

-- who reads, and how
abbrev pub request_of : ReadRequest → read.ReadRequest
request_of r = record { who = actor_of r.who; options = options_of r.options }

-- an own entry's plain value, or else an item's encoded one
abbrev pub bytes_of : Option (Entry Body) → Option Item → List ℕ
bytes_of (Some e) item = plain_bytes e.value
bytes_of None (Some i) = value_bytes i.body i.local i.ts
bytes_of None None = []

-- the bytes in which the value lies that a read finds
abbrev pub found_bytes : read.ReadRequest → KeyHistory → List ℕ
found_bytes r k = bytes_of (read.own_entry r k.intent) (newest_at (read_time r.who) k.items)

-- a row is found, and its value lies in these bytes, from which it is read
pub record IsFound (r : read.ReadRequest) (k : KeyHistory) (bytes : List ℕ) (ts : Timestamp) : Type 0 where
  pub row : read.Row
  pub local : Timestamp
  pub is : read.decision r k ≡ Ok (Some row)
  pub key_is : (row.found).key ≡ k.key
  pub ts_is : (row.found).ts ≡ ts
  pub bytes_are : bytes ≡ found_bytes r k
  pub read : value_of ts bytes ≡ Ok (record { local = local; body = (row.found).body })

-- the decision of a read is this one
abbrev pub IsDecision : read.ReadRequest → KeyHistory → Decision → Type 0
IsDecision r k (code.Value bytes ts) = IsFound r k bytes.now (time_of ts)
IsDecision r k code.Nothing = read.decision r k ≡ Ok None
IsDecision r k (code.Conflict id ts) = read.decision r k ≡ Err (refusal.Conflict (record { key = k.key; id = id_of id; ts = time_of ts } ∷ []))
IsDecision r k (code.Uncertain ts local) = read.decision r k ≡ Err (refusal.Uncertain (time_of ts) (time_of local))
IsDecision r k (code.TooOld ts) = read.decision r k ≡ Err (refusal.TooOld (time_of ts))
IsDecision r k (code.EpochFault own other) = read.decision r k ≡ Err (refusal.EpochFault own other)

-- it is refused for another's intent
abbrev pub is_conflict : Decision → Bool
is_conflict (code.Conflict id ts) = true
is_conflict other = false

-- for an item that the reader may not tell from an older one
abbrev pub is_uncertain : Decision → Bool
is_uncertain (code.Uncertain ts local) = true
is_uncertain other = false

-- for a more recent item
abbrev pub is_too_old : Decision → Bool
is_too_old (code.TooOld ts) = true
is_too_old other = false

-- for an own intent of a later epoch
abbrev pub is_epoch_fault : Decision → Bool
is_epoch_fault (code.EpochFault own held) = true
is_epoch_fault other = false
