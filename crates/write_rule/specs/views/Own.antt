-- How contracts see the own intent and the newest item, as they lie in bytes.
use Rattle.std.specs.Prelude.{◌≡◌, ◌==◌, true, false, nat_le, Option, Some, None, ⊤, if◌then◌else◌}
use Rattle.mvcc_key.specs.Order.{Timestamp, is_same_time}
use Rattle.mvcc_key.specs.History.{Body, Intent}
use Rattle.mvcc_key.specs.Items.{Item}
use Rattle.mvcc_key.specs.views.Seen.{time_of}
use Rattle.mvcc_value.specs.views.Seen.{seen_body}
use Rattle.intent_meta.specs.views.WholeKeys.{IsWholeIntent}
use Rattle.intent_meta.specs.views.Lent.{LentIntent, lent_intent}
use Rattle.intent_meta.specs.views.Seen.{seen_intent}
use Rattle.txn_state.specs.Transaction.{Txn, Actor, In, own_txn}
use Rattle.write_rule.specs.Write.{own_intent, replayed}
use Rattle.write_rule.specs.declared.newest.Newest.{Newest}
use Rattle.write_rule.specs.declared.own_intent.OwnIntent.{OwnIntent}

-- the intent, as it is lent
abbrev pub seen_own : OwnIntent → LentIntent
seen_own o = record { head = seen_intent o.head; provisional = o.provisional.now }

-- it is this intent, which is of the writer's transaction
pub record IsOwn (own : OwnIntent) (who : Actor) (i : Intent) : Type 0 where
  pub inside : who ≡ In own.txn.now
  pub mine : own_txn i.id who ≡ Some own.txn.now
  pub lent : seen_own own ≡ lent_intent i
  pub whole : IsWholeIntent i.key i

-- it is the key's intent, where there is one
abbrev pub AreOwn : Option OwnIntent → Actor → Option Intent → Type 0
AreOwn None who None = ⊤
AreOwn (Some own) who (Some i) = IsOwn own who i
AreOwn None who (Some i) = ⊥
AreOwn (Some own) who None = ⊥

-- it is the intent of which a write is a replay
pub record IsReplayOf (own : OwnIntent) (who : Actor) (intent : Option Intent) (i : Intent) : Type 0 where
  pub own_is : IsOwn own who i
  pub replays : replayed (own_intent intent who) ≡ Some (own.txn.now, i)

-- it is that of the key
abbrev pub ReplaysOwn : OwnIntent → Actor → Option Intent → Type 0
ReplaysOwn own who None = ⊥
ReplaysOwn own who (Some i) = IsReplayOf own who (Some i) i

-- a write of the transaction is no replay of it
pub record IsFirst (own : OwnIntent) (t : Txn) : Type 0 where
  pub same : own.txn.now ≡ t
  pub later : (t.epoch == (seen_own own).head.epoch) ≡ true → nat_le t.sequence (seen_own own).head.sequence ≡ false

-- a timestamp with a value
pub record Stamped : Type 0 where
  pub ts : Timestamp
  pub body : Body

-- an item without its local timestamp
abbrev pub stamped : Item → Stamped
stamped i = record { ts = i.ts; body = i.body }

-- the newest item
abbrev pub seen_newest : Newest → Stamped
seen_newest n = record { ts = time_of n.ts; body = seen_body n.body }

-- where the provisional version of a replaced intent stands, if not at the timestamp
abbrev pub time_behind : Timestamp → Option Intent → Option Timestamp
time_behind ts None = None
time_behind ts (Some i) = if is_same_time i.ts ts then None else Some i.ts
