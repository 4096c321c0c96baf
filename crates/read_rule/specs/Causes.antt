-- Why a read of one key is refused, cause by cause.
use Rattle.std.specs.Prelude.{Bool, false, ◌&&◌, not, Option, Some, None, is_some, nat_lt}
use Rattle.std.specs.List.{list_any}
use Rattle.mvcc_key.specs.History.{Intent}
use Rattle.intent_meta.specs.KeyHistory.{KeyHistory}
use Rattle.txn_state.specs.Transaction.{Txn, own_txn}
use Rattle.read_rule.specs.Read.{ReadRequest, is_conflict, own_entry, is_more_recent, is_unsure}

-- another transaction's intent is in the way
abbrev pub is_foreign_conflict : ReadRequest → Intent → Option Txn → Bool
is_foreign_conflict r i None = is_conflict r i
is_foreign_conflict r i (Some t) = false

-- of the key's intent, if there is one
abbrev pub meets_conflict : ReadRequest → Option Intent → Bool
meets_conflict r None = false
meets_conflict r (Some i) = is_foreign_conflict r i (own_txn i.id r.who)

-- an own intent is of a later epoch
abbrev pub is_later_epoch : Intent → Option Txn → Bool
is_later_epoch i None = false
is_later_epoch i (Some t) = nat_lt t.epoch i.epoch

-- of the key's intent, if there is one
abbrev pub meets_later_epoch : ReadRequest → Option Intent → Bool
meets_later_epoch r None = false
meets_later_epoch r (Some i) = is_later_epoch i (own_txn i.id r.who)

-- the key's intent, if there is one, neither refuses nor answers
abbrev pub is_past_intent : ReadRequest → Option Intent → Bool
is_past_intent r intent = not (meets_conflict r intent) && not (meets_later_epoch r intent) && not (is_some (own_entry r intent))

-- past the intent, an item is at or above the read timestamp of a read that fails on more recent ones
abbrev pub meets_more_recent : ReadRequest → KeyHistory → Bool
meets_more_recent r k = is_past_intent r k.intent && list_any (is_more_recent r) k.items

-- past the intent and the more recent items, an item is uncertain
abbrev pub meets_uncertain : ReadRequest → KeyHistory → Bool
meets_uncertain r k = is_past_intent r k.intent && (not (list_any (is_more_recent r) k.items) && list_any (is_unsure r) k.items)
