-- What holds of every write that is taken.
use Rattle.std.specs.Prelude.{◌≡◌, Ok}
use Rattle.mvcc_key.specs.Order.{Timestamp, Key}
use Rattle.mvcc_key.specs.History.{History, Changed}
use Rattle.intent_meta.specs.Valid.{IsValid}
use Rattle.intent_meta.specs.KeyChanges.{Change}
use Rattle.intent_meta.specs.Alike.{AreAlike, EndAlike, ChangedAlike}
use Rattle.txn_state.specs.Transaction.{Txn, In}
use Rattle.write_rule.specs.Write.{WriteKind, WriteRequest, WriteAnswer, write}
use Rattle.write_rule.specs.Writable.{IsWritable}
use Rattle.write_rule.specs.Outcome.{Outcome}

-- it has one of the three outcomes
abbrev pub WriteHasOutcome : Type 0
WriteHasOutcome = (h : History) (key : Key) (w : WriteRequest) (c : Changed WriteAnswer) → IsValid h → IsWritable w → write h key w ≡ Ok c → Outcome h key w c

-- so it changes one key, or nothing
abbrev pub WriteChangesOneKey : Type 0
WriteChangesOneKey = (h : History) (key : Key) (w : WriteRequest) (c : Changed WriteAnswer) → IsValid h → IsWritable w → write h key w ≡ Ok c → Change key h c.history

-- it keeps a valid history valid
abbrev pub WriteKeepsValid : Type 0
WriteKeepsValid = (h : History) (key : Key) (w : WriteRequest) (c : Changed WriteAnswer) → IsValid h → IsWritable w → write h key w ≡ Ok c → IsValid c.history

-- one in a transaction may be made again: it answers the same and changes nothing more
abbrev pub WriteMayRepeat : Type 0
WriteMayRepeat =
    (h : History) (key : Key) (t : Txn) (kind : WriteKind) (local : Timestamp) (c : Changed WriteAnswer) → IsValid h
    → write h key (record { who = In t; kind = kind; local = local }) ≡ Ok c → write c.history key (record { who = In t; kind = kind; local = local }) ≡ Ok c

-- histories with the same versions, intents and fragments answer every write alike, and stay alike
abbrev pub AlikeWriteAlike : Type 0
AlikeWriteAlike = (h k : History) → AreAlike h k → (key : Key) (w : WriteRequest) → EndAlike ChangedAlike (write h key w) (write k key w)
