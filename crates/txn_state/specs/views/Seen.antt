-- How contracts see who acts, and what a call made of a transaction.
use Rattle.std.specs.Prelude.{◌≡◌, List, Result, Ok, Err, map, ⊤}
use Rattle.mvcc_key.specs.History as history
use Rattle.mvcc_key.specs.views.Seen.{time_of, range_of}
use Rattle.mvcc_key.specs.declared.span.SeqRange.{SeqRange}
use Rattle.txn_state.specs.Transaction as transaction
use Rattle.txn_state.specs.declared.actor.Actor.{Actor}
use Rattle.txn_state.specs.declared.actor.Actor.TheVariants.{At, In}
use Rattle.txn_state.specs.declared.fault.TxnFault.{TxnFault}
use Rattle.txn_state.specs.declared.fault.TxnFault.TheVariants.{SequenceLimit, EpochLimit}
use Rattle.txn_state.specs.declared.fault.IgnoreFault.{IgnoreFault}
use Rattle.txn_state.specs.declared.fault.IgnoreFault.TheVariants.{OutOfMemory, BadRanges}

-- who reads or writes
abbrev pub actor_of : Actor → transaction.Actor
actor_of (At ts) = transaction.At (time_of ts)
actor_of (In txn) = transaction.In txn.now

-- ranges of sequences
abbrev pub ranges_of : List SeqRange → List history.SeqRange
ranges_of = map range_of

-- why a change is refused
abbrev pub refusal_of : TxnFault → transaction.TxnRefusal
refusal_of (SequenceLimit sequence) = transaction.SequenceLimit sequence
refusal_of (EpochLimit epoch) = transaction.EpochLimit epoch

-- the transaction as the call left it, or why it was refused
abbrev pub outcome_of : {A : Type 0} → Result A TxnFault → transaction.Txn → Result transaction.Txn transaction.TxnRefusal
outcome_of (Ok done) txn = Ok txn
outcome_of (Err fault) txn = Err (refusal_of fault)

-- the call left the transaction, or refused it, as the definition says; nothing is said where memory was wanting
abbrev pub Answers : {A : Type 0} → Result A IgnoreFault → transaction.Txn → Result transaction.Txn transaction.TxnRefusal → Type 0
Answers (Ok done) txn defined = defined ≡ Ok txn
Answers (Err BadRanges) txn defined = defined ≡ Err transaction.BadRanges
Answers (Err OutOfMemory) txn defined = ⊤
