-- A decision about the first bytes of a key is the answer about the key.
use Rattle.std.specs.Option.{option_map}
use Rattle.std.proofs.Common.{sym, subst}
use Rattle.mvcc_key.specs.Refusal as refusal
use Rattle.mvcc_key.specs.views.Seen.{time_of}
use Rattle.mvcc_value.specs.views.Seen.{found_of}
use Rattle.intent_meta.specs.KeyHistory.{key_history}
use Rattle.txn_state.specs.views.SeenId.{id_of}
use Rattle.read_rule.specs.Read.{get}
use Rattle.read_rule.specs.views.Decided.{IsDecision, IsFound}
use Rattle.write_rule.specs.views.Seen.{Tells}
use Rattle.mvcc_cursor.specs.Standing.{sought_key}
use Rattle.mvcc_engine.specs.Step.{read_at}
use Rattle.mvcc_engine.proofs.ReadLaws.{get-row, get-conflict, get-nothing, only-conflict}
use Rattle.mvcc_engine.proofs.reading.answer.Goals as goal

pub returns-in_ok-found_in-in-Value : goal.returns-in_ok-found_in-in-Value
returns-in_ok-found_in-in-Value c = λ h ts alike decided.
    let f : IsFound (read_at ts) (key_history (sought_key c.args.key.now) h) c.in-Value.value.now (time_of c.in-Value.found) = subst (IsDecision (read_at ts) (key_history (sought_key c.args.key.now) h)) c.in-Value.is decided in
    get-row h c.args.key.now ts alike f.row (option_map found_of c.in_ok-found_in-in-Value.field-0) (time_of c.in-Value.found) f.is f.ts_is
    (c.in_ok-found_in-in-Value.ensures f.local (f.row.found).body f.read)

pub returns-in_ok-conflict-in-Conflict : goal.returns-in_ok-conflict-in-Conflict
returns-in_ok-conflict-in-Conflict c = λ h ts alike decided.
    subst (λ o. Tells o (get h (read_at ts) c.args.key.now)) (sym c.in_ok-conflict-in-Conflict.ensures)
    (get-conflict h c.args.key.now ts alike (record { key = sought_key c.args.key.now; id = id_of c.in-Conflict.id; ts = time_of c.in-Conflict.existing })
    (subst (IsDecision (read_at ts) (key_history (sought_key c.args.key.now) h)) c.in-Conflict.is decided))

pub returns-in-Nothing : goal.returns-in-Nothing
returns-in-Nothing c = λ h ts alike decided.
    get-nothing h c.args.key.now ts alike (subst (IsDecision (read_at ts) (key_history (sought_key c.args.key.now) h)) c.in-Nothing.is decided)

pub returns-in-Uncertain : goal.returns-in-Uncertain
returns-in-Uncertain c = λ h ts alike decided.
    absurd (only-conflict h c.args.key.now ts alike (refusal.Uncertain (time_of c.in-Uncertain.field-0) (time_of c.in-Uncertain.field-1)) (λ s e. absurd cc)
    (subst (IsDecision (read_at ts) (key_history (sought_key c.args.key.now) h)) c.in-Uncertain.is decided))

pub returns-in-TooOld : goal.returns-in-TooOld
returns-in-TooOld c = λ h ts alike decided.
    absurd (only-conflict h c.args.key.now ts alike (refusal.TooOld (time_of c.in-TooOld.field-0)) (λ s e. absurd cc)
    (subst (IsDecision (read_at ts) (key_history (sought_key c.args.key.now) h)) c.in-TooOld.is decided))

pub returns-in-EpochFault : goal.returns-in-EpochFault
returns-in-EpochFault c = λ h ts alike decided.
    absurd (only-conflict h c.args.key.now ts alike (refusal.EpochFault c.in-EpochFault.field-0 c.in-EpochFault.field-1) (λ s e. absurd cc)
    (subst (IsDecision (read_at ts) (key_history (sought_key c.args.key.now) h)) c.in-EpochFault.is decided))
