-- How contracts see the values of the code.
use Rattle.std.specs.Prelude.{◌≡◌, Option, Some, None, option_map, Result, Err, ⊤}
use Rattle.mvcc_key.specs.History as history
use Rattle.mvcc_key.specs.Refusal as refusals
use Rattle.mvcc_key.specs.views.Seen.{time_of}
use Rattle.mvcc_value.specs.views.Seen.{plain_body, owned_body}
use Rattle.mvcc_value.specs.declared.value.OwnedValue.{OwnedValue}
use Rattle.txn_state.specs.views.Seen.{actor_of}
use Rattle.write_rule.specs.Write as rule
use Rattle.write_rule.specs.declared.request.WriteKind.{WriteKind}
use Rattle.write_rule.specs.declared.request.WriteKind.TheVariants as kind
use Rattle.write_rule.specs.declared.request.WriteRequest.{WriteRequest}
use Rattle.write_rule.specs.declared.change.WriteAnswer.{WriteAnswer}
use Rattle.write_rule.specs.declared.change.WriteAnswer.TheVariants as answer
use Rattle.write_rule.specs.declared.fault.WriteFault.{WriteFault}
use Rattle.write_rule.specs.declared.fault.WriteFault.TheVariants as fault

-- what is written, and under which condition
abbrev pub kind_of : WriteKind → rule.WriteKind
kind_of (kind.Put value) = rule.Put (plain_body value)
kind_of kind.Delete = rule.Delete
kind_of (kind.ConditionalPut value expected) = rule.ConditionalPut (plain_body value) (option_map plain_body expected)
kind_of (kind.InitPut value) = rule.InitPut (plain_body value)
kind_of (kind.Increment by) = rule.Increment by

-- a write
abbrev pub request_of : WriteRequest → rule.WriteRequest
request_of r = record { who = actor_of r.who; kind = kind_of r.kind; local = time_of r.local }

-- what a write answers
abbrev pub answer_of : WriteAnswer → rule.WriteAnswer
answer_of answer.Done = rule.Done
answer_of (answer.Found there) = rule.WasThere there
answer_of (answer.Number number) = rule.Number number

-- a stored value; none is a deletion
abbrev pub stored_body : Option OwnedValue → history.Body
stored_body None = history.Deletion
stored_body (Some value) = owned_body value

-- why a write is refused; want of memory is none of the reasons
abbrev pub refusal_of : WriteFault → Option refusals.Refusal
refusal_of fault.OutOfMemory = None
refusal_of fault.EmptyKey = Some refusals.EmptyKey
refusal_of (fault.KeyTooLong length) = Some (refusals.KeyTooLong length)
refusal_of (fault.ValueTooLong length) = Some (refusals.ValueTooLong length)
refusal_of fault.BadTimestamp = Some refusals.BadTimestamp
refusal_of (fault.Conflict intents) = Some (refusals.Conflict intents)
refusal_of (fault.EpochFault own other) = Some (refusals.EpochFault own other)
refusal_of (fault.ReplayMissing sequence) = Some (refusals.ReplayMissing sequence)
refusal_of (fault.ReplayMismatch stored) = Some (refusals.ReplayMismatch (stored_body stored))
refusal_of (fault.TooOld existing) = Some (refusals.TooOld (time_of existing))
refusal_of (fault.ConditionFailed actual) = Some (refusals.ConditionFailed (option_map owned_body actual))
refusal_of (fault.NotInteger actual) = Some (refusals.NotInteger (owned_body actual))
refusal_of (fault.IntegerOverflow old by) = Some (refusals.IntegerOverflow old by)
refusal_of (fault.IntentTooLong length) = Some (refusals.IntentTooLong length)

-- the refusal is this one, where it is one
abbrev pub Tells : {A : Type 0} → Option refusals.Refusal → Result A refusals.Refusal → Type 0
Tells None outcome = ⊤
Tells (Some why) outcome = outcome ≡ Err why

-- it is none of the refusals that come before the key is looked at
abbrev pub IsLate : WriteFault → Type 0
IsLate fault.EmptyKey = ⊥
IsLate (fault.KeyTooLong length) = ⊥
IsLate (fault.ValueTooLong length) = ⊥
IsLate fault.BadTimestamp = ⊥
IsLate other = ⊤
