-- How contracts see the values of the code.
use Rattle.std.specs.Prelude.{◌≡◌, ℤ, Bool, [], Option, Some, None, option_map, Result, Ok, Err, IsOk, ⊤}
use Rattle.mvcc_key.specs.Refusal as refusals
use Rattle.mvcc_key.specs.views.Seen.{time_of}
use Rattle.mvcc_key.specs.declared.memory.OutOfMemory.{OutOfMemory}
use Rattle.mvcc_value.specs.views.Seen.{owned_body}
use Rattle.stat_core.specs.views.Seen.{field_of}
use Rattle.mvcc_key.specs.Order.{Timestamp, Key}
use Rattle.mvcc_key.specs.History.{History}
use Rattle.mvcc_value.specs.views.Seen.{found_of}
use Rattle.mvcc_value.specs.declared.value.Found.{Found}
use Rattle.mvcc_value.specs.Encoding.{value_of}
use Rattle.read_rule.specs.Read.{get}
use Rattle.read_rule.specs.declared.decision.Decision.{Decision}
use Rattle.read_rule.specs.declared.decision.Decision.TheVariants as decided
use Rattle.write_rule.specs.Write.{WriteKind, Put, Delete, ConditionalPut, InitPut, Increment, WriteAnswer, Done, WasThere, Number}
use Rattle.write_rule.specs.views.Seen.{Tells, stored_body}
use Rattle.write_rule.specs.declared.fault.WriteFault.{WriteFault}
use Rattle.write_rule.specs.declared.fault.WriteFault.TheVariants as put_fault
use Rattle.intent_resolve.specs.declared.fault.ResolveFault.{ResolveFault}
use Rattle.intent_resolve.specs.declared.fault.ResolveFault.TheVariants as resolve_fault
use Rattle.mvcc_engine.specs.Step.{State, Reply, Finished, Stepped, read_at}
use Rattle.mvcc_engine.specs.declared.refusal.Refusal.{Refusal}
use Rattle.mvcc_engine.specs.declared.refusal.Refusal.TheVariants as refusal
use Rattle.mvcc_engine.specs.declared.refusal.AgeFault.{AgeFault}
use Rattle.mvcc_engine.specs.declared.refusal.AgeFault.TheVariants as fault

-- why a call is refused; want of memory is none of the reasons
abbrev pub refusal_of : Refusal → Option refusals.Refusal
refusal_of refusal.OutOfMemory = None
refusal_of refusal.EmptyKey = Some refusals.EmptyKey
refusal_of (refusal.KeyTooLong length) = Some (refusals.KeyTooLong length)
refusal_of (refusal.ValueTooLong length) = Some (refusals.ValueTooLong length)
refusal_of refusal.BadTimestamp = Some refusals.BadTimestamp
refusal_of refusal.BadSpan = Some refusals.BadSpan
refusal_of (refusal.Conflict intents) = Some (refusals.Conflict intents)
refusal_of (refusal.EpochFault own other) = Some (refusals.EpochFault own other)
refusal_of (refusal.ReplayMissing sequence) = Some (refusals.ReplayMissing sequence)
refusal_of (refusal.ReplayMismatch stored) = Some (refusals.ReplayMismatch (stored_body stored))
refusal_of (refusal.TooOld existing) = Some (refusals.TooOld (time_of existing))
refusal_of (refusal.ConditionFailed actual) = Some (refusals.ConditionFailed (option_map owned_body actual))
refusal_of (refusal.NotInteger actual) = Some (refusals.NotInteger (owned_body actual))
refusal_of (refusal.IntegerOverflow old by) = Some (refusals.IntegerOverflow old by)
refusal_of (refusal.IntentTooLong length) = Some (refusals.IntentTooLong length)
refusal_of (refusal.CommitBelowIntent ts) = Some (refusals.CommitBelowIntent (time_of ts))
refusal_of (refusal.MomentTooEarly latest) = Some (refusals.MomentTooEarly latest)
refusal_of (refusal.CountOverflow field) = Some (refusals.CountOverflow (field_of field))

-- the refusal that a fault of ageing is
abbrev pub as_refusal : AgeFault → Refusal
as_refusal (fault.MomentTooEarly latest) = refusal.MomentTooEarly latest
as_refusal (fault.CountOverflow field) = refusal.CountOverflow field

-- the refusal that a fault of a planned write is
abbrev pub as_put_refusal : WriteFault → Refusal
as_put_refusal put_fault.OutOfMemory = refusal.OutOfMemory
as_put_refusal put_fault.EmptyKey = refusal.EmptyKey
as_put_refusal (put_fault.KeyTooLong length) = refusal.KeyTooLong length
as_put_refusal (put_fault.ValueTooLong length) = refusal.ValueTooLong length
as_put_refusal put_fault.BadTimestamp = refusal.BadTimestamp
as_put_refusal (put_fault.Conflict intents) = refusal.Conflict intents
as_put_refusal (put_fault.EpochFault own other) = refusal.EpochFault own other
as_put_refusal (put_fault.ReplayMissing sequence) = refusal.ReplayMissing sequence
as_put_refusal (put_fault.ReplayMismatch stored) = refusal.ReplayMismatch stored
as_put_refusal (put_fault.TooOld existing) = refusal.TooOld existing
as_put_refusal (put_fault.ConditionFailed actual) = refusal.ConditionFailed actual
as_put_refusal (put_fault.NotInteger actual) = refusal.NotInteger actual
as_put_refusal (put_fault.IntegerOverflow old by) = refusal.IntegerOverflow old by
as_put_refusal (put_fault.IntentTooLong length) = refusal.IntentTooLong length

-- the refusal that a fault of a planned resolution is
abbrev pub as_resolve_refusal : ResolveFault → Refusal
as_resolve_refusal resolve_fault.OutOfMemory = refusal.OutOfMemory
as_resolve_refusal resolve_fault.BadSpan = refusal.BadSpan
as_resolve_refusal (resolve_fault.CommitBelowIntent ts) = refusal.CommitBelowIntent ts

-- a call is answered as its step says; a refused one leaves the state, and so does one that finds no memory
abbrev pub Answers : {A : Type 0} → Result A Refusal → (A → Reply) → State → State → Result Stepped refusals.Refusal → Type 0
Answers (Ok a) reply old new answer = answer ≡ Ok (record { state = new; reply = reply a })
Answers (Err why) reply old new answer = (new ≡ old) × Tells (refusal_of why) answer

-- so is one that leaves the state
abbrev pub AnswersRead : {A : Type 0} → Result A Refusal → (A → Reply) → State → Result Stepped refusals.Refusal → Type 0
AnswersRead (Ok a) reply s answer = answer ≡ Ok (record { state = s; reply = reply a })
AnswersRead (Err why) reply s answer = Tells (refusal_of why) answer

-- so is one that takes no memory
abbrev pub AnswersAge : {A : Type 0} → Result A AgeFault → State → State → Result Stepped refusals.Refusal → Type 0
AnswersAge (Ok done) old new answer = answer ≡ Ok (record { state = new; reply = Finished })
AnswersAge (Err why) old new answer = (new ≡ old) × Tells (refusal_of (as_refusal why)) answer

-- so is one that only want of memory can refuse
abbrev pub AnswersUnlessFull : {A : Type 0} → Result A OutOfMemory → (A → Reply) → State → State → Result Stepped refusals.Refusal → Type 0
AnswersUnlessFull (Ok a) reply old new answer = answer ≡ Ok (record { state = new; reply = reply a })
AnswersUnlessFull (Err why) reply old new answer = new ≡ old

-- the answer is one to a write of this kind
abbrev pub IsAnswerTo : WriteKind → WriteAnswer → Type 0
IsAnswerTo (Put body) answer = answer ≡ Done
IsAnswerTo Delete answer = (there : Bool) × (answer ≡ WasThere there)
IsAnswerTo (ConditionalPut body expected) answer = answer ≡ Done
IsAnswerTo (InitPut body) answer = answer ≡ Done
IsAnswerTo (Increment by) answer = (number : ℤ) × (answer ≡ Number number)

-- a read at a timestamp, outside transactions, is answered as the rule of reads has it
abbrev pub AnswersGet : Result (Option Found) Refusal → History → Key → Timestamp → Type 0
AnswersGet (Ok found) h key ts = get h (read_at ts) key ≡ Ok (record { found = option_map found_of found; intents = [] })
AnswersGet (Err why) h key ts = Tells (refusal_of why) (get h (read_at ts) key)

-- a value that was decided can be read
abbrev pub IsReadable : Decision → Type 0
IsReadable (decided.Value bytes ts) = IsOk (value_of (time_of ts) bytes.now)
IsReadable other = ⊤
