-- How contracts see what is shown.
use Rattle.std.specs.Prelude.{Option, Some, None}
use Rattle.std.specs.Option.{option_map}
use Rattle.mvcc_key.specs.History as history
use Rattle.mvcc_key.specs.Refusal as refusals
use Rattle.mvcc_key.specs.Spans as spans
use Rattle.mvcc_key.specs.declared.span.Span.{Span}
use Rattle.mvcc_key.specs.views.Seen.{time_of}
use Rattle.mvcc_value.specs.views.Seen.{found_of, owned_body}
use Rattle.txn_state.specs.Transaction as transaction
use Rattle.stat_core.specs.views.Seen.{field_of}
use Rattle.script_text.specs.Text as text
use Rattle.script_text.specs.declared.answer.Refusal.{Refusal}
use Rattle.script_text.specs.declared.answer.Refusal.TheVariants as refusal
use Rattle.script_text.specs.declared.answer.TxnRefusal.{TxnRefusal}
use Rattle.script_text.specs.declared.answer.TxnRefusal.TheVariants as by_txn
use Rattle.script_text.specs.declared.answer.Reason.{Reason}
use Rattle.script_text.specs.declared.answer.Reason.TheVariants as reason
use Rattle.script_text.specs.declared.answer.Answer.{Answer}
use Rattle.script_text.specs.declared.answer.Answer.TheVariants as answer

-- a stored value; none is a deletion
abbrev pub stored_body : Option history.Body → history.Body
stored_body None = history.Deletion
stored_body (Some body) = body

-- a span
abbrev pub span_of : Span → spans.Span
span_of s = record { start = s.start; end = s.end }

-- why the engine refuses a command
abbrev pub refusal_of : Refusal → refusals.Refusal
refusal_of refusal.EmptyKey = refusals.EmptyKey
refusal_of (refusal.KeyTooLong length) = refusals.KeyTooLong length
refusal_of (refusal.ValueTooLong length) = refusals.ValueTooLong length
refusal_of refusal.BadTimestamp = refusals.BadTimestamp
refusal_of refusal.BadSpan = refusals.BadSpan
refusal_of (refusal.Conflict intents) = refusals.Conflict intents.now
refusal_of (refusal.EpochFault own other) = refusals.EpochFault own other
refusal_of (refusal.ReplayMissing sequence) = refusals.ReplayMissing sequence
refusal_of (refusal.ReplayMismatch stored) = refusals.ReplayMismatch (stored_body (option_map (λ v. owned_body v.now) stored))
refusal_of (refusal.TooOld existing) = refusals.TooOld (time_of existing)
refusal_of (refusal.ConditionFailed found) = refusals.ConditionFailed (option_map (λ v. owned_body v.now) found)
refusal_of (refusal.NotInteger found) = refusals.NotInteger (owned_body found.now)
refusal_of (refusal.IntegerOverflow old by) = refusals.IntegerOverflow old by
refusal_of (refusal.IntentTooLong length) = refusals.IntentTooLong length
refusal_of (refusal.CommitBelowIntent ts) = refusals.CommitBelowIntent (time_of ts)
refusal_of (refusal.MomentTooEarly latest) = refusals.MomentTooEarly latest
refusal_of (refusal.CountOverflow field) = refusals.CountOverflow (field_of field)

-- why a transaction's rules refuse
abbrev pub txn_refusal_of : TxnRefusal → transaction.TxnRefusal
txn_refusal_of (by_txn.SequenceLimit sequence) = transaction.SequenceLimit sequence
txn_refusal_of (by_txn.EpochLimit epoch) = transaction.EpochLimit epoch
txn_refusal_of by_txn.BadRanges = transaction.BadRanges

-- why a line is refused
abbrev pub reason_of : Reason → text.Reason
reason_of (reason.BadLine n) = text.BadLine n
reason_of reason.TxnExists = text.TxnExists
reason_of reason.NoTxn = text.NoTxn
reason_of (reason.ByTxn why) = text.ByTxn (txn_refusal_of why)
reason_of (reason.ByEngine why) = text.ByEngine (refusal_of why)

-- what is shown
abbrev pub answer_of : Answer → text.Answer
answer_of answer.Accepted = text.Accepted
answer_of (answer.TxnLine name txn) = text.TxnLine name.now txn.now
answer_of (answer.Deleted found) = text.Deleted found
answer_of (answer.Incremented number) = text.Incremented number
answer_of (answer.Resolved found) = text.Resolved found
answer_of (answer.ResolvedRange count resume) = text.ResolvedRange count (option_map (λ s. span_of s.now) resume)
answer_of (answer.Got key found) = text.Got key.now (option_map (λ f. found_of f.now) found)
answer_of (answer.Statistics stats) = text.Statistics stats.now.sums stats.now.last
answer_of (answer.LayoutLine index keys clears ranges) = text.LayoutLine index keys clears ranges
answer_of (answer.Refused why) = text.Refused (reason_of why)
