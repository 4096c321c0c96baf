-- How contracts see the values of the code.
use Rattle.std.specs.Prelude.{Option, Some, None, map, option_map}
use Rattle.mvcc_key.specs.Refusal as refusals
use Rattle.mvcc_key.specs.Spans as spans
use Rattle.mvcc_key.specs.views.Seen.{time_of, range_of}
use Rattle.mvcc_key.specs.declared.span.Span.{Span}
use Rattle.intent_resolve.specs.Resolve as rule
use Rattle.intent_resolve.specs.declared.update.TxnStatus.{TxnStatus}
use Rattle.intent_resolve.specs.declared.update.TxnStatus.TheVariants as status
use Rattle.intent_resolve.specs.declared.update.Update.{Update}
use Rattle.intent_resolve.specs.declared.ranged.Ranged.{Ranged}
use Rattle.intent_resolve.specs.declared.fault.ResolveFault.{ResolveFault}
use Rattle.intent_resolve.specs.declared.fault.ResolveFault.TheVariants as fault

-- how a transaction ended, or that it goes on
abbrev pub status_of : TxnStatus → rule.TxnStatus
status_of status.Committed = rule.Committed
status_of status.Aborted = rule.Aborted
status_of status.Pending = rule.Pending

-- what is known of a transaction
abbrev pub update_of : Update → rule.Update
update_of u = record { id = u.id; epoch = u.epoch; status = status_of u.status; ts = time_of u.ts; ignored = map range_of u.ignored }

-- a span
abbrev pub span_of : Span → spans.Span
span_of s = record { start = s.start; end = s.end }

-- how many intents of a span were handled, and what is left of the span
abbrev pub ranged_of : Ranged → spans.Ranged
ranged_of r = record { count = r.count; resume = option_map span_of r.resume }

-- why a resolution is refused; want of memory is none of the reasons
abbrev pub refusal_of : ResolveFault → Option refusals.Refusal
refusal_of fault.OutOfMemory = None
refusal_of fault.BadSpan = Some refusals.BadSpan
refusal_of (fault.CommitBelowIntent ts) = Some (refusals.CommitBelowIntent (time_of ts))
