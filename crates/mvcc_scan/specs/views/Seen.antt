-- How contracts see what is asked and what is answered.
use Rattle.std.specs.Prelude.{◌≡◌, map, option_map, Option, Some, None, Result, Ok, Err, ⊤}
use Rattle.mvcc_key.specs.Spans as spans
use Rattle.mvcc_key.specs.Refusal as refusals
use Rattle.mvcc_key.specs.views.Seen.{time_of}
use Rattle.mvcc_key.specs.declared.span.Span.{Span}
use Rattle.mvcc_value.specs.views.Seen.{found_of}
use Rattle.txn_state.specs.declared.actor.Actor.{Actor}
use Rattle.txn_state.specs.views.Seen.{actor_of}
use Rattle.read_rule.specs.Read as read
use Rattle.read_rule.specs.Scan as scan
use Rattle.read_rule.specs.declared.request.ReadOptions.{ReadOptions}
use Rattle.read_rule.specs.views.Decided.{options_of}
use Rattle.mvcc_scan.specs.declared.answer.GetAnswer.{GetAnswer}
use Rattle.mvcc_scan.specs.declared.answer.ScanAnswer.{ScanAnswer}
use Rattle.mvcc_scan.specs.declared.limits.ScanLimits.{ScanLimits}
use Rattle.mvcc_scan.specs.declared.fault.ScanFault.{ScanFault}
use Rattle.mvcc_scan.specs.declared.fault.ScanFault.TheVariants as fault

-- who reads, and how
abbrev pub asked : Actor → ReadOptions → read.ReadRequest
asked who options = record { who = actor_of who; options = options_of options }

-- where a scan stops
abbrev pub limits_of : ScanLimits → scan.ScanLimits
limits_of l = record { reverse = l.reverse; max = l.max; target = l.target; allow_empty = l.allow_empty }

-- a span of keys
abbrev pub span_of : Span → spans.Span
span_of s = record { start = s.start; end = s.end }

-- why a read is refused; want of memory is none of the reasons
abbrev pub refusal_of : ScanFault → Option refusals.Refusal
refusal_of fault.OutOfMemory = None
refusal_of fault.BadOptions = Some refusals.BadOptions
refusal_of fault.BadSpan = Some refusals.BadSpan
refusal_of (fault.EpochFault own other) = Some (refusals.EpochFault own other)
refusal_of (fault.Uncertain ts local) = Some (refusals.Uncertain (time_of ts) (time_of local))
refusal_of (fault.TooOld existing) = Some (refusals.TooOld (time_of existing))
refusal_of (fault.Conflict intents) = Some (refusals.Conflict intents)

-- the refusal is this one, where it is one
abbrev pub IsRefusedFor : {A : Type 0} → Option refusals.Refusal → Result A refusals.Refusal → Type 0
IsRefusedFor None answer = ⊤
IsRefusedFor (Some why) answer = answer ≡ Err why

-- what a read of one key answers
abbrev pub got : GetAnswer → read.GetAnswer
got a = record { found = option_map found_of a.found; intents = a.intents }

-- what a read of a span answers
abbrev pub scanned : ScanAnswer → scan.ScanAnswer
scanned a = record { rows = map found_of a.rows; intents = a.intents; resume = option_map span_of a.resume }

-- a read of one key is answered so
abbrev pub AnswersGet : Result GetAnswer ScanFault → Result read.GetAnswer refusals.Refusal → Type 0
AnswersGet (Ok a) answer = answer ≡ Ok (got a)
AnswersGet (Err why) answer = IsRefusedFor (refusal_of why) answer

-- a read of a span is answered so
abbrev pub AnswersScan : Result ScanAnswer ScanFault → Result scan.ScanAnswer refusals.Refusal → Type 0
AnswersScan (Ok a) answer = answer ≡ Ok (scanned a)
AnswersScan (Err why) answer = IsRefusedFor (refusal_of why) answer
