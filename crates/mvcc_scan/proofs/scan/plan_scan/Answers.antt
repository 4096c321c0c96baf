-- Bad options and a bad span refuse before all else.
use Rattle.std.proofs.Common.{sym, ◌∙◌}
use Rattle.mvcc_cursor.specs.WellFormed.{history_in}
use Rattle.mvcc_scan.specs.views.Seen.{asked, limits_of}
use Rattle.mvcc_scan.proofs.AnswerLaws.{scan-bad_options, scan-bad_span}
use Rattle.mvcc_scan.proofs.scan.plan_scan.Goals as goal

pub returns-then-has_bad_options : goal.returns-then-has_bad_options
returns-then-has_bad_options c =
    scan-bad_options (history_in c.args.store.now) (asked c.args.who c.args.options) c.args.start.now c.args.end.now (limits_of c.args.limits) (sym c.has_bad_options.ensures ∙ c.if-has_bad_options.true)

pub returns-then-is_bad_span : goal.returns-then-is_bad_span
returns-then-is_bad_span c =
    scan-bad_span (history_in c.args.store.now) (asked c.args.who c.args.options) c.args.start.now c.args.end.now (limits_of c.args.limits) (sym c.has_bad_options.ensures ∙ c.if-has_bad_options.false)
    (sym c.is_bad_span.ensures ∙ c.if-is_bad_span.true)
