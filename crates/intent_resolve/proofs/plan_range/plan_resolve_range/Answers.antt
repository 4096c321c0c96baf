-- Bounds that are no span are refused.
use Rattle.std.proofs.Common.{sym, ◌∙◌}
use Rattle.mvcc_cursor.specs.WellFormed.{history_in}
use Rattle.intent_resolve.specs.views.Seen.{update_of}
use Rattle.intent_resolve.proofs.RangeLaws.{resolve_range-bad_span}
use Rattle.intent_resolve.proofs.plan_range.plan_resolve_range.Goals as goal

pub returns-then-is_bad_span : goal.returns-then-is_bad_span
returns-then-is_bad_span c = record {
  outcome = resolve_range-bad_span (history_in c.args.store.now) c.args.start.now c.args.end.now (update_of c.args.update.now) c.args.max (sym c.is_bad_span.ensures ∙ c.if-is_bad_span.true);
}
