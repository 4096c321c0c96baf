-- The laws of a change of a span.
use Rattle.stat_delta.proofs.SpanHistoryLaws.{history_change-span, history_change-shares, history_change-tombstones}
use Rattle.stat_delta.proofs.SpanTombstoneLaws.{stack_at-middle}
use Rattle.stat_delta.proofs.laws.laws_of_spans.Goals as goal

pub returns : goal.returns
returns c = record {
  changes = history_change-span;
  shares = history_change-shares;
  tombstones = history_change-tombstones;
  middle = stack_at-middle;
}
