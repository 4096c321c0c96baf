use Rattle.stat_core.proofs.laws.span_changes.Goals as goal
use Rattle.stat_core.proofs.SpanChangeLaws.{compute_stats-span}

pub returns : goal.returns
returns c = compute_stats-span
