use Rattle.stat_core.proofs.laws.one_key_changes.Goals as goal
use Rattle.stat_core.proofs.KeyChangeLaws.{compute_stats-one_key, difference-one_key}
use Rattle.stat_core.proofs.NewVersionLaws.{compute_stats-first_pairs}

pub returns-clause-sums : goal.returns-clause-sums
returns-clause-sums c = compute_stats-one_key

pub returns-clause-differences : goal.returns-clause-differences
returns-clause-differences c = difference-one_key

pub returns-clause-comes : goal.returns-clause-comes
returns-clause-comes c = compute_stats-first_pairs
