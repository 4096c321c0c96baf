use Rattle.stat_core.proofs.laws.statistics_age.Goals as goal
use Rattle.stat_core.proofs.AgeingLaws.{compute_stats-ages}
use Rattle.stat_core.proofs.SettlingLaws.{aged_to-computes, aged_number-no_debt}

pub returns-clause-computed : goal.returns-clause-computed
returns-clause-computed c = compute_stats-ages

pub returns-clause-running : goal.returns-clause-running
returns-clause-running c = aged_to-computes

pub returns-clause-no_debt : goal.returns-clause-no_debt
returns-clause-no_debt c = aged_number-no_debt
