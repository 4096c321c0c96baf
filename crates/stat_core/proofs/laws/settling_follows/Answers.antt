use Rattle.stat_core.proofs.laws.settling_follows.Goals as goal
use Rattle.stat_core.proofs.SettlingLaws.{settled-computes, settled_number-no_debt}

pub returns-clause-running : goal.returns-clause-running
returns-clause-running c = settled-computes

pub returns-clause-no_debt : goal.returns-clause-no_debt
returns-clause-no_debt c = settled_number-no_debt
