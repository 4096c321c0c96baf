use Rattle.stat_core.proofs.laws.overflow_is_exact.Goals as goal
use Rattle.stat_core.proofs.BoundsLaws.{no_overflow-is, no_overflow-from, overflow-is, no_overflow-less}

pub returns-clause-none : goal.returns-clause-none
returns-clause-none c = no_overflow-is

pub returns-clause-none_from : goal.returns-clause-none_from
returns-clause-none_from c = no_overflow-from

pub returns-clause-some : goal.returns-clause-some
returns-clause-some c = overflow-is

pub returns-clause-less : goal.returns-clause-less
returns-clause-less c = no_overflow-less
