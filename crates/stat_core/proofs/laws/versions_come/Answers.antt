use Rattle.stat_core.proofs.laws.versions_come.Goals as goal
use Rattle.stat_core.proofs.PutLaws.{difference-on_top, difference-first}

pub returns-clause-on_top : goal.returns-clause-on_top
returns-clause-on_top c = difference-on_top

pub returns-clause-first : goal.returns-clause-first
returns-clause-first c = difference-first
