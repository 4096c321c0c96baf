use Rattle.stat_core.proofs.laws.older_versions_stay.Goals as goal
use Rattle.stat_core.proofs.NewVersionLaws.{difference-fronts, difference-front_of_key}

pub returns-clause-shapes : goal.returns-clause-shapes
returns-clause-shapes c = difference-fronts

pub returns-clause-pairs : goal.returns-clause-pairs
returns-clause-pairs c = difference-front_of_key
