use Rattle.std.proofs.Common.{refl, lit<}
use Rattle.stat_core.proofs.StatsLaws.{no_sums-fits}
use Rattle.stat_core.proofs.stats.Stats.new.Goals as goal

pub invariant_of-result : goal.invariant_of-result
invariant_of-result c = record { all = refl; fits = no_sums-fits c.args.count_max; some = c.requires.some; count_max = c.requires.range; last = lit< tt }
