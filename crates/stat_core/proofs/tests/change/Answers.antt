use Rattle.stat_core.specs.ComputeStats.{field, key_sums}
use Rattle.stat_core.specs.views.Seen.{number, lent_shape_of}
use Rattle.stat_core.proofs.GroupLaws.{difference-fits}
use Rattle.stat_core.proofs.tests.change.Goals as goal

pub difference-requires : goal.difference-requires
difference-requires c = λ f.
    difference-fits (number f c.stats.result) (number f c.stats-2.result) (field f (key_sums c.args.now (lent_shape_of c.args.after.now))) (field f (key_sums c.args.now (lent_shape_of c.args.before.now)))
    (c.stats.ensures.sums f) (c.stats-2.ensures.sums f) (c.stats.ensures.within f) (c.stats-2.ensures.within f)
