use Rattle.std.proofs.Common.{◌∙◌, ap}
use Rattle.std.proofs.lemmas.Result.{on_ok_weaker}
use Rattle.stat_core.specs.ComputeStats.{overflowing}
use Rattle.stat_core.proofs.StatsLaws.{aged_to-is}
use Rattle.stat_core.proofs.stats.Stats.age_to.Goals as goal

pub returns-clause-ok : goal.returns-clause-ok
returns-clause-ok c = on_ok_weaker c.settle.result (λ e. e ∙ aged_to-is c.args.self.now c.zero.result c.args.now c.zero.ensures) c.settle.ensures.ok

pub returns-clause-refused : goal.returns-clause-refused
returns-clause-refused c =
    c.settle.ensures.refused ∙ ap (λ s. overflowing c.args.self.now.count_max s.sums) (aged_to-is c.args.self.now c.zero.result c.args.now c.zero.ensures)
