use Rattle.std.proofs.Common.{◌∙◌, ap}
use Rattle.std.proofs.lemmas.Result.{on_ok_weaker}
use Rattle.stat_core.specs.ComputeStats.{overflowing}
use Rattle.stat_core.proofs.StatsLaws.{sub-is}
use Rattle.stat_core.proofs.stats.Stats.sub.Goals as goal

pub returns-clause-ok : goal.returns-clause-ok
returns-clause-ok c =
    on_ok_weaker c.change.result (λ e. e ∙ sub-is c.args.self.now c.self.inside.last c.numbers.result c.args.group.now (ap (λ s. s.last) c.self.view_is) c.numbers.ensures) c.change.ensures.ok

pub returns-clause-refused : goal.returns-clause-refused
returns-clause-refused c =
    c.change.ensures.refused
    ∙ ap (λ s. overflowing c.args.self.now.count_max s.sums) (sub-is c.args.self.now c.self.inside.last c.numbers.result c.args.group.now (ap (λ s. s.last) c.self.view_is) c.numbers.ensures)
