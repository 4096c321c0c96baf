use Rattle.std.proofs.Common.{◌∙◌, ap}
use Rattle.std.proofs.lemmas.Result.{on_ok_weaker}
use Rattle.stat_core.specs.ComputeStats.{overflowing}
use Rattle.stat_core.specs.Running.{Running, sums_of}
use Rattle.stat_core.specs.Settling.{gain}
use Rattle.stat_core.proofs.StatsLaws.{settle-is}
use Rattle.stat_core.proofs.stats.Stats.settle.Goals as goal

pub returns-clause-ok : goal.returns-clause-ok
returns-clause-ok c =
    let r : Running = record { sums = sums_of c.self.inside.counts; last = c.self.inside.last; count_max = c.self.inside.count_max } in
    let is = settle-is c.args.self.now r c.gains-gained.result c.numbers.result c.args.delta.now c.args.now c.self.view_is
    (λ f. c.gains-gained.ensures.value f ∙ ap (λ n. gain r.sums n f) c.seconds_between.ensures.value) c.numbers.ensures in
    on_ok_weaker c.change.result (λ e. e ∙ is) c.change.ensures.ok

pub returns-clause-refused : goal.returns-clause-refused
returns-clause-refused c =
    let r : Running = record { sums = sums_of c.self.inside.counts; last = c.self.inside.last; count_max = c.self.inside.count_max } in
    let is = settle-is c.args.self.now r c.gains-gained.result c.numbers.result c.args.delta.now c.args.now c.self.view_is
    (λ f. c.gains-gained.ensures.value f ∙ ap (λ n. gain r.sums n f) c.seconds_between.ensures.value) c.numbers.ensures in
    c.change.ensures.refused ∙ ap (λ s. overflowing c.args.self.now.count_max s.sums) is
