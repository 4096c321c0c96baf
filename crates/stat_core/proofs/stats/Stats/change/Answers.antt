use Rattle.std.proofs.lemmas.Result.{err_from_is_err_and}
use Rattle.stat_core.specs.views.Seen.{field_of}
use Rattle.stat_core.proofs.CounterLaws.{counted-fits}
use Rattle.stat_core.specs.views.Counters.{changed_number, moved_number}
use Rattle.stat_core.proofs.StatsLaws.{NoDebt-same, changed-moved, changed-running, changed-fits, changed-overflows}
use Rattle.stat_core.proofs.stats.Stats.change.Goals as goal

pub changed-requires-clause-no_debt : goal.changed-requires-clause-no_debt
changed-requires-clause-no_debt c =
    NoDebt-same (changed_number c.self.inside.counts c.args.gained.now c.args.numbers.now c.args.sign) (moved_number c.args.self.now c.args.gained.now c.args.numbers.now c.args.sign)
    (changed-moved c.self.inside.counts c.self.inside.last c.self.inside.count_max c.args.self.now c.args.gained.now c.args.numbers.now c.args.sign c.self.view_is) c.requires.no_debt

pub returns-in_err-self-inside-clause-refused : goal.returns-in_err-self-inside-clause-refused
returns-in_err-self-inside-clause-refused c =
    let p = err_from_is_err_and c.from_residual.result c.from_residual.ensures.1 in
    rw (p.1, p.2) (changed-overflows c.self.inside.counts c.self.inside.last c.self.inside.count_max c.args.self.now c.args.gained.now c.args.numbers.now c.args.sign (field_of c.in_err-self-inside.field-0.0.field) c.self.view_is c.in_err-self-inside.ensures)

pub invariant_of-self : goal.invariant_of-self
invariant_of-self c = record {
  all = c.in_ok-self-inside.ensures.all;
  fits = counted-fits c.self.inside.count_max (changed_number c.self.inside.counts c.args.gained.now c.args.numbers.now c.args.sign) c.in_ok-self-inside.field-0 c.in_ok-self-inside.ensures;
  some = c.self.invariant.some;
  count_max = c.self.invariant.count_max;
  last = c.requires.range;
}

pub returns-clause-ok : goal.returns-clause-ok
returns-clause-ok c =
    changed-running c.self.inside.counts c.in_ok-self-inside.field-0 c.self.inside.last c.self.inside.count_max c.args.now c.args.self.now c.args.gained.now c.args.numbers.now c.args.sign c.self.view_is c.in_ok-self-inside.ensures

pub returns-clause-refused : goal.returns-clause-refused
returns-clause-refused c =
    changed-fits c.self.inside.counts c.in_ok-self-inside.field-0 c.self.inside.last c.self.inside.count_max c.args.now c.args.self.now c.args.gained.now c.args.numbers.now c.args.sign c.self.view_is c.in_ok-self-inside.ensures
