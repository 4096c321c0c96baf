-- A resolution of a span is carried out as it was planned.
use Rattle.std.proofs.Common.{refl, sym, ◌∙◌, subst}
use Rattle.std.proofs.lemmas.Result.{err_from_is_err_and}
use Rattle.write_rule.specs.views.Seen.{Tells}
use Rattle.intent_resolve.specs.views.Seen.{update_of, ranged_of}
use Rattle.mvcc_engine.specs.Step.{Took}
use Rattle.mvcc_engine.specs.views.Seen.{refusal_of}
use Rattle.mvcc_engine.proofs.ResolutionLaws.{range-refused, range-planned, range-is, of-state}
use Rattle.mvcc_engine.proofs.engine.Engine.resolve_range.Goals as goal

pub returns-in_err-change : goal.returns-in_err-change
returns-in_err-change c =
    let p = err_from_is_err_and c.from_residual.result c.from_residual.ensures.1 in
    rw (p.1, p.2) (
      refl,
      range-refused c.self.inside.store c.self.inside.stats c.args.self.now c.self.view_is c.last_update_nanos-last.result c.last_update_nanos-last.ensures.value
          c.args.start.now c.args.end.now (update_of c.args.update.now) c.args.max c.in_err-change.field-0.0 c.in_err-change.ensures.outcome,
    )

pub take-requires : goal.take-requires
take-requires c =
    range-planned c.self.inside.store c.self.inside.stats c.args.self.now c.self.view_is c.last_update_nanos-last.result c.last_update_nanos-last.ensures.value
    c.args.start.now c.args.end.now (update_of c.args.update.now) c.args.max c.in_ok-change.change (ranged_of c.in_ok-change.ranged) c.in_ok-change.ensures.outcome

pub returns-in_err-take : goal.returns-in_err-take
returns-in_err-take c =
    let plan = c.in_ok-change.ensures.outcome in
    let ranged = ranged_of c.in_ok-change.ranged in
    let planned = of-state c.self.inside.store c.self.inside.stats c.args.self.now c.self.view_is c.last_update_nanos-last.result c.last_update_nanos-last.ensures.value plan.after c.in_ok-change.change plan.change_is in
    let is = range-is c.self.inside.store c.self.inside.stats c.args.self.now c.self.view_is c.last_update_nanos-last.result c.last_update_nanos-last.ensures.value
    c.args.start.now c.args.end.now (update_of c.args.update.now) c.args.max c.in_ok-change.change ranged plan in
    let kept = c.in_err-take.ensures plan.after (Took ranged) planned in
    let p = err_from_is_err_and c.from_residual-in_err-take.result c.from_residual-in_err-take.ensures.1 in
    rw (p.1, p.2) (kept.0, subst (Tells (refusal_of c.in_err-take.field-0.0)) is kept.1)

pub returns : goal.returns
returns c =
    let plan = c.in_ok-change.ensures.outcome in
    let ranged = ranged_of c.in_ok-change.ranged in
    let planned = of-state c.self.inside.store c.self.inside.stats c.args.self.now c.self.view_is c.last_update_nanos-last.result c.last_update_nanos-last.ensures.value plan.after c.in_ok-change.change plan.change_is in
    let is = range-is c.self.inside.store c.self.inside.stats c.args.self.now c.self.view_is c.last_update_nanos-last.result c.last_update_nanos-last.ensures.value
    c.args.start.now c.args.end.now (update_of c.args.update.now) c.args.max c.in_ok-change.change ranged plan in
    sym is ∙ c.in_ok-take.ensures plan.after (Took ranged) planned
