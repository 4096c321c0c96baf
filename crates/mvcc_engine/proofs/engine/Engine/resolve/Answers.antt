-- A resolution is carried out as it was planned.
use Rattle.std.proofs.Common.{◌≤◌, ◌+◌, refl, sym, ap, ◌∙◌, subst}
use Rattle.std.proofs.lemmas.Result.{err_from_is_err_and}
use Rattle.write_rule.specs.views.Seen.{Tells}
use Rattle.intent_resolve.specs.views.Seen.{update_of}
use Rattle.mvcc_engine.specs.Step.{WasFound}
use Rattle.mvcc_engine.specs.Looks.{looks_at}
use Rattle.mvcc_engine.specs.views.Seen.{refusal_of}
use Rattle.mvcc_engine.proofs.LooksLaws.{looks-told}
use Rattle.mvcc_engine.proofs.ResolutionLaws.{resolve-refused, resolve-planned, resolve-is, of-state}
use Rattle.mvcc_engine.proofs.engine.Engine.resolve.Goals as goal

pub returns-in_err-change-clause-answers : goal.returns-in_err-change-clause-answers
returns-in_err-change-clause-answers g c =
    let p = err_from_is_err_and c.from_residual.result c.from_residual.ensures.1 in
    rw (p.1, p.2) (
      refl,
      resolve-refused c.self.inside.store c.self.inside.stats c.args.self.now c.self.view_is c.last_update_nanos-last.result c.last_update_nanos-last.ensures.value
          c.args.key.now (update_of c.args.update.now) c.in_err-change.field-0.0 c.in_err-change.ensures.outcome,
    )

pub returns-in_err-change-clause-looks : goal.returns-in_err-change-clause-looks
returns-in_err-change-clause-looks g c =
    subst (λ n. c.plan_resolve.new.looks ≤ c.args.looks.now + n) (looks-told c.self.inside.store c.self.inside.stats c.self.invariant c.args.key.now ∙ ap (λ s. looks_at s c.args.key.now) c.self.view_is)
    c.plan_resolve.ensures.looks

pub take-requires : goal.take-requires
take-requires g c =
    resolve-planned c.self.inside.store c.self.inside.stats c.args.self.now c.self.view_is c.last_update_nanos-last.result c.last_update_nanos-last.ensures.value
    c.args.key.now (update_of c.args.update.now) c.in_ok-change.change c.in_ok-change.found c.in_ok-change.ensures.outcome

pub returns-in_err-take-clause-answers : goal.returns-in_err-take-clause-answers
returns-in_err-take-clause-answers g c =
    let plan = c.in_ok-change.ensures.outcome in
    let found = c.in_ok-change.found in
    let planned = of-state c.self.inside.store c.self.inside.stats c.args.self.now c.self.view_is c.last_update_nanos-last.result c.last_update_nanos-last.ensures.value plan.after c.in_ok-change.change plan.change_is in
    let is = resolve-is c.self.inside.store c.self.inside.stats c.args.self.now c.self.view_is c.last_update_nanos-last.result c.last_update_nanos-last.ensures.value
    c.args.key.now (update_of c.args.update.now) c.in_ok-change.change found plan in
    let kept = c.in_err-take.ensures plan.after (WasFound found) planned in
    let p = err_from_is_err_and c.from_residual-in_err-take.result c.from_residual-in_err-take.ensures.1 in
    rw (p.1, p.2) (kept.0, subst (Tells (refusal_of c.in_err-take.field-0.0)) is kept.1)

pub returns-in_err-take-clause-looks : goal.returns-in_err-take-clause-looks
returns-in_err-take-clause-looks g c =
    subst (λ n. c.plan_resolve.new.looks ≤ c.args.looks.now + n) (looks-told c.self.inside.store c.self.inside.stats c.self.invariant c.args.key.now ∙ ap (λ s. looks_at s c.args.key.now) c.self.view_is)
    c.plan_resolve.ensures.looks

pub returns-clause-answers : goal.returns-clause-answers
returns-clause-answers g c =
    let plan = c.in_ok-change.ensures.outcome in
    let found = c.in_ok-change.found in
    let planned = of-state c.self.inside.store c.self.inside.stats c.args.self.now c.self.view_is c.last_update_nanos-last.result c.last_update_nanos-last.ensures.value plan.after c.in_ok-change.change plan.change_is in
    let is = resolve-is c.self.inside.store c.self.inside.stats c.args.self.now c.self.view_is c.last_update_nanos-last.result c.last_update_nanos-last.ensures.value
    c.args.key.now (update_of c.args.update.now) c.in_ok-change.change found plan in
    sym is ∙ c.in_ok-take.ensures plan.after (WasFound found) planned

pub returns-clause-looks : goal.returns-clause-looks
returns-clause-looks g c =
    subst (λ n. c.plan_resolve.new.looks ≤ c.args.looks.now + n) (looks-told c.self.inside.store c.self.inside.stats c.self.invariant c.args.key.now ∙ ap (λ s. looks_at s c.args.key.now) c.self.view_is)
    c.plan_resolve.ensures.looks
