-- A write is carried out as it was planned.
use Rattle.std.proofs.Common.{◌≤◌, ◌+◌, ap, ◌∙◌, subst}
use Rattle.std.proofs.lemmas.Result.{err_from_is_err_and}
use Rattle.write_rule.specs.views.Seen.{request_of}
use Rattle.mvcc_engine.specs.Looks.{looks_at}
use Rattle.mvcc_engine.proofs.LooksLaws.{looks-told}
use Rattle.mvcc_engine.proofs.WriteLaws.{plan-refused, plan-up, plan-no_debt, plan-over, plan-answers, taken-sound, taken-steps}
use Rattle.mvcc_engine.proofs.engine.Engine.write.Goals as goal

pub returns-in_err-change-clause-answers : goal.returns-in_err-change-clause-answers
returns-in_err-change-clause-answers g c =
    let p = err_from_is_err_and c.from_residual.result c.from_residual.ensures.1 in
    rw (p.1, p.2) (
      c.self.view_is,
      plan-refused c.self.inside.store c.self.inside.stats c.self.invariant c.args.self.now c.self.view_is c.last_update_nanos-last.result c.last_update_nanos-last.ensures.value
          c.args.key.now (request_of c.args.request.now) c.in_err-change.field-0.0 c.in_err-change.ensures.outcome,
    )

pub returns-in_err-change-clause-looks : goal.returns-in_err-change-clause-looks
returns-in_err-change-clause-looks g c =
    subst (λ n. c.plan_put_with.new.looks ≤ c.args.looks.now + n) (looks-told c.self.inside.store c.self.inside.stats c.self.invariant c.args.key.now ∙ ap (λ s. looks_at s c.args.key.now) c.self.view_is)
    c.plan_put_with.ensures.looks

pub settle-requires-clause-later : goal.settle-requires-clause-later
settle-requires-clause-later g c =
    plan-up c.self.inside.store c.self.inside.stats c.self.invariant c.args.self.now c.self.view_is c.last_update_nanos-last.result c.last_update_nanos-last.ensures.value
    c.args.key.now (request_of c.args.request.now) c.in_ok-change.change c.in_ok-change.answer c.in_ok-change.ensures.outcome

pub settle-requires-clause-no_debt : goal.settle-requires-clause-no_debt
settle-requires-clause-no_debt g c =
    plan-no_debt c.self.inside.store c.self.inside.stats c.self.invariant c.args.self.now c.self.view_is c.last_update_nanos-last.result c.last_update_nanos-last.ensures.value
    c.args.key.now (request_of c.args.request.now) c.in_ok-change.change c.in_ok-change.answer c.in_ok-change.ensures.outcome

pub returns-in_err-settle-clause-answers : goal.returns-in_err-settle-clause-answers
returns-in_err-settle-clause-answers g c =
    let p = err_from_is_err_and c.from_residual-in_err-settle.result c.from_residual-in_err-settle.ensures.1 in
    rw (p.1, p.2) (
      c.self.view_is,
      plan-over c.self.inside.store c.self.inside.stats c.self.invariant c.args.self.now c.self.view_is c.last_update_nanos-last.result c.last_update_nanos-last.ensures.value
          c.args.key.now (request_of c.args.request.now) c.in_ok-change.change c.in_ok-change.answer c.in_ok-change.ensures.outcome _ c.in_err-settle.ensures.refused,
    )

pub returns-in_err-settle-clause-looks : goal.returns-in_err-settle-clause-looks
returns-in_err-settle-clause-looks g c =
    subst (λ n. c.plan_put_with.new.looks ≤ c.args.looks.now + n) (looks-told c.self.inside.store c.self.inside.stats c.self.invariant c.args.key.now ∙ ap (λ s. looks_at s c.args.key.now) c.self.view_is)
    c.plan_put_with.ensures.looks

pub returns-in_err-apply-clause-looks : goal.returns-in_err-apply-clause-looks
returns-in_err-apply-clause-looks g c =
    subst (λ n. c.plan_put_with.new.looks ≤ c.args.looks.now + n) (looks-told c.self.inside.store c.self.inside.stats c.self.invariant c.args.key.now ∙ ap (λ s. looks_at s c.args.key.now) c.self.view_is)
    c.plan_put_with.ensures.looks

pub invariant_of-self-2 : goal.invariant_of-self-2
invariant_of-self-2 g c =
    taken-sound c.self.inside.store c.self.inside.stats c.self.invariant c.args.self.now c.self.view_is c.last_update_nanos-last.result c.last_update_nanos-last.ensures.value
    c.args.key.now (request_of c.args.request.now) c.in_ok-change.change c.in_ok-change.answer c.in_ok-change.ensures.outcome
    c.apply.new.self c.settle.new.self c.in_ok-settle.ensures.ok c.in_ok-apply.ensures.shown c.in_ok-apply.ensures.fragments

pub returns-clause-answers : goal.returns-clause-answers
returns-clause-answers g c =
    taken-steps c.self.inside.store c.self.inside.stats c.self.invariant c.args.self.now c.self.view_is c.last_update_nanos-last.result c.last_update_nanos-last.ensures.value
    c.args.key.now (request_of c.args.request.now) c.in_ok-change.change c.in_ok-change.answer c.in_ok-change.ensures.outcome
    c.apply.new.self c.settle.new.self c.in_ok-settle.ensures.ok c.in_ok-apply.ensures.shown c.in_ok-apply.ensures.fragments c.in_ok-settle.ensures.refused c.in_ok-apply.ensures.parts

pub returns-clause-formed : goal.returns-clause-formed
returns-clause-formed g c =
    plan-answers c.self.inside.store c.self.inside.stats c.self.invariant c.args.self.now c.self.view_is c.last_update_nanos-last.result c.last_update_nanos-last.ensures.value
    c.args.key.now (request_of c.args.request.now) c.in_ok-change.change c.in_ok-change.answer c.in_ok-change.ensures.outcome

pub returns-clause-looks : goal.returns-clause-looks
returns-clause-looks g c =
    subst (λ n. c.plan_put_with.new.looks ≤ c.args.looks.now + n) (looks-told c.self.inside.store c.self.inside.stats c.self.invariant c.args.key.now ∙ ap (λ s. looks_at s c.args.key.now) c.self.view_is)
    c.plan_put_with.ensures.looks
