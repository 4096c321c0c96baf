use Rattle.std.proofs.Common.{◌∙◌, Err, ap}
use Rattle.std.proofs.lemmas.Result.{err_from_is_err_and}
use Rattle.write_rule.specs.views.Seen.{refusal_of, request_of}
use Rattle.write_rule.proofs.PlanLaws.{answers-err, answers-cause, refused-check}
use Rattle.write_rule.proofs.plan.plan_write.Goals as goal

pub returns-in_err-check-clause-outcome : goal.returns-in_err-check-clause-outcome
returns-in_err-check-clause-outcome g c = λ h valid told.
    let key = c.args.key.now in
    let w = request_of c.args.request.now in
    let p = err_from_is_err_and c.from_residual.result c.from_residual.ensures.1 in
    let why = c.in_err-check.field-0.0 in
    answers-err c.from_residual.result why h key w (p.1 ∙ ap Err p.2) (refused-check h key w (refusal_of why) c.in_err-check.ensures.err)

pub returns-in_err-check-clause-cause : goal.returns-in_err-check-clause-cause
returns-in_err-check-clause-cause g c = λ h valid told.
    let key = c.args.key.now in
    let w = request_of c.args.request.now in
    let p = err_from_is_err_and c.from_residual.result c.from_residual.ensures.1 in
    let why = c.in_err-check.field-0.0 in
    answers-cause c.from_residual.result h key w (answers-err c.from_residual.result why h key w (p.1 ∙ ap Err p.2) (refused-check h key w (refusal_of why) c.in_err-check.ensures.err))

pub returns-clause-cause : goal.returns-clause-cause
returns-clause-cause g c = λ h valid told. answers-cause c.plan_checked.result h c.args.key.now (request_of c.args.request.now) (c.plan_checked.ensures.outcome h valid told)
