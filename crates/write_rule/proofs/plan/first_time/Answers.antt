use Rattle.std.proofs.Common.{◌≡◌, ◌∙◌, Ok, Err, ap, sym, subst}
use Rattle.std.proofs.lemmas.Result.{err_from_is_err_and}
use Rattle.mvcc_key.specs.Items.{items, newest}
use Rattle.mvcc_value.specs.views.Seen.{seen_body}
use Rattle.write_rule.specs.Write.{answer_to}
use Rattle.write_rule.specs.views.Forming.{first_body}
use Rattle.write_rule.specs.views.Seen.{Tells, answer_of, refusal_of, request_of}
use Rattle.write_rule.proofs.PlanLaws.{answers-err, refused-old, refused-body, refused-written, planned-first}
use Rattle.write_rule.proofs.plan.first_time.Goals as goal

pub returns-in_err-past_newest-clause-outcome : goal.returns-in_err-past_newest-clause-outcome
returns-in_err-past_newest-clause-outcome c = λ h valid own item before free none.
    let key = c.args.key.now in
    let w = request_of c.args.request.now in
    let p = err_from_is_err_and c.from_residual.result c.from_residual.ensures.1 in
    let why = c.in_err-past_newest.field-0.0 in
    answers-err c.from_residual.result why h key w (p.1 ∙ ap Err p.2)
    (refused-old h key w c.requires.sound free none (refusal_of why) (c.in_err-past_newest.ensures.outcome (newest (items h key)) w item (sym c.read_time.ensures)))

pub returns-in_err-formed-clause-outcome : goal.returns-in_err-formed-clause-outcome
returns-in_err-formed-clause-outcome c = λ h valid own item before free none.
    let key = c.args.key.now in
    let w = request_of c.args.request.now in
    let p = err_from_is_err_and c.from_residual-in_err-formed.result c.from_residual-in_err-formed.ensures.1 in
    let why = c.in_err-formed.field-0.0 in
    let recent = c.in_ok-past_newest.ensures.outcome (newest (items h key)) w item (sym c.read_time.ensures) in
    answers-err c.from_residual-in_err-formed.result why h key w (p.1 ∙ ap Err p.2)
    (refused-body h key w c.requires.sound free none recent (refusal_of why) (subst (λ b. Tells (refusal_of why) (first_body w.kind b)) before c.in_err-formed.ensures.outcome))

pub returns-in_err-points-clause-outcome : goal.returns-in_err-points-clause-outcome
returns-in_err-points-clause-outcome c = λ h valid own item before free none.
    let key = c.args.key.now in
    let w = request_of c.args.request.now in
    let p = err_from_is_err_and c.from_residual-in_err-points.result c.from_residual-in_err-points.ensures.1 in
    let why = c.in_err-points.field-0.0 in
    let recent = c.in_ok-past_newest.ensures.outcome (newest (items h key)) w item (sym c.read_time.ensures) in
    let body = seen_body c.in_ok-formed.formed.body in
    let formed = subst (λ b. first_body w.kind b ≡ Ok body) before c.in_ok-formed.ensures.outcome.body in
    answers-err c.from_residual-in_err-points.result why h key w (p.1 ∙ ap Err p.2)
    (refused-written h key w c.requires.sound free none recent body formed (refusal_of why) (c.in_err-points.ensures.outcome h own))

pub returns-clause-outcome : goal.returns-clause-outcome
returns-clause-outcome c = λ h valid own item before free none.
    let key = c.args.key.now in
    let w = request_of c.args.request.now in
    let recent = c.in_ok-past_newest.ensures.outcome (newest (items h key)) w item (sym c.read_time.ensures) in
    let f = c.in_ok-formed.formed in
    let body = seen_body f.body in
    let formed = subst (λ b. first_body w.kind b ≡ Ok body) before c.in_ok-formed.ensures.outcome.body in
    let answered = subst (λ b. answer_of f.answer ≡ answer_to w.kind b body) before c.in_ok-formed.ensures.outcome.answer in
    planned-first h key w valid c.requires.writable c.requires.sound free none recent body formed (record { points = c.in_ok-points.points; answer = f.answer }) answered (c.in_ok-points.ensures.outcome h own)
