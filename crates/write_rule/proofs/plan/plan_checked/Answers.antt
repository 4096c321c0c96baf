use Rattle.std.proofs.Common.{◌≡◌, ◌∙◌, Ok, Err, refl, ap, subst}
use Rattle.std.specs.Prelude.{option_map}
use Rattle.std.proofs.lemmas.Result.{err_from_is_err_and}
use Rattle.mvcc_key.specs.History.{intent_of}
use Rattle.mvcc_key.specs.Items.{items, newest}
use Rattle.mvcc_value.specs.views.Seen.{plain_body}
use Rattle.txn_state.specs.views.Seen.{actor_of}
use Rattle.write_rule.specs.Write.{replay, first_write}
use Rattle.write_rule.specs.views.Seen.{Tells, answer_of, refusal_of, request_of}
use Rattle.write_rule.proofs.PlanLaws.{answers-err, refused-intent, refused-replay, taken-replay, planned-replay, has_replay, own_told, free_told, met_told, newest_told, before_told, key_told}
use Rattle.write_rule.proofs.plan.plan_checked.Goals as goal

pub returns-in_err-own-clause-outcome : goal.returns-in_err-own-clause-outcome
returns-in_err-own-clause-outcome g c = λ h valid told.
    let key = c.args.key.now in
    let w = request_of c.args.request.now in
    let k = g.K.KeyItems.shown c.args.items.now in
    let p = err_from_is_err_and c.from_residual.result c.from_residual.ensures.1 in
    let why = c.in_err-own.field-0.0 in
    answers-err c.from_residual.result why h key w (p.1 ∙ ap Err p.2)
    (refused-intent h key w c.requires.sound (refusal_of why) (met_told h key k told w (refusal_of why) (c.in_err-own.ensures.err w refl (key_told h key k told))))

pub returns-in_err-answer-in-Some-clause-outcome : goal.returns-in_err-answer-in-Some-clause-outcome
returns-in_err-answer-in-Some-clause-outcome g c = λ h valid told.
    let key = c.args.key.now in
    let w = request_of c.args.request.now in
    let k = g.K.KeyItems.shown c.args.items.now in
    let who = actor_of c.args.request.now.who in
    let p = err_from_is_err_and c.from_residual-in_err-answer-in-Some.result c.from_residual-in_err-answer-in-Some.ensures.1 in
    let why = c.in_err-answer-in-Some.field-0.0 in
    let own = own_told h key k told c.in_ok-own.own who c.in_ok-own.ensures.own in
    let free = free_told h key k told w (c.in_ok-own.ensures.free w refl) in
    let item = newest_told h key k told c.newest_of-newest.result c.newest_of-newest.ensures in
    let before = before_told h key k told who (option_map plain_body c.value_before-before.result) (c.value_before-before.ensures who (intent_of key h) (newest (items h key)) own item) in
    let again = has_replay c.in-Some.own who (intent_of key h) (c.in-Some.ensures.some who (intent_of key h) own) in
    let txn = c.in-Some.own.txn.now in
    answers-err c.from_residual-in_err-answer-in-Some.result why h key w (p.1 ∙ ap Err p.2)
    (refused-replay h key w c.requires.sound free (txn, again.i) again.replays (refusal_of why)
    (subst (λ b. Tells (refusal_of why) (replay w.kind b txn.sequence (first_write txn again.i))) before (c.in_err-answer-in-Some.ensures.outcome who again.i again.own_is)))

pub returns-in_ok-answer-in-Some-clause-outcome : goal.returns-in_ok-answer-in-Some-clause-outcome
returns-in_ok-answer-in-Some-clause-outcome g c = λ h valid told.
    let key = c.args.key.now in
    let w = request_of c.args.request.now in
    let k = g.K.KeyItems.shown c.args.items.now in
    let who = actor_of c.args.request.now.who in
    let own = own_told h key k told c.in_ok-own.own who c.in_ok-own.ensures.own in
    let free = free_told h key k told w (c.in_ok-own.ensures.free w refl) in
    let item = newest_told h key k told c.newest_of-newest.result c.newest_of-newest.ensures in
    let before = before_told h key k told who (option_map plain_body c.value_before-before.result) (c.value_before-before.ensures who (intent_of key h) (newest (items h key)) own item) in
    let again = has_replay c.in-Some.own who (intent_of key h) (c.in-Some.ensures.some who (intent_of key h) own) in
    let txn = c.in-Some.own.txn.now in
    let answer = answer_of c.in_ok-answer-in-Some.answer in
    planned-replay h key w txn (record { points = c.new-points.result; answer = c.in_ok-answer-in-Some.answer }) (again.own_is).inside c.new-points.ensures
    (taken-replay h key w c.requires.sound free (txn, again.i) again.replays answer
    (subst (λ b. replay w.kind b txn.sequence (first_write txn again.i) ≡ Ok answer) before (c.in_ok-answer-in-Some.ensures.outcome who again.i again.own_is)))

pub returns-in-None-clause-outcome : goal.returns-in-None-clause-outcome
returns-in-None-clause-outcome g c = λ h valid told.
    let key = c.args.key.now in
    let w = request_of c.args.request.now in
    let k = g.K.KeyItems.shown c.args.items.now in
    let who = actor_of c.args.request.now.who in
    let own = own_told h key k told c.in_ok-own.own who c.in_ok-own.ensures.own in
    let free = free_told h key k told w (c.in_ok-own.ensures.free w refl) in
    let item = newest_told h key k told c.newest_of-newest.result c.newest_of-newest.ensures in
    let before = before_told h key k told who (option_map plain_body c.value_before-before.result) (c.value_before-before.ensures who (intent_of key h) (newest (items h key)) own item) in
    c.first_time.ensures.outcome h valid own item before free (c.in-None.ensures.none who (intent_of key h) own)
