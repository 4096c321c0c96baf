-- What the cursor tells at the key is what the store's history has of it.
use Rattle.std.specs.Prelude.{Ok, Err, is_some, true, false}
use Rattle.std.proofs.Common.{sym, ap, subst, ◌∙◌}
use Rattle.std.proofs.lemmas.Result.{err_from_is_err_and}
use Rattle.mvcc_cursor.specs.Standing.{sought_key, told}
use Rattle.mvcc_cursor.specs.WellFormed.{IsWellFormed, history_in}
use Rattle.mvcc_cursor.specs.views.Seen.{seen}
use Rattle.intent_resolve.specs.Planned.{Answers}
use Rattle.intent_resolve.specs.Resolve.{of_update}
use Rattle.intent_resolve.specs.views.KeyPlan.{IsKeyPlan}
use Rattle.intent_resolve.specs.views.Seen.{update_of}
use Rattle.intent_resolve.proofs.ChangeLaws.{plan-top, plan-left, planned-own, planned-none}
use Rattle.intent_resolve.proofs.LookLaws.{none_of, own_of, from_not, from_not_true}
use Rattle.intent_resolve.proofs.PlanLaws.{stands-at, stands-still, told-intent, cut-answers, err-answers}
use Rattle.intent_resolve.proofs.plan.plan_resolve.Goals as goal

pub look_here-looked-requires-clause-formed : goal.look_here-looked-requires-clause-formed
look_here-looked-requires-clause-formed g c =
    let store = c.args.store.now in
    let one = stands-at store (sought_key c.args.key.now) (seen c.in_ok-cursor.cursor) (seen c.seek_exact.new.self) c.in_ok-cursor.ensures c.seek_exact.ensures.key in
    subst (λ r. IsWellFormed (history_in r) r) (sym one.over) c.requires.formed

pub look_here-looked-requires-clause-fresh : goal.look_here-looked-requires-clause-fresh
look_here-looked-requires-clause-fresh g c =
    (stands-at c.args.store.now (sought_key c.args.key.now) (seen c.in_ok-cursor.cursor) (seen c.seek_exact.new.self) c.in_ok-cursor.ensures c.seek_exact.ensures.key).fresh

pub look_here-looked-requires-clause-there : goal.look_here-looked-requires-clause-there
look_here-looked-requires-clause-there g c =
    let u = update_of c.args.update.now in
    let o = (told (seen c.seek_exact.new.self)).intent in
    ap is_some (own_of u o (from_not c.is_others.result (is_some (of_update u o)) c.is_others.ensures c.if-is_others.false)).is

pub plan_here-requires-clause-formed : goal.plan_here-requires-clause-formed
plan_here-requires-clause-formed g c =
    let store = c.args.store.now in
    let one = stands-at store (sought_key c.args.key.now) (seen c.in_ok-cursor.cursor) (seen c.seek_exact.new.self) c.in_ok-cursor.ensures c.seek_exact.ensures.key in
    let two = stands-still store (sought_key c.args.key.now) (seen c.seek_exact.new.self) (seen c.look_here-looked.new.cursor) one c.look_here-looked.ensures.stands in
    subst (λ r. IsWellFormed (history_in r) r) (sym two.over) c.requires.formed

pub plan_here-requires-clause-own : goal.plan_here-requires-clause-own
plan_here-requires-clause-own g c =
    ap (λ s. is_some (of_update (update_of c.args.update.now) (told s).intent)) c.look_here-looked.ensures.stands
    ∙ from_not c.is_others.result (is_some (of_update (update_of c.args.update.now) (told (seen c.seek_exact.new.self)).intent)) c.is_others.ensures c.if-is_others.false

pub plan_here-requires-clause-looked : goal.plan_here-requires-clause-looked
plan_here-requires-clause-looked g c = c.look_here-looked.ensures.looked

pub change_of-requires-clause-entries : goal.change_of-requires-clause-entries
change_of-requires-clause-entries g c =
    let store = c.args.store.now in
    let key = sought_key c.args.key.now in
    let one = stands-at store key (seen c.in_ok-cursor.cursor) (seen c.seek_exact.new.self) c.in_ok-cursor.ensures c.seek_exact.ensures.key in
    let two = stands-still store key (seen c.seek_exact.new.self) (seen c.look_here-looked.new.cursor) one c.look_here-looked.ensures.stands in
    (c.in_ok-plan.ensures key two.at_key).entries

pub change_of-requires-clause-top : goal.change_of-requires-clause-top
change_of-requires-clause-top g c =
    let store = c.args.store.now in
    let key = sought_key c.args.key.now in
    let u = update_of c.args.update.now in
    let one = stands-at store key (seen c.in_ok-cursor.cursor) (seen c.seek_exact.new.self) c.in_ok-cursor.ensures c.seek_exact.ensures.key in
    let two = stands-still store key (seen c.seek_exact.new.self) (seen c.look_here-looked.new.cursor) one c.look_here-looked.ensures.stands in
    plan-top (history_in store) c.args.last u c.in_ok-plan.plan (c.requires.formed).valid key
    (subst (λ r. IsKeyPlan (history_in r) key u c.in_ok-plan.plan) two.over (c.in_ok-plan.ensures key two.at_key))

pub change_of-requires-clause-left : goal.change_of-requires-clause-left
change_of-requires-clause-left g c =
    let store = c.args.store.now in
    let key = sought_key c.args.key.now in
    let u = update_of c.args.update.now in
    let one = stands-at store key (seen c.in_ok-cursor.cursor) (seen c.seek_exact.new.self) c.in_ok-cursor.ensures c.seek_exact.ensures.key in
    let two = stands-still store key (seen c.seek_exact.new.self) (seen c.look_here-looked.new.cursor) one c.look_here-looked.ensures.stands in
    plan-left (history_in store) c.args.last u c.in_ok-plan.plan (c.requires.formed).valid key
    (subst (λ r. IsKeyPlan (history_in r) key u c.in_ok-plan.plan) two.over (c.in_ok-plan.ensures key two.at_key))

pub returns-clause-outcome : goal.returns-clause-outcome
returns-clause-outcome g c =
    let store = c.args.store.now in
    let key = sought_key c.args.key.now in
    let u = update_of c.args.update.now in
    let one = stands-at store key (seen c.in_ok-cursor.cursor) (seen c.seek_exact.new.self) c.in_ok-cursor.ensures c.seek_exact.ensures.key in
    let two = stands-still store key (seen c.seek_exact.new.self) (seen c.look_here-looked.new.cursor) one c.look_here-looked.ensures.stands in
    cut-answers (Ok (c.change_of.result, true)) (history_in store) c.args.last c.args.key.now u (c.requires.formed).valid
    (planned-own (history_in store) c.args.last u c.in_ok-plan.plan (c.requires.formed).valid key c.change_of.result c.requires.by
    (record { batch = c.change_of.ensures.batch; moment = c.change_of.ensures.moment; delta = c.change_of.ensures.delta })
    (subst (λ r. IsKeyPlan (history_in r) key u c.in_ok-plan.plan) two.over (c.in_ok-plan.ensures key two.at_key)))

pub returns-in_err-plan-clause-outcome : goal.returns-in_err-plan-clause-outcome
returns-in_err-plan-clause-outcome g c =
    let store = c.args.store.now in
    let key = sought_key c.args.key.now in
    let u = update_of c.args.update.now in
    let one = stands-at store key (seen c.in_ok-cursor.cursor) (seen c.seek_exact.new.self) c.in_ok-cursor.ensures c.seek_exact.ensures.key in
    let two = stands-still store key (seen c.seek_exact.new.self) (seen c.look_here-looked.new.cursor) one c.look_here-looked.ensures.stands in
    let p = err_from_is_err_and c.from_residual-in_err-plan.result c.from_residual-in_err-plan.ensures.1 in
    let why = c.in_err-plan.field-0.0 in
    subst (λ r. Answers r (history_in store) c.args.last c.args.key.now u) (sym (p.1 ∙ ap Err p.2))
    (err-answers why store (seen c.look_here-looked.new.cursor) c.args.last c.args.key.now u two (c.requires.formed).valid (c.in_err-plan.ensures key two.at_key))

pub returns-then-is_others-clause-outcome : goal.returns-then-is_others-clause-outcome
returns-then-is_others-clause-outcome g c =
    let store = c.args.store.now in
    let key = sought_key c.args.key.now in
    let u = update_of c.args.update.now in
    let h = history_in store in
    let one = stands-at store key (seen c.in_ok-cursor.cursor) (seen c.seek_exact.new.self) c.in_ok-cursor.ensures c.seek_exact.ensures.key in
    let none = ap (λ o. is_some (of_update u o)) (sym (told-intent store key (seen c.seek_exact.new.self) one))
    ∙ from_not_true c.is_others.result (is_some (of_update u (told (seen c.seek_exact.new.self)).intent)) c.is_others.ensures c.if-is_others.true in
    cut-answers (Ok (c.no_change.result, false)) h c.args.last c.args.key.now u (c.requires.formed).valid
    (planned-none h c.args.last key u c.no_change.result (c.requires.formed).valid c.requires.by (none_of u _ none) c.no_change.ensures.batch c.no_change.ensures.moment c.no_change.ensures.delta)
