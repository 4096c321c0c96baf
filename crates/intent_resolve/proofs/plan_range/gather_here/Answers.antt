use Rattle.intent_resolve.specs.views.KeyPlan.{IsKeyPlan}
use Rattle.intent_resolve.proofs.PlanLaws.{is_at}
use Rattle.intent_resolve.proofs.ChangeLaws.{plan-top, plan-left}
use Rattle.std.proofs.Common.{ap, subst, sym, ◌∙◌}
use Rattle.std.specs.Prelude.{is_some}
use Rattle.mvcc_cursor.specs.Standing.{told}
use Rattle.mvcc_cursor.specs.WellFormed.{IsWellFormed, history_in}
use Rattle.mvcc_cursor.specs.views.Seen.{seen}
use Rattle.intent_resolve.specs.Resolve.{of_update}
use Rattle.intent_resolve.specs.views.Seen.{update_of}
use Rattle.intent_resolve.proofs.LookLaws.{own_of}
use Rattle.intent_resolve.proofs.plan_range.gather_here.Goals as goal

pub look_here-looked-requires-clause-there : goal.look_here-looked-requires-clause-there
look_here-looked-requires-clause-there g c =
    ap is_some (own_of (update_of c.args.update.now) (told (seen c.args.cursor.now)).intent c.requires.own).is

pub plan_here-requires-clause-formed : goal.plan_here-requires-clause-formed
plan_here-requires-clause-formed g c =
    subst (λ s. IsWellFormed (history_in s.store) s.store) (sym c.look_here-looked.ensures.stands) c.requires.formed

pub plan_here-requires-clause-own : goal.plan_here-requires-clause-own
plan_here-requires-clause-own g c =
    ap (λ s. is_some (of_update (update_of c.args.update.now) (told s).intent)) c.look_here-looked.ensures.stands ∙ c.requires.own

pub add-requires-clause-top : goal.add-requires-clause-top
add-requires-clause-top g c =
    let s = seen c.args.cursor.now in
    let u = update_of c.args.update.now in
    let own = own_of u (told s).intent c.requires.own in
    let place = is_at s own.intent own.is in
    let stands = c.look_here-looked.ensures.stands in
    plan-top (history_in s.store) 0 u c.in_ok-plan.plan c.requires.formed.valid place.key
    (subst (λ t. IsKeyPlan (history_in t.store) place.key u c.in_ok-plan.plan) stands (c.in_ok-plan.ensures place.key (ap (λ t. t.at) stands ∙ place.at)))

pub add-requires-clause-left : goal.add-requires-clause-left
add-requires-clause-left g c =
    let s = seen c.args.cursor.now in
    let u = update_of c.args.update.now in
    let own = own_of u (told s).intent c.requires.own in
    let place = is_at s own.intent own.is in
    let stands = c.look_here-looked.ensures.stands in
    plan-left (history_in s.store) 0 u c.in_ok-plan.plan c.requires.formed.valid place.key
    (subst (λ t. IsKeyPlan (history_in t.store) place.key u c.in_ok-plan.plan) stands (c.in_ok-plan.ensures place.key (ap (λ t. t.at) stands ∙ place.at)))

pub returns-clause-gathered : goal.returns-clause-gathered
returns-clause-gathered g c last ds key at gathered =
    let s = seen c.args.cursor.now in
    let u = update_of c.args.update.now in
    let stands = c.look_here-looked.ensures.stands in
    c.in_ok-add.ensures (history_in s.store) last u ds key c.requires.formed.valid gathered
    (subst (λ t. IsKeyPlan (history_in t.store) key u c.in_ok-plan.plan) stands (c.in_ok-plan.ensures key (ap (λ t. t.at) stands ∙ at)))
