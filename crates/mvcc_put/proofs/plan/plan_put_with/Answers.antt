-- A cursor over the store plans a write of the store's history.
use Rattle.std.specs.Prelude.{◌≡◌}
use Rattle.std.proofs.Common.{sym, ap}
use Rattle.mvcc_key.specs.History.{History, versions_of, intent_of}
use Rattle.write_rule.specs.views.Seen.{request_of}
use Rattle.mvcc_cursor.specs.WellFormed.{history_in}
use Rattle.mvcc_cursor.specs.views.Seen.{seen}
use Rattle.mvcc_put.proofs.PlanLaws.{plans-answers}
use Rattle.mvcc_put.proofs.plan.plan_put_with.Goals as goal

pub returns-clause-outcome : goal.returns-clause-outcome
returns-clause-outcome g c =
    let h = history_in c.args.store.now in
    let key = c.args.key.now in
    let same : h ≡ history_in (seen c.in_ok-cursor.cursor).store = ap (λ s. history_in s.store) (sym c.in_ok-cursor.ensures) in
    plans-answers c.planned_at-planned.result h c.args.last key (request_of c.args.request.now)
    (c.planned_at-planned.ensures.outcome h c.requires.formed.valid c.requires.by
    (record { versions = ap (versions_of key) same; intent = ap (intent_of key) same }) (ap (λ (f : History). f.tombstones) same))
