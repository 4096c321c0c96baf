-- Each key is planned as it was, and what is gathered is the change of all.
use Rattle.std.specs.Prelude.{◌≡◌, ℕ, ◌≤◌, ◌<◌, ◌+◌, max, List, ◌++◌, ◌∷◌, [], take, drop, Ok, Err}
use Rattle.std.specs.List.Sorted.{IsStrictlySortedBy}
use Rattle.std.proofs.Common.{refl, sym, ap, subst, ◌∙◌, arith}
use Rattle.std.proofs.lemmas.List.{take_more, take_all}
use Rattle.std.proofs.lemmas.Result.{err_from_is_err_and}
use Rattle.mvcc_key.specs.Order.{Timestamp, Key, key_cmp}
use Rattle.mvcc_key.specs.views.Seen.{time_of}
use Rattle.txn_state.specs.Transaction.{write_time}
use Rattle.txn_state.specs.views.Seen.{actor_of}
use Rattle.stat_delta.proofs.MomentLaws.{stored_later}
use Rattle.write_rule.specs.views.Seen.{request_of, refusal_of, Tells}
use Rattle.mvcc_cursor.specs.WellFormed.{history_in}
use Rattle.mvcc_cursor.specs.views.Seen.{seen}
use Rattle.mvcc_put.specs.DeleteRange.{delete_each}
use Rattle.mvcc_put.specs.PlannedDeletes.{ArePlannedDeletes}
use Rattle.mvcc_put.proofs.DeleteLaws.{IsGathered, request-deletes, at-key, before-differ, gathered-none, gathered-more, plans-next, refused-next, gathered-change}
use Rattle.mvcc_put.proofs.deletes.plan_each.Goals as goal

pub loop-key-init : goal.loop-key-init
loop-key-init g c =
    let now = c.moment_at-later.result in
    let h = history_in c.args.store.now in
    let up : c.args.last ≤ now = (let is = c.moment_at-later.ensures.moment in omega (arith, is)) in
    record {
      over = ap (λ s. s.store) c.in_ok-cursor.ensures;
      gathered = gathered-none h now (actor_of c.args.request.now.who) (time_of c.args.request.now.local) c.new-gathered.result c.requires.formed.valid
          (stored_later c.args.last now h up c.requires.by) c.new-gathered.ensures.batch c.new-gathered.ensures.delta;
    }

pub returns-in_err-change : goal.returns-in_err-change
returns-in_err-change g c =
    let h = history_in c.args.store.now in
    let keys = c.args.keys.now in
    let i = c.loop-key.key-index in
    let key = c.bytes.result.now in
    let who = actor_of c.args.request.now.who in
    let local = time_of c.args.request.now.local in
    let why = c.in_err-change.field-0.0 in
    let same : h ≡ history_in (seen c.loop-key.cursor).store = ap history_in (sym c.loop-key.invariant.over) in
    let here = c.bytes.ensures ∙ c.key-item.is in
    let parts = at-key keys i key c.key-item.result c.loop-key-test.true here in
    let differ = before-differ (take i keys) key (drop (i + 1) keys) (subst (IsStrictlySortedBy key_cmp) parts c.requires.rising) in
    let gathered = c.loop-key.invariant.gathered in
    let tells = plans-next h (history_in (seen c.loop-key.cursor).store) c.moment_at-later.result who local (take i keys) c.loop-key.gathered gathered (Err why) key (request_of c.args.request.now) same
    (request-deletes c.args.request.now c.requires.kind) differ c.in_err-change.ensures.outcome in
    let p = err_from_is_err_and c.from_residual-in_err-change.result c.from_residual-in_err-change.ensures.1 in
    rw (p.1, p.2)
    (subst (λ ks. Tells (refusal_of why) (delete_each who local h ks)) (sym parts)
    (refused-next h c.moment_at-later.result who local (take i keys) (drop (i + 1) keys) c.loop-key.gathered gathered key why tells))

pub loop-key-preserved : goal.loop-key-preserved
loop-key-preserved g c =
    let h = history_in c.args.store.now in
    let keys = c.args.keys.now in
    let i = c.loop-key.key-index in
    let key = c.bytes.result.now in
    let now = c.moment_at-later.result in
    let who = actor_of c.args.request.now.who in
    let local = time_of c.args.request.now.local in
    let same : h ≡ history_in (seen c.loop-key.cursor).store = ap history_in (sym c.loop-key.invariant.over) in
    let here = c.bytes.ensures ∙ c.key-item.is in
    let parts = at-key keys i key c.key-item.result c.loop-key-test.true here in
    let differ = before-differ (take i keys) key (drop (i + 1) keys) (subst (IsStrictlySortedBy key_cmp) parts c.requires.rising) in
    let gathered = c.loop-key.invariant.gathered in
    let plan = plans-next h (history_in (seen c.loop-key.cursor).store) now who local (take i keys) c.loop-key.gathered gathered (Ok (c.in_ok-change.change, c.in_ok-change.field-0-1)) key
    (request_of c.args.request.now) same (request-deletes c.args.request.now c.requires.kind) differ c.in_ok-change.ensures.outcome in
    let low : (write_time who).wall ≤ now = (let is = c.moment_at-later.ensures.moment ∙ ap (λ (t : Timestamp). max c.args.last t.wall) c.write_time.ensures in omega (arith, is)) in
    record {
      over = c.planned_at.ensures.over ∙ c.loop-key.invariant.over;
      gathered = subst (λ ks. IsGathered h now who local ks c.add.new.self) (sym (take_more keys i c.key-item.result c.loop-key-test.true ∙ ap (λ (k : Key). take i keys ++ k ∷ []) (sym here)))
          (gathered-more h now who local (take i keys) c.loop-key.gathered gathered key c.in_ok-change.change c.in_ok-change.field-0-1 plan c.add.new.self low
          c.in_ok-add.ensures.points c.in_ok-add.ensures.ranges c.in_ok-add.ensures.delta);
    }

pub returns : goal.returns
returns g c =
    let h = history_in c.args.store.now in
    let now = c.moment_at-later.result in
    let keys = c.args.keys.now in
    let all : take c.loop-key.key-index keys ≡ keys = take_all c.loop-key.key-index keys (let end = c.loop-key-test.false in omega (arith, end)) in
    let who = actor_of c.args.request.now.who in
    let local = time_of c.args.request.now.local in
    subst (λ ks. ArePlannedDeletes h c.args.last who local ks c.into_change.result) all
    (gathered-change h c.args.last now who local (take c.loop-key.key-index keys) c.loop-key.gathered c.requires.by (c.moment_at-later.ensures.moment ∙ ap (λ (t : Timestamp). max c.args.last t.wall) c.write_time.ensures)
    c.loop-key.invariant.gathered c.into_change.result c.into_change.result.batch_is_taken c.into_change.ensures.batch c.into_change.ensures.delta c.into_change.ensures.moment)
