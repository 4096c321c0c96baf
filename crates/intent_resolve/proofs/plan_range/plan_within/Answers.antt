-- The intents of the span are gathered one after another, each behind those before it.
use Rattle.std.specs.Prelude.{Err}
use Rattle.std.proofs.Common.{refl, sym, ap, subst, ◌∙◌}
use Rattle.std.proofs.lemmas.Result.{err_from_is_err_and}
use Rattle.mvcc_cursor.specs.WellFormed.{history_in}
use Rattle.mvcc_cursor.specs.views.Seen.{seen}
use Rattle.intent_resolve.specs.Planned.{AnswersRange}
use Rattle.intent_resolve.specs.views.Seen.{update_of}
use Rattle.intent_resolve.proofs.GatheringLaws.{gathering-begins, gathering-goes_on, gathering-refused, gathering-ends, gathering-fills}
use Rattle.intent_resolve.proofs.WalkLaws.{seek-stands, next-stands}
use Rattle.intent_resolve.proofs.plan_range.plan_within.Goals as goal
use Rattle.intent_resolve.proofs.plan_range.plan_within.Goals.{then-loop-found-test+else-has_room, else-loop-found-test}

pub come_to_own-found-requires-clause-stands : goal.come_to_own-found-requires-clause-stands
come_to_own-found-requires-clause-stands g c = seek-stands (seen c.in_ok-cursor.cursor) (seen c.seek_key.new.self) _ c.seek_key.ensures.key

pub loop-found-init : goal.loop-found-init
loop-found-init g c =
    gathering-begins (update_of c.args.update.now) c.args.bounds.0.now c.args.bounds.1.now c.args.store.now c.args.last c.args.max c.requires.formed c.requires.good
    (seen c.in_ok-cursor.cursor) (seen c.seek_key.new.self) (seen c.come_to_own-found.new.cursor) c.new-gathered.result c.come_to_own-found.result
    c.in_ok-cursor.ensures c.seek_key.ensures.key c.come_to_own-found.ensures (c.new-gathered.ensures (history_in c.args.store.now) (update_of c.args.update.now) refl)

pub gather_here-requires-clause-fresh : goal.gather_here-requires-clause-fresh
gather_here-requires-clause-fresh g c = c.loop-found.invariant.stands.fresh

pub gather_here-requires-clause-own : goal.gather_here-requires-clause-own
gather_here-requires-clause-own g c = (c.loop-found.invariant.at_own c.loop-found-test.true).own

pub returns-in_err-gather_here : goal.returns-in_err-gather_here
returns-in_err-gather_here g c =
    let store = c.args.store.now in
    let u = update_of c.args.update.now in
    let p = err_from_is_err_and c.from_residual-in_err-gather_here.result c.from_residual-in_err-gather_here.ensures.1 in
    subst (λ r. AnswersRange r (history_in store) c.args.last c.args.bounds.0.now c.args.bounds.1.now u c.args.max) (sym (p.1 ∙ ap Err p.2))
    (gathering-refused u c.args.bounds.0.now c.args.bounds.1.now store c.args.last c.args.max c.requires.formed c.requires.good
    (seen c.loop-found.cursor) c.loop-found.gathered c.loop-found.found c.in_err-gather_here.field-0.0 c.loop-found-test.true c.loop-found.invariant
    (sym c.has_room.ensures ∙ c.if-has_room.true) (c.in_err-gather_here.ensures.gathered c.args.last))

pub come_to_own-found-requires-in-loop-found-clause-stands : goal.come_to_own-found-requires-in-loop-found-clause-stands
come_to_own-found-requires-in-loop-found-clause-stands g c = next-stands (seen c.gather_here.new.cursor) (seen c.next_key.new.self) c.next_key.ensures.key

pub loop-found-smaller : goal.loop-found-smaller
loop-found-smaller g c =
    (gathering-goes_on (update_of c.args.update.now) c.args.bounds.0.now c.args.bounds.1.now c.args.store.now c.args.last c.args.max c.requires.formed c.requires.good
    (seen c.loop-found.cursor) (seen c.gather_here.new.cursor) (seen c.next_key.new.self) (seen c.come_to_own-found-in-loop-found.new.cursor)
    c.loop-found.gathered c.gather_here.new.gathered c.loop-found.found c.come_to_own-found-in-loop-found.result c.loop-found-test.true c.loop-found.invariant
    (sym c.has_room.ensures ∙ c.if-has_room.true) c.in_ok-gather_here.ensures.stands (c.in_ok-gather_here.ensures.gathered c.args.last)
    c.next_key.ensures.key c.come_to_own-found-in-loop-found.ensures).less

pub loop-found-preserved : goal.loop-found-preserved
loop-found-preserved g c =
    (gathering-goes_on (update_of c.args.update.now) c.args.bounds.0.now c.args.bounds.1.now c.args.store.now c.args.last c.args.max c.requires.formed c.requires.good
    (seen c.loop-found.cursor) (seen c.gather_here.new.cursor) (seen c.next_key.new.self) (seen c.come_to_own-found-in-loop-found.new.cursor)
    c.loop-found.gathered c.gather_here.new.gathered c.loop-found.found c.come_to_own-found-in-loop-found.result c.loop-found-test.true c.loop-found.invariant
    (sym c.has_room.ensures ∙ c.if-has_room.true) c.in_ok-gather_here.ensures.stands (c.in_ok-gather_here.ensures.gathered c.args.last)
    c.next_key.ensures.key c.come_to_own-found-in-loop-found.ensures).gathering

pub returns : goal.returns
returns g c =
    let u = update_of c.args.update.now in
    elim c.loop-found-test.branch [
      | then-loop-found-test+else-has_room w ↦
          gathering-fills u c.args.bounds.0.now c.args.bounds.1.now c.args.store.now c.args.last c.args.max c.requires.formed c.requires.good c.fits_time.ensures c.requires.by
          (seen c.loop-found.cursor) c.loop-found.gathered c.into_change.result (c.into_change.ensures (history_in c.args.store.now) c.args.last u)
          _ c.loop-found.found c.loop-found.invariant c.in_ok-resume.ensures w.loop-found-test.true (sym w.has_room.ensures ∙ w.if-has_room.false)
      | else-loop-found-test w ↦
          gathering-ends u c.args.bounds.0.now c.args.bounds.1.now c.args.store.now c.args.last c.args.max c.requires.formed c.requires.good c.fits_time.ensures c.requires.by
          (seen c.loop-found.cursor) c.loop-found.gathered c.into_change.result (c.into_change.ensures (history_in c.args.store.now) c.args.last u)
          _ c.loop-found.found c.loop-found.invariant c.in_ok-resume.ensures w.loop-found-test.false
    ]
