-- Each key is met in turn.
use Rattle.std.proofs.Common.{refl, sym, subst, ◌∙◌}
use Rattle.read_rule.specs.views.Decided.{request_of}
use Rattle.mvcc_cursor.specs.views.Seen.{seen}
use Rattle.mvcc_scan.specs.views.Seen.{limits_of}
use Rattle.mvcc_scan.specs.views.Walking.{bounds_of, ahead}
use Rattle.mvcc_scan.proofs.WalkingLaws.{HasMet, walking-ends, walking-stops, walking-goes_on}
use Rattle.mvcc_scan.proofs.walk.walk_keys.Goals as goal

pub loop-alloc-init : goal.loop-alloc-init
loop-alloc-init g c = record { store_is = refl; way = c.requires; t = _; taken = c.nothing-taken.ensures; rest = refl }

pub returns-in-Some : goal.returns-in-Some
returns-in-Some g c =
    let s = seen c.loop-alloc.cursor in
    let r = request_of c.args.request.now in
    let l = limits_of c.args.limits.now in
    walking-stops (bounds_of c.args.bounds) (seen c.args.cursor.now).store r l (ahead (bounds_of c.args.bounds) (seen c.args.cursor.now)) s c.loop-alloc.taken c.loop-alloc.invariant
    (sym (c.is_inside.ensures c.loop-alloc.invariant.way) ∙ c.loop-alloc-test.true) c.in-Some.stop c.meet.new.self
    (subst (λ o. HasMet r l s c.loop-alloc.taken o c.meet.new.self) c.in-Some.is c.in_ok-stop.ensures.met)

pub loop-alloc-smaller : goal.loop-alloc-smaller
loop-alloc-smaller g c =
    let s = seen c.loop-alloc.cursor in
    let r = request_of c.args.request.now in
    let l = limits_of c.args.limits.now in
    (walking-goes_on (bounds_of c.args.bounds) (seen c.args.cursor.now).store r l (ahead (bounds_of c.args.bounds) (seen c.args.cursor.now)) s c.loop-alloc.taken c.loop-alloc.invariant
    (sym (c.is_inside.ensures c.loop-alloc.invariant.way) ∙ c.loop-alloc-test.true) c.meet.new.self
    (subst (λ o. HasMet r l s c.loop-alloc.taken o c.meet.new.self) c.in_default.is c.in_ok-stop.ensures.met)
    (seen c.meet.new.cursor) (seen c.go_on.new.cursor) c.in_ok-stop.ensures.place c.go_on.ensures.store (λ key keys way is. c.go_on.ensures.next (bounds_of c.args.bounds) key keys refl way is)).less

pub loop-alloc-preserved : goal.loop-alloc-preserved
loop-alloc-preserved g c =
    let s = seen c.loop-alloc.cursor in
    let r = request_of c.args.request.now in
    let l = limits_of c.args.limits.now in
    (walking-goes_on (bounds_of c.args.bounds) (seen c.args.cursor.now).store r l (ahead (bounds_of c.args.bounds) (seen c.args.cursor.now)) s c.loop-alloc.taken c.loop-alloc.invariant
    (sym (c.is_inside.ensures c.loop-alloc.invariant.way) ∙ c.loop-alloc-test.true) c.meet.new.self
    (subst (λ o. HasMet r l s c.loop-alloc.taken o c.meet.new.self) c.in_default.is c.in_ok-stop.ensures.met)
    (seen c.meet.new.cursor) (seen c.go_on.new.cursor) c.in_ok-stop.ensures.place c.go_on.ensures.store (λ key keys way is. c.go_on.ensures.next (bounds_of c.args.bounds) key keys refl way is)).walking

pub returns : goal.returns
returns g c =
    walking-ends (bounds_of c.args.bounds) (seen c.args.cursor.now).store (request_of c.args.request.now) (limits_of c.args.limits.now) (ahead (bounds_of c.args.bounds) (seen c.args.cursor.now))
    (seen c.loop-alloc.cursor) c.loop-alloc.taken c.loop-alloc.invariant (sym (c.is_inside.ensures c.loop-alloc.invariant.way) ∙ c.loop-alloc-test.false)
