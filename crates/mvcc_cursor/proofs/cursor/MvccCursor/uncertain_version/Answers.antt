-- The walk over the versions of the window.
use Rattle.std.proofs.Common.{◌≡◌, true, false, sym, subst, ◌∙◌, refl, arith}
use Rattle.std.specs.Prelude.{◌||◌}
use Rattle.mvcc_key.specs.Order.{is_no_time, is_up_to}
use Rattle.mvcc_key.specs.views.Seen.{time_of}
use Rattle.intent_meta.specs.views.Lent.{seen_times}
use Rattle.mvcc_cursor.specs.views.Lent.{seen_version}
use Rattle.mvcc_cursor.specs.views.Seen.{seen}
use Rattle.mvcc_cursor.proofs.UncertainLaws.{earlier, earlier-is, as-told, window-empty, above-timed, walk-starts, walk-goes, walk-ends, walk-low, walk-finds, walk-none}
use Rattle.mvcc_cursor.proofs.cursor.MvccCursor.uncertain_version.Goals.{then-is_none-via-then-is_none, then-is_none-via-else-is_none+then-is_le-3}
use Rattle.mvcc_cursor.proofs.cursor.MvccCursor.uncertain_version.Goals as goal

pub returns-then-is_le-clause-value : goal.returns-then-is_le-clause-value
returns-then-is_le-clause-value g c =
    (let above = time_of c.args.above in
    let limit = time_of c.args.limit in
    let newest = c.in_ok-newest.field-0 in
    let from : time_of c.min-from.result ≡ earlier (time_of newest.ts) limit = earlier-is newest.ts c.args.limit c.min-from.result c.min-from.ensures in
    let low : is_up_to (time_of c.min-from.result) above ≡ true = as-told (time_of c.min-from.result) above c.compare.result c.is_le.result true c.compare.ensures c.is_le.ensures c.if-is_le.true in
    sym (window-empty above limit (time_of c.args.local_limit) c.args.self.now (seen c.restart.new.self) c.restart.ensures.anew (seen_version newest) c.in_ok-newest.ensures
    (subst (λ t. is_up_to t above ≡ true) from low)))

pub seek_version-requires : goal.seek_version-requires
seek_version-requires g c =
    above-timed (time_of c.args.above) (time_of c.min-from.result)
    (as-told (time_of c.min-from.result) (time_of c.args.above) c.compare.result c.is_le.result false c.compare.ensures c.is_le.ensures c.if-is_le.false)

pub loop-ts-init : goal.loop-ts-init
loop-ts-init g c =
    (let newest = c.in_ok-newest.field-0 in
    record {
      walked =
          walk-starts (time_of c.args.above) (time_of c.args.limit) (time_of c.args.local_limit) c.args.self.now (seen c.restart.new.self) c.restart.ensures.anew (seen_version newest) c.in_ok-newest.ensures
          c.seek_version.new.self (time_of c.min-from.result) (earlier-is newest.ts c.args.limit c.min-from.result c.min-from.ensures)
          (above-timed (time_of c.args.above) (time_of c.min-from.result)
          (as-told (time_of c.min-from.result) (time_of c.args.above) c.compare.result c.is_le.result false c.compare.ensures c.is_le.ensures c.if-is_le.false))
          c.seek_version.ensures.anew c.seek_version.ensures.given c.seek_version.ensures.sought c.seek_version.ensures.version;
      later = c.seek_version.ensures.later;
    })

pub returns-then-is_le-2-clause-value : goal.returns-then-is_le-2-clause-value
returns-then-is_le-2-clause-value g c =
    walk-low (time_of c.args.above) (time_of c.args.limit) (time_of c.args.local_limit) c.args.self.now c.loop-ts.self c.loop-ts.invariant.walked
    (seen_times (c.in-Some.ts, c.in-Some.local)) c.in-Some.ensures
    (as-told (time_of c.in-Some.ts) (time_of c.args.above) c.compare-in-Some.result c.is_le-in-Some.result true c.compare-in-Some.ensures c.is_le-in-Some.ensures c.if-is_le-2.true)

pub returns-then-is_none-clause-value : goal.returns-then-is_none-clause-value
returns-then-is_none-clause-value g c =
    (let limit = time_of c.args.local_limit in
    let local = time_of c.in-Some.local in
    let early : (is_no_time limit || is_up_to local limit) ≡ true =
    elim c.then-is_none.branch [
      | then-is_none-via-then-is_none w ↦ (let none : is_no_time limit ≡ true = sym c.is_none.ensures ∙ w.if-is_none.true in rw none refl)
      | then-is_none-via-else-is_none+then-is_le-3 w ↦
          (let none : is_no_time limit ≡ false = sym c.is_none.ensures ∙ w.if-is_none.false in
          let up : is_up_to local limit ≡ true = as-told local limit w.compare-else-is_none.result w.is_le-else-is_none.result true w.compare-else-is_none.ensures w.is_le-else-is_none.ensures w.if-is_le-3.true in
          rw (none, up) refl)
    ] in
    walk-finds (time_of c.args.above) (time_of c.args.limit) limit c.args.self.now c.loop-ts.self c.loop-ts.invariant.walked
    (seen_times (c.in-Some.ts, c.in-Some.local)) c.in-Some.ensures
    (as-told (time_of c.in-Some.ts) (time_of c.args.above) c.compare-in-Some.result c.is_le-in-Some.result false c.compare-in-Some.ensures c.is_le-in-Some.ensures c.if-is_le-2.false)
    early)

pub loop-ts-smaller : goal.loop-ts-smaller
loop-ts-smaller g c =
    walk-ends (time_of c.args.above) (time_of c.args.limit) (time_of c.args.local_limit) c.args.self.now c.loop-ts.self c.pass_version.new.self c.loop-ts.invariant.walked
    c.pass_version.ensures.seen c.pass_version.ensures.same_stored c.pass_version.ensures.same_sought c.pass_version.ensures.place
    (seen_times (c.in-Some.ts, c.in-Some.local)) c.in-Some.ensures

pub loop-ts-preserved : goal.loop-ts-preserved
loop-ts-preserved g c =
    (let limit = time_of c.args.local_limit in
    let local = time_of c.in-Some.local in
    let none : is_no_time limit ≡ false = sym c.is_none.ensures ∙ c.if-is_none.false in
    let up : is_up_to local limit ≡ false = as-told local limit c.compare-else-is_none.result c.is_le-else-is_none.result false c.compare-else-is_none.ensures c.is_le-else-is_none.ensures c.if-is_le-3.false in
    let late : (is_no_time limit || is_up_to local limit) ≡ false = rw (none, up) refl in
    record {
      walked =
          walk-goes (time_of c.args.above) (time_of c.args.limit) limit c.args.self.now c.loop-ts.self c.pass_version.new.self c.loop-ts.invariant.walked
          c.pass_version.ensures.seen c.pass_version.ensures.same_stored c.pass_version.ensures.same_sought c.pass_version.ensures.place c.pass_version.ensures.given
          (seen_times (c.in-Some.ts, c.in-Some.local)) c.in-Some.ensures late;
      later = omega (arith, c.loop-ts.invariant.later, c.pass_version.ensures.later);
    })

pub returns-clause-value : goal.returns-clause-value
returns-clause-value g c =
    walk-none (time_of c.args.above) (time_of c.args.limit) (time_of c.args.local_limit) c.args.self.now c.loop-ts.self c.loop-ts.invariant.walked c.times_here.result c.in_default.is c.times_here.ensures
