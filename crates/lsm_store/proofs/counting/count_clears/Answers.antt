use Rattle.std.proofs.Common.{◌≡◌, ℕ, ◌+◌, ◌<◌, ◌≤◌, Bool, true, false, cond, length, sym, ap, ◌∙◌, arith}
use Rattle.lsm_store.proofs.LayoutLaws.{clears-more, clears-all}
use Rattle.lsm_store.proofs.counting.count_clears.Goals as goal
use Rattle.lsm_store.proofs.counting.count_clears.Goals.{then-is_none, else-is_none}

-- at most one more
few-more : (b : Bool) (before after n : ℕ) → after ≡ before + cond b 1 0 → before ≤ n → after ≤ n + 1
few-more true before after n more few = omega arith
few-more false before after n more few = omega arith

-- none more
no-more : (b : Bool) (n : ℕ) → b ≡ false → n ≡ n + cond b 1 0
no-more true n h = absurd cc
no-more false n h = omega arith

pub loop-preserved : goal.loop-preserved
loop-preserved g c =
    let points = c.next.ensures.same ∙ c.loop.invariant.points in
    let len : length (g.C.Cursor.points c.loop.cursor) ≡ c.args.count = ap length c.loop.invariant.points ∙ sym c.requires.count in
    let within : c.loop.counter < length (g.C.Cursor.points c.args.cursor.now) = omega (arith, c.loop-test.true, c.requires.count) in
    let place : g.C.Cursor.place c.next.new.cursor ≡ c.loop.counter + 1 = omega (arith, c.next.ensures.place, c.loop.invariant.place, len, c.loop-test.true) in
    let more : c.if-is_none.clears ≡ c.loop.clears + cond c.is_none.result 1 0 =
    elim c.if-is_none.branch [
      | then-is_none w ↦ w.clears-is ∙ ap (λ (b : Bool). c.loop.clears + cond b 1 0) (sym w.if-is_none.true)
      | else-is_none w ↦ w.clears-is ∙ no-more c.is_none.result c.loop.clears w.if-is_none.false
    ] in
    record {
      points = points;
      place = place;
      clears = clears-more _ _ (g.C.Cursor.place c.next.new.cursor) c.loop.counter c.loop.clears c.if-is_none.clears c.value.result c.is_none.result within points place
          c.value.ensures c.is_none.ensures c.loop.invariant.clears more;
      few = few-more c.is_none.result c.loop.clears c.if-is_none.clears c.loop.counter more c.loop.invariant.few;
    }

pub returns : goal.returns
returns g c = c.loop.invariant.clears ∙ clears-all (g.C.Cursor.points c.args.cursor.now) c.loop.counter (omega (arith, c.loop-test.false, c.requires.count))
