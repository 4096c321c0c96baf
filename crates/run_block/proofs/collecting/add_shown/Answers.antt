use Rattle.std.proofs.Common.{◌≡◌, ◌+◌, ◌-◌, ℕ, subst, ◌∙◌, arith}
use Rattle.run_block.proofs.AddingLaws.{IsAdding, IsAdding-more, IsAdding-last}
use Rattle.run_block.proofs.ShownLaws.{shown, none-shown, next_place}
use Rattle.run_block.proofs.collecting.add_shown.Goals as goal

pub add_point-requires-clause-name : goal.add_point-requires-clause-name
add_point-requires-clause-name g c =
    let h = c.loop-key.invariant in
    (shown (g.C.Cursor.points c.args.cursor.now) (g.C.Cursor.points c.loop-key.cursor) (g.C.Cursor.place c.loop-key.cursor) c.in-Some.key.now _ h.same c.requires.stored h.some
    c.in-Some.ensures c.value.ensures).name

pub add_point-requires-clause-short : goal.add_point-requires-clause-short
add_point-requires-clause-short g c =
    let h = c.loop-key.invariant in
    (shown (g.C.Cursor.points c.args.cursor.now) (g.C.Cursor.points c.loop-key.cursor) (g.C.Cursor.place c.loop-key.cursor) c.in-Some.key.now _ h.same c.requires.stored h.some
    c.in-Some.ensures c.value.ensures).short

pub add_point-requires-clause-value : goal.add_point-requires-clause-value
add_point-requires-clause-value g c =
    let h = c.loop-key.invariant in
    (shown (g.C.Cursor.points c.args.cursor.now) (g.C.Cursor.points c.loop-key.cursor) (g.C.Cursor.place c.loop-key.cursor) c.in-Some.key.now _ h.same c.requires.stored h.some
    c.in-Some.ensures c.value.ensures).fits

pub loop-key-smaller : goal.loop-key-smaller
loop-key-smaller g c =
    let h = c.loop-key.invariant in
    let points = g.C.Cursor.points c.args.cursor.now in
    let here = g.C.Cursor.points c.loop-key.cursor in
    let place = g.C.Cursor.place c.loop-key.cursor in
    let s = shown (g.C.Cursor.points c.args.cursor.now) (g.C.Cursor.points c.loop-key.cursor) (g.C.Cursor.place c.loop-key.cursor) c.in-Some.key.now _ h.same c.requires.stored h.some
    c.in-Some.ensures c.value.ensures in
    let next = next_place (g.C.Cursor.points c.args.cursor.now) (g.C.Cursor.points c.loop-key.cursor) (g.C.Cursor.place c.loop-key.cursor) (g.C.Cursor.place c.next-in-Some.new.cursor)
    h.same h.some s.within c.next-in-Some.ensures.place in
    let within = s.within in
    let some = h.some in
    omega arith

pub loop-key-preserved : goal.loop-key-preserved
loop-key-preserved g c =
    let h = c.loop-key.invariant in
    let s = shown (g.C.Cursor.points c.args.cursor.now) (g.C.Cursor.points c.loop-key.cursor) (g.C.Cursor.place c.loop-key.cursor) c.in-Some.key.now _ h.same c.requires.stored h.some
    c.in-Some.ensures c.value.ensures in
    let next = next_place (g.C.Cursor.points c.args.cursor.now) (g.C.Cursor.points c.loop-key.cursor) (g.C.Cursor.place c.loop-key.cursor) (g.C.Cursor.place c.next-in-Some.new.cursor)
    h.same h.some s.within c.next-in-Some.ensures.place in
    let some = h.some in
    let done : g.C.Cursor.place c.loop-key.cursor - 1 + 1 ≡ g.C.Cursor.place c.next-in-Some.new.cursor - 1 = omega arith in
    record {
      same = c.next-in-Some.ensures.same ∙ h.same;
      some = omega arith;
      adding = subst (λ (n : ℕ). IsAdding (g.C.Cursor.points c.args.cursor.now) n c.args.out.now.items c.add_point.new.out.items c.add_point.new.index) done
          (IsAdding-more (g.C.Cursor.points c.args.cursor.now) (g.C.Cursor.place c.loop-key.cursor - 1) c.args.out.now.items c.loop-key.out.items c.add_point.new.out.items c.loop-key.index
          c.add_point.new.index _ h.adding s.more
          c.in_ok-add_point.ensures.items c.in_ok-add_point.ensures.index c.in_ok-add_point.ensures.points c.in_ok-add_point.ensures.behind c.in_ok-add_point.ensures.ranges);
    }

pub returns-clause-items : goal.returns-clause-items
returns-clause-items g c =
    let h = c.loop-key.invariant in
    let points = g.C.Cursor.points c.args.cursor.now in
    let done = none-shown (g.C.Cursor.points c.args.cursor.now) (g.C.Cursor.points c.loop-key.cursor) (g.C.Cursor.place c.loop-key.cursor) h.same h.some c.in_default.ensures in
    (IsAdding-last (g.C.Cursor.points c.args.cursor.now) (g.C.Cursor.place c.loop-key.cursor - 1) c.args.out.now.items c.loop-key.out.items c.loop-key.index h.adding done).items

pub returns-clause-points : goal.returns-clause-points
returns-clause-points g c =
    let h = c.loop-key.invariant in
    let done = none-shown (g.C.Cursor.points c.args.cursor.now) (g.C.Cursor.points c.loop-key.cursor) (g.C.Cursor.place c.loop-key.cursor) h.same h.some c.in_default.ensures in
    (IsAdding-last (g.C.Cursor.points c.args.cursor.now) (g.C.Cursor.place c.loop-key.cursor - 1) c.args.out.now.items c.loop-key.out.items c.loop-key.index h.adding done).points_are
