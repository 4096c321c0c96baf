use Rattle.std.proofs.Common.{◌≡◌, ◌<◌, length, get_or, sym, subst, ◌∙◌, arith}
use Rattle.std.specs.Prelude.{IsTrue}
use Rattle.std.proofs.lemmas.List.{map-set, get_or-map, length-map}
use Rattle.merge_cursor.specs.views.Moves.{moved, takes_look, looks_of}
use Rattle.merge_cursor.specs.views.Standing.{Standing, standing, standings}
use Rattle.merge_cursor.proofs.MoveLaws.{changed_more, some_more, looks_more}
use Rattle.merge_cursor.proofs.moves.move_all.Goals as goal

pub loop-part-preserved : goal.loop-part-preserved
loop-part-preserved g c =
    let all = standings g.C.Cursor.points g.C.Cursor.place g.C.Cursor.is_part in
    let seen = standing g.C.Cursor.points g.C.Cursor.place g.C.Cursor.is_part in
    let to = c.args.to in
    let parts = c.loop-part.parts in
    let i = c.loop-part.part-index in
    let x = get_or c.loop-part.parts c.loop-part.part-index c.part-item.result in
    let new = c.move_part.new.part in
    let e = c.move_part.ensures in
    let inv = c.loop-part.invariant in
    let start = all c.args.parts.now in
    let lt : i < length start = omega (arith, length-map c.args.parts.now seen) in
    let under : i < length parts = omega (arith, c.loop-part.auto.parts) in
    let at : seen x ≡ get_or (all parts) i (seen x) = sym (get_or-map seen parts i c.part-item.result (seen x) under) in
    let more = changed_more (moved to) start (all parts) i (seen x) (seen new) lt inv.parts at e.part in
    record {
      parts = map-set seen parts i new ∙ more.0;
      some = some_more (λ s. takes_look to s.points s.place) start i (seen x) _ c.loop-part.looks c.move_part.new.looks lt more.1 inv.some inv.later e.later e.some;
      later = omega (arith, inv.later, e.later);
      looks = λ parts_all. looks_more (λ s. looks_of to s.points) start i (seen x) _ c.loop-part.looks c.move_part.new.looks lt more.1 (inv.looks parts_all)
          (e.looks (let P : Standing → Type 0 = λ s. IsTrue s.is_part in subst P (sym more.1) (parts_all i (seen x) lt)));
    }
