use Rattle.std.proofs.Common.{◌≡◌, ◌≤◌, ◌+◌, ◌-◌, ℕ, List, length, take, refl, ap, subst, ◌∙◌, arith}
use Rattle.mvcc_key.specs.Points.{Point, point_at}
use Rattle.merge_cursor.specs.Merged.{entries_before}
use Rattle.merge_cursor.specs.views.Seen.{shown_points, shown_place}
use Rattle.merge_cursor.specs.Visible.{visible}
use Rattle.merge_cursor.proofs.VisibleLaws.{skipped}
use Rattle.merge_cursor.proofs.visible.skip_on.Goals as goal

pub loop-merged-preserved : goal.loop-merged-preserved
loop-merged-preserved g c =
    let points = shown_points g.C.Cursor.points g.C.Cursor.place g.C.Cursor.is_part in
    let place = shown_place g.C.Cursor.points g.C.Cursor.place g.C.Cursor.is_part in
    let start = points c.args.merged.now in
    let m = c.loop-merged.merged in
    let n = c.next.new.self in
    let inv = c.loop-merged.invariant in
    let e = c.next.ensures.moves in
    let p = c.next.ensures.parts in
    let inside = c.loop-merged-test.ensures.inside refl in
    let low = inside.0 in
    let high = inside.1 in
    let step = e.place in
    let next : place n ≡ place m + 1 = omega arith in
    let back : place n - 1 ≡ place m = omega arith in
    let same : length (visible (take (place m) start)) ≡ length (visible (take (place m - 1) start)) =
    subst (λ (ps : List Point). length (visible (take (place m) ps)) ≡ length (visible (take (place m - 1) ps))) inv.same
    (skipped (points m) (place m) low high (c.loop-merged-test.ensures.cleared refl)) in
    record {
      same = e.same ∙ inv.same;
      some = omega arith;
      kept = ap (λ (k : ℕ). length (visible (take k start))) back ∙ same ∙ inv.kept;
      later = omega (arith, e.later, inv.later);
      parts = record { same = p.same ∙ inv.parts.same; each = λ are. p.each (inv.parts.each are) };
      ahead = λ on. p.ahead;
      looks = λ are on.
          (let more = subst (λ (ls : List (List Point)). c.next.new.looks + entries_before (point_at (points m) (place m)) ls ≤ c.loop-merged.looks + entries_before (point_at (points n) (place n)) ls)
          inv.parts.same (p.looks (inv.parts.each are) (inv.ahead on)) in
          let so_far = inv.looks are on in
          omega arith);
    }
