use Rattle.std.proofs.Common.{◌≡◌, ◌-◌, ℕ, List, length, take, refl, sym, ap, subst, ◌∙◌, arith}
use Rattle.mvcc_key.specs.Points.{Point}
use Rattle.merge_cursor.specs.views.Seen.{shown_points, shown_place}
use Rattle.merge_cursor.specs.Visible.{visible}
use Rattle.merge_cursor.proofs.VisibleLaws.{skipped}
use Rattle.merge_cursor.proofs.visible.skip_back.Goals as goal

pub loop-merged-preserved : goal.loop-merged-preserved
loop-merged-preserved g c =
    let points = shown_points g.C.Cursor.points g.C.Cursor.place g.C.Cursor.is_part in
    let place = shown_place g.C.Cursor.points g.C.Cursor.place g.C.Cursor.is_part in
    let start = points c.args.merged.now in
    let m = c.loop-merged.merged in
    let n = c.prev.new.self in
    let inv = c.loop-merged.invariant in
    let e = c.prev.ensures.moves in
    let p = c.prev.ensures.parts in
    let inside = c.loop-merged-test.ensures.inside refl in
    let step : place n ≡ place m - 1 = e.place in
    let same : length (visible (take (place m) start)) ≡ length (visible (take (place m - 1) start)) =
    subst (λ (ps : List Point). length (visible (take (place m) ps)) ≡ length (visible (take (place m - 1) ps))) inv.same
    (skipped (points m) (place m) inside.0 inside.1 (c.loop-merged-test.ensures.cleared refl)) in
    record {
      same = e.same ∙ inv.same;
      within = (let w = inv.within in omega arith);
      kept = ap (λ (k : ℕ). length (visible (take k start))) step ∙ sym same ∙ inv.kept;
      later = omega (arith, e.later, inv.later);
      parts = record { same = p.same ∙ inv.parts.same; each = λ are. p.each (inv.parts.each are) };
    }
