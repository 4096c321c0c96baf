use Rattle.std.proofs.Common.{◌≡◌, ◌≤◌, ◌+◌, ◌-◌, ℕ, List, length, take, refl, sym, ap, subst, rules, ◌∙◌, arith}
use Rattle.mvcc_key.specs.Points.{Point, IsRising, AreEncodable, point_at}
use Rattle.merge_cursor.specs.Merged.{entries_before}
use Rattle.merge_cursor.specs.views.Standing.{standings}
use Rattle.merge_cursor.specs.views.Seen.{shown_points, shown_place}
use Rattle.merge_cursor.specs.Visible.{visible, visible_place}
use Rattle.merge_cursor.proofs.MergeLaws.{merged_place-le}
use Rattle.merge_cursor.proofs.VisibleLaws.{place-next, shown-visible, arrives-on}
use Rattle.merge_cursor.proofs.visible.VisibleCursorCursor.next.Goals as goal

pub invariant_of-self : goal.invariant_of-self
invariant_of-self g c =
    let points = shown_points g.C.Cursor.points g.C.Cursor.place g.C.Cursor.is_part in
    let old = c.args.self.now.merged in
    let new = c.skip_on.new.merged in
    let same : points new ≡ points old = c.skip_on.ensures.same ∙ c.next.ensures.moves.same in
    record {
      stands = c.skip_on.ensures.stands;
      rising = subst (λ (ps : List Point). IsRising (visible ps)) (sym same) c.args.self.now.rising;
      encodable = subst (λ (ps : List Point). AreEncodable (visible ps)) (sym same) c.args.self.now.encodable;
    }

pub returns : goal.returns
returns g c =
    let points = shown_points g.C.Cursor.points g.C.Cursor.place g.C.Cursor.is_part in
    let place = shown_place g.C.Cursor.points g.C.Cursor.place g.C.Cursor.is_part in
    let all = standings g.C.Cursor.points g.C.Cursor.place g.C.Cursor.is_part in
    let old = c.args.self.now.merged in
    let moved = c.next.new.self in
    let new = c.skip_on.new.merged in
    record {
      moves = (let same : points new ≡ points old = c.skip_on.ensures.same ∙ c.next.ensures.moves.same in
          record {
            same = ap visible same;
            part = refl;
            place = arrives-on (points old) (points moved) (points new) (place moved) (place new) c.next.ensures.moves.same c.skip_on.ensures.same c.skip_on.ensures.some
                (merged_place-le new.ahead (all new.parts.items) new.current) c.skip_on.ensures.stands c.skip_on.ensures.kept
                ∙ ap (λ (n : ℕ). length (visible (take (n - 1) (points old))) + 1) c.next.ensures.moves.place
                ∙ place-next (points old) (place old);
            some = search rules;
            later = omega (arith, c.skip_on.ensures.later, c.next.ensures.moves.later);
            bound = λ never. absurd cc;
          });
      parts = record {
        same = c.skip_on.ensures.parts.same ∙ c.next.ensures.parts.same;
        each = λ are. c.skip_on.ensures.parts.each (c.next.ensures.parts.each are);
        ahead = c.skip_on.ensures.ahead c.next.ensures.parts.ahead;
        looks = λ are on.
            (let more = subst (λ (ls : List (List Point)). c.skip_on.new.looks + entries_before (point_at (points moved) (place moved)) ls ≤ c.next.new.looks + entries_before (point_at (points new) (place new)) ls)
            c.next.ensures.parts.same (c.skip_on.ensures.looks (c.next.ensures.parts.each are) c.next.ensures.parts.ahead) in
            let is : point_at (visible (points new)) (visible_place (points new) (place new)) ≡ point_at (points new) (place new) =
            shown-visible (points new) (place new) (merged_place-le new.ahead (all new.parts.items) new.current) c.skip_on.ensures.stands in
            let was : point_at (visible (points old)) (visible_place (points old) (place old)) ≡ point_at (points old) (place old) =
            shown-visible (points old) (place old) (merged_place-le old.ahead (all old.parts.items) old.current) c.args.self.now.stands in
            let first = c.next.ensures.parts.looks are on in
            rw (was, is) (omega arith));
      };
    }
