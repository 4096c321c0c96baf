use Rattle.std.proofs.Common.{◌≡◌, ◌≤◌, ◌+◌, ◌-◌, ℕ, List, length, take, refl, sym, ap, subst, ◌∙◌, arith}
use Rattle.std.specs.Prelude.{is_some}
use Rattle.std.proofs.lemmas.List.Sums.{length-filter, count_by-le-length}
use Rattle.mvcc_key.specs.Encoded.{name_in}
use Rattle.mvcc_key.specs.Points.{Point, IsRising, AreEncodable, point_at, count_below}
use Rattle.merge_cursor.specs.Merged.{merged-rising, entries_before}
use Rattle.merge_cursor.specs.views.Standing.{standings, lists_of}
use Rattle.merge_cursor.specs.views.Seen.{shown_points, shown_place}
use Rattle.merge_cursor.specs.Visible.{visible, visible_place}
use Rattle.merge_cursor.proofs.MergeLaws.{merged_place-le}
use Rattle.merge_cursor.proofs.VisibleLaws.{visible-below, shown-visible, arrives-on}
use Rattle.merge_cursor.proofs.visible.VisibleCursorCursor.seek_ge.Goals as goal

pub invariant_of-self : goal.invariant_of-self
invariant_of-self g c =
    let points = shown_points g.C.Cursor.points g.C.Cursor.place g.C.Cursor.is_part in
    let old = c.args.self.now.merged in
    let new = c.skip_on.new.merged in
    let same : points new ≡ points old = c.skip_on.ensures.same ∙ c.seek_ge.ensures.moves.same in
    record {
      stands = c.skip_on.ensures.stands;
      rising = subst (λ (ps : List Point). IsRising (visible ps)) (sym same) c.args.self.now.rising;
      encodable = subst (λ (ps : List Point). AreEncodable (visible ps)) (sym same) c.args.self.now.encodable;
    }

pub returns : goal.returns
returns g c =
    let points = shown_points g.C.Cursor.points g.C.Cursor.place g.C.Cursor.is_part in
    let place = shown_place g.C.Cursor.points g.C.Cursor.place g.C.Cursor.is_part in
    let all = standings g.C.Cursor.points g.C.Cursor.place g.C.Cursor.is_part in
    let old = c.args.self.now.merged in
    let moved = c.seek_ge.new.self in
    let new = c.skip_on.new.merged in
    record {
      moves = (let at : place moved ≡ count_below (name_in c.args.key.now) (points old) + 1 = c.seek_ge.ensures.moves.place in
          let back : place moved - 1 ≡ count_below (name_in c.args.key.now) (points old) = omega arith in
          let same : points new ≡ points old = c.skip_on.ensures.same ∙ c.seek_ge.ensures.moves.same in
          record {
            same = ap visible same;
            part = refl;
            place = arrives-on (points old) (points moved) (points new) (place moved) (place new) c.seek_ge.ensures.moves.same c.skip_on.ensures.same c.skip_on.ensures.some
                (merged_place-le new.ahead (all new.parts.items) new.current) c.skip_on.ensures.stands c.skip_on.ensures.kept
                ∙ ap (λ (n : ℕ). length (visible (take n (points old))) + 1) back
                ∙ ap (λ (n : ℕ). n + 1) (visible-below (name_in c.args.key.now) (points old) (merged-rising (lists_of (all old.parts.items))));
            some = λ due.
                (let all_of = length-filter (λ (p : Point). is_some p.value) (points old) in
                let few = count_by-le-length (λ (p : Point). is_some p.value) (points old) in
                let first = c.seek_ge.ensures.moves.some (omega arith) in
                omega (arith, first, c.skip_on.ensures.later));
            later = omega (arith, c.skip_on.ensures.later, c.seek_ge.ensures.moves.later);
            bound = λ never. absurd cc;
          });
      parts = record {
        same = c.skip_on.ensures.parts.same ∙ c.seek_ge.ensures.parts.same;
        each = λ are. c.skip_on.ensures.parts.each (c.seek_ge.ensures.parts.each are);
        ahead = c.skip_on.ensures.ahead c.seek_ge.ensures.parts.ahead;
        looks = λ are.
            (let more = subst (λ (ls : List (List Point)). c.skip_on.new.looks + entries_before (point_at (points moved) (place moved)) ls ≤ c.seek_ge.new.looks + entries_before (point_at (points new) (place new)) ls)
            c.seek_ge.ensures.parts.same (c.skip_on.ensures.looks (c.seek_ge.ensures.parts.each are) c.seek_ge.ensures.parts.ahead) in
            let is : point_at (visible (points new)) (visible_place (points new) (place new)) ≡ point_at (points new) (place new) =
            shown-visible (points new) (place new) (merged_place-le new.ahead (all new.parts.items) new.current) c.skip_on.ensures.stands in
            let first = c.seek_ge.ensures.parts.looks are in
            let reached = c.seek_ge.ensures.reached in
            rw is (omega arith));
      };
    }
