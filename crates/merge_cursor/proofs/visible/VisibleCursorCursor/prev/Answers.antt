use Rattle.std.proofs.Common.{◌≡◌, ℕ, List, length, take, refl, sym, ap, subst, rules, ◌∙◌, arith}
use Rattle.mvcc_key.specs.Points.{Point, IsRising, AreEncodable}
use Rattle.merge_cursor.specs.views.Standing.{standings}
use Rattle.merge_cursor.specs.views.Seen.{shown_points, shown_place}
use Rattle.merge_cursor.specs.Visible.{visible}
use Rattle.merge_cursor.proofs.MergeLaws.{merged_place-le}
use Rattle.merge_cursor.proofs.VisibleLaws.{place-prev, arrives-back}
use Rattle.merge_cursor.proofs.visible.VisibleCursorCursor.prev.Goals as goal

pub invariant_of-self : goal.invariant_of-self
invariant_of-self g c =
    let points = shown_points g.C.Cursor.points g.C.Cursor.place g.C.Cursor.is_part in
    let old = c.args.self.now.merged in
    let new = c.skip_back.new.merged in
    let same : points new ≡ points old = c.skip_back.ensures.same ∙ c.prev.ensures.moves.same in
    record {
      stands = c.skip_back.ensures.stands;
      rising = subst (λ (ps : List Point). IsRising (visible ps)) (sym same) c.args.self.now.rising;
      encodable = subst (λ (ps : List Point). AreEncodable (visible ps)) (sym same) c.args.self.now.encodable;
    }

pub returns-clause-moves : goal.returns-clause-moves
returns-clause-moves g c =
    let points = shown_points g.C.Cursor.points g.C.Cursor.place g.C.Cursor.is_part in
    let place = shown_place g.C.Cursor.points g.C.Cursor.place g.C.Cursor.is_part in
    let all = standings g.C.Cursor.points g.C.Cursor.place g.C.Cursor.is_part in
    let old = c.args.self.now.merged in
    let moved = c.prev.new.self in
    let new = c.skip_back.new.merged in
    let same : points new ≡ points old = c.skip_back.ensures.same ∙ c.prev.ensures.moves.same in
    record {
      same = ap visible same;
      part = refl;
      place = arrives-back (points old) (points moved) (points new) (place moved) (place new) c.prev.ensures.moves.same c.skip_back.ensures.same c.skip_back.ensures.within c.skip_back.ensures.kept
          ∙ ap (λ (n : ℕ). length (visible (take n (points old)))) c.prev.ensures.moves.place
          ∙ place-prev (points old) (place old) (merged_place-le old.ahead (all old.parts.items) old.current) c.args.self.now.stands;
      some = search rules;
      later = omega (arith, c.skip_back.ensures.later, c.prev.ensures.moves.later);
      bound = λ never. absurd cc;
    }
