use Rattle.std.proofs.Common.{◌≡◌, ℕ, List, length, take, refl, sym, ap, subst, ◌∙◌, arith}
use Rattle.std.specs.Prelude.{is_some}
use Rattle.std.proofs.lemmas.List.Sums.{length-filter, count_by-le-length}
use Rattle.mvcc_key.specs.Encoded.{name_in}
use Rattle.mvcc_key.specs.Points.{Point, IsRising, AreEncodable}
use Rattle.mvcc_key.proofs.PointLaws.{count_below-le}
use Rattle.merge_cursor.specs.Merged.{merged-rising}
use Rattle.merge_cursor.specs.views.Standing.{standings, lists_of}
use Rattle.merge_cursor.specs.views.Seen.{shown_points, shown_place}
use Rattle.merge_cursor.specs.Visible.{visible}
use Rattle.merge_cursor.proofs.VisibleLaws.{visible-below, arrives-back}
use Rattle.merge_cursor.proofs.visible.VisibleCursorCursor.seek_lt.Goals as goal

pub invariant_of-self : goal.invariant_of-self
invariant_of-self g c =
    let points = shown_points g.C.Cursor.points g.C.Cursor.place g.C.Cursor.is_part in
    let old = c.args.self.now.merged in
    let new = c.skip_back.new.merged in
    let same : points new ≡ points old = c.skip_back.ensures.same ∙ c.seek_lt.ensures.moves.same in
    record {
      stands = c.skip_back.ensures.stands;
      rising = subst (λ (ps : List Point). IsRising (visible ps)) (sym same) c.args.self.now.rising;
      encodable = subst (λ (ps : List Point). AreEncodable (visible ps)) (sym same) c.args.self.now.encodable;
    }

pub skip_back-requires : goal.skip_back-requires
skip_back-requires g c =
    let points = shown_points g.C.Cursor.points g.C.Cursor.place g.C.Cursor.is_part in
    let at = c.seek_lt.ensures.moves.place in
    let same = ap length c.seek_lt.ensures.moves.same in
    let le = count_below-le (name_in c.args.key.now) (points c.args.self.now.merged) in
    omega arith

pub returns-clause-moves : goal.returns-clause-moves
returns-clause-moves g c =
    let points = shown_points g.C.Cursor.points g.C.Cursor.place g.C.Cursor.is_part in
    let place = shown_place g.C.Cursor.points g.C.Cursor.place g.C.Cursor.is_part in
    let all = standings g.C.Cursor.points g.C.Cursor.place g.C.Cursor.is_part in
    let old = c.args.self.now.merged in
    let moved = c.seek_lt.new.self in
    let new = c.skip_back.new.merged in
    let same : points new ≡ points old = c.skip_back.ensures.same ∙ c.seek_lt.ensures.moves.same in
    record {
      same = ap visible same;
      part = refl;
      place = arrives-back (points old) (points moved) (points new) (place moved) (place new) c.seek_lt.ensures.moves.same c.skip_back.ensures.same c.skip_back.ensures.within c.skip_back.ensures.kept
          ∙ ap (λ (n : ℕ). length (visible (take n (points old)))) c.seek_lt.ensures.moves.place
          ∙ visible-below (name_in c.args.key.now) (points old) (merged-rising (lists_of (all old.parts.items)));
      some = λ due.
          (let all_of = length-filter (λ (p : Point). is_some p.value) (points old) in
          let few = count_by-le-length (λ (p : Point). is_some p.value) (points old) in
          let first = c.seek_lt.ensures.moves.some (omega arith) in
          omega (arith, first, c.skip_back.ensures.later));
      later = omega (arith, c.skip_back.ensures.later, c.seek_lt.ensures.moves.later);
      bound = λ never. absurd cc;
    }
