use Rattle.std.proofs.Common.{◌≡◌, ◌<◌, ◌+◌, ◌++◌, ℕ, true, List, length, map, take, drop, count_by, sym, refl, ap, subst, ◌∙◌, arith}
use Rattle.std.specs.Prelude.{All, IsTrue, nat_lt}
use Rattle.mvcc_key.specs.Encoded.{name_in}
use Rattle.merge_cursor.specs.Merged.{merged, seek_looks}
use Rattle.merge_cursor.specs.views.Standing.{standings, lists_of, positioned}
use Rattle.merge_cursor.proofs.CutLaws.{below-IsCut, count_in-below}
use Rattle.merge_cursor.proofs.ShownLaws.{below}
use Rattle.merge_cursor.proofs.StepLaws.{After, sought-ge, seek-some}
use Rattle.merge_cursor.proofs.MergeLaws.{written, after-move, lists-standings, lists-after, parts-standings, parts-after, seek-ge-looks, seek-reached}
use Rattle.merge_cursor.proofs.merge.MergeCursorCursor.seek_ge.Goals as goal

pub invariant_of-self : goal.invariant_of-self
invariant_of-self g c =
    let old = c.args.self.now in
    let all = standings g.C.Cursor.points g.C.Cursor.place g.C.Cursor.is_part in
    let new = c.move_all.new.parts in
    let ok = old.parts.ok.0 in
    let kept = c.move_all.auto.parts in
    let long : length new ≡ old.parts.len = omega (arith, c.deref_mut.ensures.len) in
    let now = take old.parts.len (new ++ drop (length new) old.parts.items) in
    let same : now ≡ new = written new old.parts.items old.parts.len long in
    let done : After true (below (name_in c.args.key.now)) (all old.parts.items) (all now) c.leading-self.result =
    after-move g.C.Cursor.points g.C.Cursor.place g.C.Cursor.is_part true (λ _. below (name_in c.args.key.now)) old.parts.items c.deref_mut.result.now new now c.deref.result.now c.leading-self.result
    g.met.C.Cursor.rising (below-IsCut (name_in c.args.key.now)) old.encodable c.deref_mut.ensures.value same c.deref.ensures.value (c.move_all.ensures.parts ∙ sought-ge c.args.key (all c.deref_mut.result.now)) c.leading-self.ensures in
    record { aligned = done.aligned; encodable = done.encodable }

pub returns : goal.returns
returns g c =
    let old = c.args.self.now in
    let all = standings g.C.Cursor.points g.C.Cursor.place g.C.Cursor.is_part in
    let new = c.move_all.new.parts in
    let ok = old.parts.ok.0 in
    let kept = c.move_all.auto.parts in
    let long : length new ≡ old.parts.len = omega (arith, c.deref_mut.ensures.len) in
    let now = take old.parts.len (new ++ drop (length new) old.parts.items) in
    let same : now ≡ new = written new old.parts.items old.parts.len long in
    let done : After true (below (name_in c.args.key.now)) (all old.parts.items) (all now) c.leading-self.result =
    after-move g.C.Cursor.points g.C.Cursor.place g.C.Cursor.is_part true (λ _. below (name_in c.args.key.now)) old.parts.items c.deref_mut.result.now new now c.deref.result.now c.leading-self.result
    g.met.C.Cursor.rising (below-IsCut (name_in c.args.key.now)) old.encodable c.deref_mut.ensures.value same c.deref.ensures.value (c.move_all.ensures.parts ∙ sought-ge c.args.key (all c.deref_mut.result.now)) c.leading-self.ensures in
    record {
      moves = record {
        same = ap merged done.lists;
        part = refl;
        place = done.place ∙ ap (λ (n : ℕ). n + 1) (count_in-below (name_in c.args.key.now) (merged (lists_of (all old.parts.items))));
        some = λ some. c.move_all.ensures.some (subst (λ (xs : List _). 0 < count_by (λ s. nat_lt 0 (length s.points)) (all xs)) (sym c.deref_mut.ensures.value) (seek-some (all old.parts.items) some));
        later = c.move_all.ensures.later;
        bound = λ never. absurd cc;
      };
      parts = record {
        same = lists-after g.C.Cursor.points g.C.Cursor.place g.C.Cursor.is_part old.parts.items now done.lists;
        each = λ are. parts-after g.C.Cursor.points g.C.Cursor.place g.C.Cursor.is_part true (below (name_in c.args.key.now)) old.parts.items now
            (ap all same ∙ (c.move_all.ensures.parts ∙ sought-ge c.args.key (all c.deref_mut.result.now)) ∙ ap (λ (xs : List _). positioned true (below (name_in c.args.key.now)) (all xs)) c.deref_mut.ensures.value) are;
        ahead = refl;
        looks = λ are.
            (let looks = c.move_all.ensures.looks (parts-standings g.C.Cursor.points g.C.Cursor.place g.C.Cursor.is_part c.deref_mut.result.now
            (subst (λ (xs : List _). All (λ x. IsTrue (g.C.Cursor.is_part x)) xs) (sym c.deref_mut.ensures.value) are)) in
            let counted = seek-ge-looks c.args.key (all c.deref_mut.result.now)
            ∙ ap seek_looks (lists-standings g.C.Cursor.points g.C.Cursor.place g.C.Cursor.is_part c.deref_mut.result.now ∙ ap (map g.C.Cursor.points) c.deref_mut.ensures.value) in
            let reached = seek-reached g.C.Cursor.points g.C.Cursor.place g.C.Cursor.is_part (name_in c.args.key.now) old.parts.items now c.leading-self.result g.met.C.Cursor.rising done in
            omega arith);
      };
      reached = seek-reached g.C.Cursor.points g.C.Cursor.place g.C.Cursor.is_part (name_in c.args.key.now) old.parts.items now c.leading-self.result g.met.C.Cursor.rising done;
    }
