use Rattle.std.proofs.Common.{◌≡◌, ◌<◌, ◌++◌, false, List, length, take, drop, count_by, sym, refl, ap, subst, ◌∙◌, arith}
use Rattle.std.specs.Prelude.{nat_lt}
use Rattle.mvcc_key.specs.Encoded.{name_in}
use Rattle.merge_cursor.specs.Merged.{merged}
use Rattle.merge_cursor.specs.views.Standing.{standings, lists_of, positioned}
use Rattle.merge_cursor.proofs.CutLaws.{below-IsCut, count_in-below}
use Rattle.merge_cursor.proofs.ShownLaws.{below}
use Rattle.merge_cursor.proofs.StepLaws.{After, sought-lt, seek-some}
use Rattle.merge_cursor.proofs.MergeLaws.{written, after-move, lists-after, parts-after}
use Rattle.merge_cursor.proofs.merge.MergeCursorCursor.seek_lt.Goals as goal

pub invariant_of-self : goal.invariant_of-self
invariant_of-self g c =
    let old = c.args.self.now in
    let all = standings g.C.Cursor.points g.C.Cursor.place g.C.Cursor.is_part in
    let new = c.move_all.new.parts in
    let ok = old.parts.ok.0 in
    let kept = c.move_all.auto.parts in
    let long : length new ≡ old.parts.len = omega (arith, c.deref_mut.ensures.len) in
    let now = take old.parts.len (new ++ drop (length new) old.parts.items) in
    let same : now ≡ new = written new old.parts.items old.parts.len long in
    let done : After false (below (name_in c.args.key.now)) (all old.parts.items) (all now) c.leading-self.result =
    after-move g.C.Cursor.points g.C.Cursor.place g.C.Cursor.is_part false (λ _. below (name_in c.args.key.now)) old.parts.items c.deref_mut.result.now new now c.deref.result.now c.leading-self.result
    g.met.C.Cursor.rising (below-IsCut (name_in c.args.key.now)) old.encodable c.deref_mut.ensures.value same c.deref.ensures.value (c.move_all.ensures.parts ∙ sought-lt c.args.key (all c.deref_mut.result.now)) c.leading-self.ensures in
    record { aligned = done.aligned; encodable = done.encodable }

pub returns : goal.returns
returns g c =
    let old = c.args.self.now in
    let all = standings g.C.Cursor.points g.C.Cursor.place g.C.Cursor.is_part in
    let new = c.move_all.new.parts in
    let ok = old.parts.ok.0 in
    let kept = c.move_all.auto.parts in
    let long : length new ≡ old.parts.len = omega (arith, c.deref_mut.ensures.len) in
    let now = take old.parts.len (new ++ drop (length new) old.parts.items) in
    let same : now ≡ new = written new old.parts.items old.parts.len long in
    let done : After false (below (name_in c.args.key.now)) (all old.parts.items) (all now) c.leading-self.result =
    after-move g.C.Cursor.points g.C.Cursor.place g.C.Cursor.is_part false (λ _. below (name_in c.args.key.now)) old.parts.items c.deref_mut.result.now new now c.deref.result.now c.leading-self.result
    g.met.C.Cursor.rising (below-IsCut (name_in c.args.key.now)) old.encodable c.deref_mut.ensures.value same c.deref.ensures.value (c.move_all.ensures.parts ∙ sought-lt c.args.key (all c.deref_mut.result.now)) c.leading-self.ensures in
    record {
      moves = record {
        same = ap merged done.lists;
        part = refl;
        place = done.place ∙ count_in-below (name_in c.args.key.now) (merged (lists_of (all old.parts.items)));
        some = λ some. c.move_all.ensures.some (subst (λ (xs : List _). 0 < count_by (λ s. nat_lt 0 (length s.points)) (all xs)) (sym c.deref_mut.ensures.value) (seek-some (all old.parts.items) some));
        later = c.move_all.ensures.later;
        bound = λ never. absurd cc;
      };
      parts = record {
        same = lists-after g.C.Cursor.points g.C.Cursor.place g.C.Cursor.is_part old.parts.items now done.lists;
        each = λ are. parts-after g.C.Cursor.points g.C.Cursor.place g.C.Cursor.is_part false (below (name_in c.args.key.now)) old.parts.items now
            (ap all same ∙ (c.move_all.ensures.parts ∙ sought-lt c.args.key (all c.deref_mut.result.now)) ∙ ap (λ (xs : List _). positioned false (below (name_in c.args.key.now)) (all xs)) c.deref_mut.ensures.value) are;
      };
    }
