use Rattle.std.proofs.Common.{◌≡◌, ◌++◌, false, List, length, take, drop, sym, refl, ap, subst, ◌∙◌, arith}
use Rattle.std.specs.Prelude.{IsSome}
use Rattle.merge_cursor.specs.Merged.{merged}
use Rattle.merge_cursor.specs.views.Standing.{standings, heads, head_of, positioned}
use Rattle.merge_cursor.specs.views.Moves.{cut_before}
use Rattle.merge_cursor.proofs.CutLaws.{cut_before-IsCut}
use Rattle.merge_cursor.proofs.ShownLaws.{rising-standings, place-back}
use Rattle.merge_cursor.proofs.StepLaws.{After, current-some}
use Rattle.merge_cursor.proofs.MergeLaws.{written, after-move, lists-after, parts-after}
use Rattle.merge_cursor.proofs.merge.MergeCursorCursor.prev.Goals as goal

pub invariant_of-self : goal.invariant_of-self
invariant_of-self g c =
    let old = c.args.self.now in
    let all = standings g.C.Cursor.points g.C.Cursor.place g.C.Cursor.is_part in
    let new = c.go_back.new.parts in
    let ok = old.parts.ok.0 in
    let kept = c.go_back.auto.parts in
    let long : length new ≡ old.parts.len = omega (arith, c.deref_mut.ensures.len) in
    let now = take old.parts.len (new ++ drop (length new) old.parts.items) in
    let same : now ≡ new = written new old.parts.items old.parts.len long in
    let done : After false (cut_before old.ahead (head_of (heads (all old.parts.items)) old.current)) (all old.parts.items) (all now) c.leading-self.result =
    after-move g.C.Cursor.points g.C.Cursor.place g.C.Cursor.is_part false (λ ss. cut_before old.ahead (head_of (heads ss) old.current)) old.parts.items c.deref_mut.result.now new now c.deref.result.now c.leading-self.result
    g.met.C.Cursor.rising (cut_before-IsCut old.ahead (head_of (heads (all old.parts.items)) old.current)) old.encodable c.deref_mut.ensures.value same c.deref.ensures.value (c.go_back.ensures.parts) c.leading-self.ensures in
    record { aligned = done.aligned; encodable = done.encodable }

pub returns : goal.returns
returns g c =
    let old = c.args.self.now in
    let all = standings g.C.Cursor.points g.C.Cursor.place g.C.Cursor.is_part in
    let new = c.go_back.new.parts in
    let ok = old.parts.ok.0 in
    let kept = c.go_back.auto.parts in
    let long : length new ≡ old.parts.len = omega (arith, c.deref_mut.ensures.len) in
    let now = take old.parts.len (new ++ drop (length new) old.parts.items) in
    let same : now ≡ new = written new old.parts.items old.parts.len long in
    let done : After false (cut_before old.ahead (head_of (heads (all old.parts.items)) old.current)) (all old.parts.items) (all now) c.leading-self.result =
    after-move g.C.Cursor.points g.C.Cursor.place g.C.Cursor.is_part false (λ ss. cut_before old.ahead (head_of (heads ss) old.current)) old.parts.items c.deref_mut.result.now new now c.deref.result.now c.leading-self.result
    g.met.C.Cursor.rising (cut_before-IsCut old.ahead (head_of (heads (all old.parts.items)) old.current)) old.encodable c.deref_mut.ensures.value same c.deref.ensures.value (c.go_back.ensures.parts) c.leading-self.ensures in
    record {
      moves = record {
        same = ap merged done.lists;
        part = refl;
        place = done.place ∙ place-back old.ahead (all old.parts.items) old.current (rising-standings g.C.Cursor.points g.C.Cursor.place g.C.Cursor.is_part old.parts.items g.met.C.Cursor.rising) old.aligned;
        some = λ inside.
            (let here = current-some old.ahead (all old.parts.items) old.current (rising-standings g.C.Cursor.points g.C.Cursor.place g.C.Cursor.is_part old.parts.items g.met.C.Cursor.rising) old.aligned inside.0 inside.1 in
            c.go_back.ensures.some (subst (λ (xs : List _). IsSome (head_of (heads (all xs)) old.current)) (sym c.deref_mut.ensures.value) here));
        later = c.go_back.ensures.later;
        bound = λ never. absurd cc;
      };
      parts = record {
        same = lists-after g.C.Cursor.points g.C.Cursor.place g.C.Cursor.is_part old.parts.items now done.lists;
        each = λ are. parts-after g.C.Cursor.points g.C.Cursor.place g.C.Cursor.is_part false (cut_before old.ahead (head_of (heads (all old.parts.items)) old.current)) old.parts.items now
            (ap all same ∙ (c.go_back.ensures.parts) ∙ ap (λ (xs : List _). positioned false (cut_before old.ahead (head_of (heads (all xs)) old.current)) (all xs)) c.deref_mut.ensures.value) are;
      };
    }
