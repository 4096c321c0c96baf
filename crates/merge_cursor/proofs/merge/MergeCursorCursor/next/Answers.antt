use Rattle.std.proofs.Common.{◌≡◌, ◌≤◌, ◌+◌, ◌++◌, true, List, length, take, drop, sum_by, sym, refl, ap, subst, ◌∙◌, arith}
use Rattle.std.specs.Prelude.{All, IsSome, IsTrue}
use Rattle.merge_cursor.specs.Merged.{merged}
use Rattle.merge_cursor.specs.views.Standing.{standings, lists_of, heads, head_of, positioned, cut_of, count_in}
use Rattle.merge_cursor.specs.views.Moves.{cut_past}
use Rattle.merge_cursor.proofs.CutLaws.{cut_past-IsCut}
use Rattle.merge_cursor.proofs.ShownLaws.{rising-standings, place-on}
use Rattle.merge_cursor.proofs.StepLaws.{After, current-some}
use Rattle.merge_cursor.proofs.MergeLaws.{written, after-move, lists-after, parts-standings, parts-after, next-looks}
use Rattle.merge_cursor.proofs.merge.MergeCursorCursor.next.Goals as goal

pub invariant_of-self : goal.invariant_of-self
invariant_of-self g c =
    let old = c.args.self.now in
    let all = standings g.C.Cursor.points g.C.Cursor.place g.C.Cursor.is_part in
    let new = c.go_on.new.parts in
    let ok = old.parts.ok.0 in
    let kept = c.go_on.auto.parts in
    let long : length new ≡ old.parts.len = omega (arith, c.deref_mut.ensures.len) in
    let now = take old.parts.len (new ++ drop (length new) old.parts.items) in
    let same : now ≡ new = written new old.parts.items old.parts.len long in
    let done : After true (cut_past old.ahead (head_of (heads (all old.parts.items)) old.current)) (all old.parts.items) (all now) c.leading-self.result =
    after-move g.C.Cursor.points g.C.Cursor.place g.C.Cursor.is_part true (λ ss. cut_past old.ahead (head_of (heads ss) old.current)) old.parts.items c.deref_mut.result.now new now c.deref.result.now c.leading-self.result
    g.met.C.Cursor.rising (cut_past-IsCut old.ahead (head_of (heads (all old.parts.items)) old.current)) old.encodable c.deref_mut.ensures.value same c.deref.ensures.value (c.go_on.ensures.parts) c.leading-self.ensures in
    record { aligned = done.aligned; encodable = done.encodable }

pub returns : goal.returns
returns g c =
    let old = c.args.self.now in
    let all = standings g.C.Cursor.points g.C.Cursor.place g.C.Cursor.is_part in
    let new = c.go_on.new.parts in
    let ok = old.parts.ok.0 in
    let kept = c.go_on.auto.parts in
    let long : length new ≡ old.parts.len = omega (arith, c.deref_mut.ensures.len) in
    let now = take old.parts.len (new ++ drop (length new) old.parts.items) in
    let same : now ≡ new = written new old.parts.items old.parts.len long in
    let done : After true (cut_past old.ahead (head_of (heads (all old.parts.items)) old.current)) (all old.parts.items) (all now) c.leading-self.result =
    after-move g.C.Cursor.points g.C.Cursor.place g.C.Cursor.is_part true (λ ss. cut_past old.ahead (head_of (heads ss) old.current)) old.parts.items c.deref_mut.result.now new now c.deref.result.now c.leading-self.result
    g.met.C.Cursor.rising (cut_past-IsCut old.ahead (head_of (heads (all old.parts.items)) old.current)) old.encodable c.deref_mut.ensures.value same c.deref.ensures.value (c.go_on.ensures.parts) c.leading-self.ensures in
    record {
      moves = record {
        same = ap merged done.lists;
        part = refl;
        place = done.place ∙ place-on old.ahead (all old.parts.items) old.current (rising-standings g.C.Cursor.points g.C.Cursor.place g.C.Cursor.is_part old.parts.items g.met.C.Cursor.rising) old.aligned;
        some = λ inside.
            (let here = current-some old.ahead (all old.parts.items) old.current (rising-standings g.C.Cursor.points g.C.Cursor.place g.C.Cursor.is_part old.parts.items g.met.C.Cursor.rising) old.aligned inside.0 inside.1 in
            c.go_on.ensures.some (subst (λ (xs : List _). IsSome (head_of (heads (all xs)) old.current)) (sym c.deref_mut.ensures.value) here));
        later = c.go_on.ensures.later;
        bound = λ never. absurd cc;
      };
      parts = record {
        same = lists-after g.C.Cursor.points g.C.Cursor.place g.C.Cursor.is_part old.parts.items now done.lists;
        each = λ are. parts-after g.C.Cursor.points g.C.Cursor.place g.C.Cursor.is_part true (cut_past old.ahead (head_of (heads (all old.parts.items)) old.current)) old.parts.items now
            (ap all same ∙ (c.go_on.ensures.parts) ∙ ap (λ (xs : List _). positioned true (cut_past old.ahead (head_of (heads (all xs)) old.current)) (all xs)) c.deref_mut.ensures.value) are;
        ahead = refl;
        looks = λ are on.
            (let looks = subst (λ (xs : List _). c.go_on.new.looks + sum_by (count_in (cut_of true (head_of (heads (all xs)) old.current))) (lists_of (all xs))
            ≤ c.args.looks.now + sum_by (count_in (cut_past true (head_of (heads (all xs)) old.current))) (lists_of (all xs)))
            c.deref_mut.ensures.value (c.go_on.ensures.looks on (parts-standings g.C.Cursor.points g.C.Cursor.place g.C.Cursor.is_part c.deref_mut.result.now
            (subst (λ (xs : List _). All (λ x. IsTrue (g.C.Cursor.is_part x)) xs) (sym c.deref_mut.ensures.value) are))) in
            next-looks g.C.Cursor.points g.C.Cursor.place g.C.Cursor.is_part old.ahead old.parts.items now old.current c.leading-self.result c.args.looks.now c.go_on.new.looks
            g.met.C.Cursor.rising old.aligned on done looks);
      };
    }
