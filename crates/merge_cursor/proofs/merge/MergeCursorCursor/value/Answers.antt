use Rattle.std.proofs.Common.{◌≡◌, ◌≤◌, List, length, refl, sym, ap, ◌∙◌, arith}
use Rattle.std.specs.Prelude.{slice_get, Some}
use Rattle.std.specs.Option.{option_map, option_and_then}
use Rattle.std.specs.Borrow.{Bor}
use Rattle.std.specs.declared.option.Option.{Option}
use Rattle.std.proofs.lemmas.Option.{slice_get_read}
use Rattle.mvcc_key.specs.Points.{Point}
use Rattle.merge_cursor.proofs.MergeLaws.{shown-none, shown-part}
use Rattle.merge_cursor.proofs.merge.MergeCursorCursor.value.Goals as goal

pub returns-in_err-part : goal.returns-in_err-part
returns-in_err-part g c =
    let m = c.args.self.now in
    let past : length m.parts.items ≤ m.current = (let le = c.in_err-part.ensures.lookup.3 in let same = ap length c.deref.ensures.value in omega arith) in
    ap (λ (o : Option (Bor (List _))). option_map (λ k. k.now) o) c.from_residual.ensures
    ∙ sym (ap (option_and_then (λ (p : Point). p.value)) (shown-none g.C.Cursor.points g.C.Cursor.place g.C.Cursor.is_part m.ahead m.parts.items m.current g.met.C.Cursor.rising m.aligned past))

pub returns : goal.returns
returns g c =
    let m = c.args.self.now in
    let x = c.in_ok-part.part.now in
    let shown = c.deref.result.now in
    let there : slice_get shown m.current ≡ Some x = slice_get_read shown (length shown) m.current x refl c.in_ok-part.ensures.lookup.3.0 c.in_ok-part.ensures.lookup.1 in
    let here : slice_get m.parts.items m.current ≡ Some x = ap (λ (xs : List _). slice_get xs m.current) (sym c.deref.ensures.value) ∙ there in
    c.value.ensures ∙ sym (ap (option_and_then (λ (p : Point). p.value)) (shown-part g.C.Cursor.points g.C.Cursor.place g.C.Cursor.is_part m.ahead m.parts.items m.current x g.met.C.Cursor.rising m.aligned here))
