use Rattle.std.proofs.Common.{sym, ap, ◌∙◌}
use Rattle.std.specs.Option.{option_and_then}
use Rattle.mvcc_key.specs.Points.{Point}
use Rattle.merge_cursor.specs.views.Standing.{standings}
use Rattle.merge_cursor.specs.views.Seen.{shown_points, shown_place}
use Rattle.merge_cursor.proofs.MergeLaws.{merged_place-le}
use Rattle.merge_cursor.proofs.VisibleLaws.{shown-visible}
use Rattle.merge_cursor.proofs.visible.VisibleCursorCursor.value.Goals as goal

pub returns : goal.returns
returns g c =
    let points = shown_points g.C.Cursor.points g.C.Cursor.place g.C.Cursor.is_part in
    let place = shown_place g.C.Cursor.points g.C.Cursor.place g.C.Cursor.is_part in
    let all = standings g.C.Cursor.points g.C.Cursor.place g.C.Cursor.is_part in
    let m = c.args.self.now.merged in
    c.value.ensures ∙ sym (ap (option_and_then (λ (p : Point). p.value)) (shown-visible (points m) (place m) (merged_place-le m.ahead (all m.parts.items) m.current) c.args.self.now.stands))
