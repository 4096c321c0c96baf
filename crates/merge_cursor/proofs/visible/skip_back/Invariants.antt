use Rattle.std.proofs.Common.{◌≡◌, ◌≤◌, length, take}
use Rattle.merge_cursor.specs.views.Seen.{lists_in, HasParts, shown_points, shown_place}
use Rattle.merge_cursor.specs.views.PartsMoves.{KeepsParts}
use Rattle.merge_cursor.specs.Visible.{visible}
use Rattle.merge_cursor.proofs.visible.skip_back.Given as goal

abbrev pub invariant-loop-merged : goal.invariant-loop-merged
invariant-loop-merged g l =
    let points = shown_points g.C.Cursor.points g.C.Cursor.place g.C.Cursor.is_part in
    let place = shown_place g.C.Cursor.points g.C.Cursor.place g.C.Cursor.is_part in
    let start = points l.initial.merged in record {
      same : points l.merged ≡ start;
      within : place l.merged ≤ length start;
      kept : length (visible (take (place l.merged) start)) ≡ length (visible (take (place l.initial.merged) start));
      later : l.initial.looks ≤ l.looks;
      parts : KeepsParts (lists_in g.C.Cursor.points) (HasParts g.C.Cursor.is_part) l.initial.merged l.merged;
    }

abbrev pub decreases-loop-merged : goal.decreases-loop-merged
decreases-loop-merged g l = shown_place g.C.Cursor.points g.C.Cursor.place g.C.Cursor.is_part l.merged
