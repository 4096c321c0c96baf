use Rattle.std.proofs.Common.{◌≡◌, ◌≤◌, ◌+◌, ◌-◌, length, take}
use Rattle.std.specs.Prelude.{IsTrue}
use Rattle.mvcc_key.specs.Points.{point_at}
use Rattle.merge_cursor.specs.Merged.{entries_before}
use Rattle.merge_cursor.specs.views.Seen.{lists_in, HasParts, is_ahead, shown_points, shown_place}
use Rattle.merge_cursor.specs.views.PartsMoves.{KeepsParts}
use Rattle.merge_cursor.specs.Visible.{visible}
use Rattle.merge_cursor.proofs.visible.skip_on.Given as goal

abbrev pub invariant-loop-merged : goal.invariant-loop-merged
invariant-loop-merged g l =
    let points = shown_points g.C.Cursor.points g.C.Cursor.place g.C.Cursor.is_part in
    let place = shown_place g.C.Cursor.points g.C.Cursor.place g.C.Cursor.is_part in
    let start = points l.initial.merged in record {
      same : points l.merged ≡ start;
      some : 1 ≤ place l.merged;
      kept : length (visible (take (place l.merged - 1) start)) ≡ length (visible (take (place l.initial.merged - 1) start));
      later : l.initial.looks ≤ l.looks;
      parts : KeepsParts (lists_in g.C.Cursor.points) (HasParts g.C.Cursor.is_part) l.initial.merged l.merged;
      ahead : IsTrue (is_ahead l.initial.merged) → IsTrue (is_ahead l.merged);
      looks : HasParts g.C.Cursor.is_part l.initial.merged → IsTrue (is_ahead l.initial.merged)
          → l.looks + entries_before (point_at start (place l.initial.merged)) (lists_in g.C.Cursor.points l.initial.merged)
          ≤ l.initial.looks + entries_before (point_at (points l.merged) (place l.merged)) (lists_in g.C.Cursor.points l.initial.merged);
    }

abbrev pub decreases-loop-merged : goal.decreases-loop-merged
decreases-loop-merged g l =
    length (shown_points g.C.Cursor.points g.C.Cursor.place g.C.Cursor.is_part l.merged) + 1 - shown_place g.C.Cursor.points g.C.Cursor.place g.C.Cursor.is_part l.merged
