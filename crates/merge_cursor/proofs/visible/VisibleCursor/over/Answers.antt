use Rattle.std.proofs.Common.{arith}
use Rattle.merge_cursor.specs.Merged.{merged-rising}
use Rattle.merge_cursor.specs.views.Standing.{standings, lists_of}
use Rattle.merge_cursor.specs.views.Seen.{shown_points}
use Rattle.merge_cursor.proofs.VisibleLaws.{rising-visible, encodable-visible}
use Rattle.merge_cursor.proofs.visible.VisibleCursor.over.Goals as goal

pub invariant_of-result : goal.invariant_of-result
invariant_of-result g c =
    let points = shown_points g.C.Cursor.points g.C.Cursor.place g.C.Cursor.is_part in
    let all = standings g.C.Cursor.points g.C.Cursor.place g.C.Cursor.is_part in
    let m = c.args.merged in
    record {
      stands = λ low high. absurd (let at = c.requires in omega arith);
      rising = rising-visible (points m) (merged-rising (lists_of (all m.parts.items)));
      encodable = encodable-visible (points m) m.encodable;
    }
