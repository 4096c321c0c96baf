use Rattle.merge_cursor.specs.views.Standing.{standings, heads}
use Rattle.merge_cursor.proofs.LeadingLaws.{IsLeadingAmong}
use Rattle.merge_cursor.proofs.leading.leading.Given as goal

abbrev pub invariant-loop-index : goal.invariant-loop-index
invariant-loop-index g l =
    IsLeadingAmong l.ahead (heads (standings g.C.Cursor.points g.C.Cursor.place g.C.Cursor.is_part l.parts)) l.best l.index
