use Rattle.std.proofs.Common.{◌≡◌, ◌<◌, ◌+◌, ◌-◌, length}
use Rattle.run_block.proofs.AddingLaws.{IsAdding}
use Rattle.run_block.proofs.collecting.add_shown.Given as goal

abbrev pub invariant-loop-key : goal.invariant-loop-key
invariant-loop-key g l = record {
  same : g.C.Cursor.points l.cursor ≡ g.C.Cursor.points l.fn.cursor;
  some : 0 < g.C.Cursor.place l.cursor;
  adding : IsAdding (g.C.Cursor.points l.fn.cursor) (g.C.Cursor.place l.cursor - 1) l.fn.out.items l.out.items l.index;
}

abbrev pub decreases-loop-key : goal.decreases-loop-key
decreases-loop-key g l = length (g.C.Cursor.points l.fn.cursor) + 1 - g.C.Cursor.place l.cursor
