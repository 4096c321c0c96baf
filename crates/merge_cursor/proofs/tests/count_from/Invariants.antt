use Rattle.std.proofs.Common.{◌≡◌, ◌+◌, ◌-◌, ◌≤◌, length}
use Rattle.mvcc_key.specs.Encoded.{name_in}
use Rattle.mvcc_key.specs.Points.{count_below}
use Rattle.merge_cursor.proofs.tests.count_from.Given as goal

abbrev pub invariant-loop-count : goal.invariant-loop-count
invariant-loop-count g l = record {
  same : g.C.Cursor.points l.cursor ≡ g.C.Cursor.points l.fn.cursor;
  place : g.C.Cursor.place l.cursor ≡ count_below (name_in l.key) (g.C.Cursor.points l.fn.cursor) + 1 + l.count;
  within : g.C.Cursor.place l.cursor ≤ length (g.C.Cursor.points l.fn.cursor) + 1;
}

abbrev pub decreases-loop-count : goal.decreases-loop-count
decreases-loop-count g l = length (g.C.Cursor.points l.cursor) + 1 - g.C.Cursor.place l.cursor
