use Rattle.std.proofs.Common.{◌≡◌, ◌≤◌}
use Rattle.lsm_store.proofs.LayoutLaws.{clears_in}
use Rattle.lsm_store.proofs.counting.count_clears.Given as goal

abbrev pub invariant-loop : goal.invariant-loop
invariant-loop g l = record {
  points : g.C.Cursor.points l.cursor ≡ g.C.Cursor.points l.initial.cursor;
  place : g.C.Cursor.place l.cursor ≡ l.counter;
  clears : l.clears ≡ clears_in l.counter (g.C.Cursor.points l.initial.cursor);
  few : l.clears ≤ l.counter;
}
