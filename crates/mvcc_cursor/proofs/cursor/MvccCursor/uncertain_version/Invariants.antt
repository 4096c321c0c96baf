use Rattle.std.proofs.Common.{◌≤◌, length}
use Rattle.mvcc_key.specs.views.Seen.{time_of}
use Rattle.mvcc_cursor.proofs.UncertainLaws.{IsWalked, points_from}
use Rattle.mvcc_cursor.proofs.cursor.MvccCursor.uncertain_version.Given as goal

abbrev pub invariant-loop-ts : goal.invariant-loop-ts
invariant-loop-ts g l = record {
  walked : IsWalked (time_of l.fn.above) (time_of l.fn.limit) (time_of l.fn.local_limit) l.fn.self l.self;
  later : l.fn.looks ≤ l.looks;
}

abbrev pub decreases-loop-ts : goal.decreases-loop-ts
decreases-loop-ts g l = length (points_from l.self)
