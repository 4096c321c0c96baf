use Rattle.std.specs.Prelude.{length}
use Rattle.read_rule.specs.views.Decided.{request_of}
use Rattle.mvcc_cursor.specs.views.Seen.{seen}
use Rattle.mvcc_scan.specs.views.Seen.{limits_of}
use Rattle.mvcc_scan.specs.views.Walking.{bounds_of, ahead}
use Rattle.mvcc_scan.proofs.WalkingLaws.{IsWalking}
use Rattle.mvcc_scan.proofs.walk.walk_keys.Given as goal

abbrev pub invariant-loop-alloc : goal.invariant-loop-alloc
invariant-loop-alloc g l =
    let start = seen l.fn.cursor in
    IsWalking (bounds_of l.fn.bounds) start.store (request_of l.fn.request) (limits_of l.fn.limits) (ahead (bounds_of l.fn.bounds) start) (seen l.cursor) l.taken

abbrev pub decreases-loop-alloc : goal.decreases-loop-alloc
decreases-loop-alloc g l = length (ahead (bounds_of l.fn.bounds) (seen l.cursor))
