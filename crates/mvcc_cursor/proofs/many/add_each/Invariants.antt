-- The store while versions are added.
use Rattle.std.proofs.Common.{◌≡◌, ◌+◌, ◌≤◌}
use Rattle.mvcc_cursor.specs.views.Many.{HoldsMany}
use Rattle.mvcc_cursor.proofs.many.add_each.Given as goal

abbrev pub invariant-loop-wall : goal.invariant-loop-wall
invariant-loop-wall l = HoldsMany l.wall l.store × (l.wall ≤ l.fn.newest + 2500) × (l.wall-end ≡ l.fn.newest + 2500)
