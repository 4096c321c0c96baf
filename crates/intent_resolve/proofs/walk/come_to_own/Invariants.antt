use Rattle.mvcc_cursor.specs.Standing.{stored}
use Rattle.mvcc_cursor.specs.views.Seen.{seen}
use Rattle.intent_resolve.specs.views.Seen.{update_of}
use Rattle.intent_resolve.proofs.WalkLaws.{IsComing, points_ahead}
use Rattle.intent_resolve.proofs.walk.come_to_own.Given as goal

abbrev pub invariant-loop-cursor : goal.invariant-loop-cursor
invariant-loop-cursor g l = IsComing (update_of l.fn.update) l.fn.end (seen l.fn.cursor) (seen l.cursor)

abbrev pub decreases-loop-cursor : goal.decreases-loop-cursor
decreases-loop-cursor g l = points_ahead (seen l.cursor).at (stored (seen l.cursor))
