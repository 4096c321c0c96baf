use Rattle.std.specs.Prelude.{length}
use Rattle.mvcc_cursor.specs.WellFormed.{history_in}
use Rattle.mvcc_cursor.specs.views.Seen.{seen}
use Rattle.intent_resolve.specs.views.Seen.{update_of}
use Rattle.intent_resolve.specs.views.Walked.{own_from}
use Rattle.intent_resolve.proofs.GatheringLaws.{IsGathering}
use Rattle.intent_resolve.proofs.plan_range.plan_within.Given as goal

abbrev pub invariant-loop-found : goal.invariant-loop-found
invariant-loop-found g l = IsGathering (update_of l.fn.update) l.fn.bounds.0.now l.fn.bounds.1.now l.fn.store l.fn.last l.fn.max (seen l.cursor) l.gathered l.found

abbrev pub decreases-loop-found : goal.decreases-loop-found
decreases-loop-found g l = length (own_from (update_of l.fn.update) (seen l.cursor).at l.fn.bounds.1.now (history_in l.fn.store))
