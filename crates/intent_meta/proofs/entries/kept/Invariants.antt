-- What was kept and those that are left are all.
use Rattle.std.proofs.Common.{length}
use Rattle.intent_meta.proofs.WalkLaws.{StillKept}
use Rattle.intent_meta.proofs.entries.kept.Given as goal

abbrev pub invariant-loop-entry : goal.invariant-loop-entry
invariant-loop-entry l = StillKept l.ignored l.fn.bytes l.rest l.left

abbrev pub decreases-loop-entry : goal.decreases-loop-entry
decreases-loop-entry l = length l.rest
