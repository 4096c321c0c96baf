-- What the entries so far and those that are left show is what all show.
use Rattle.std.proofs.Common.{length}
use Rattle.std.specs.Option.{option_map}
use Rattle.intent_meta.proofs.WalkLaws.{StillSeen}
use Rattle.intent_meta.proofs.entries.last_seen.Given as goal

abbrev pub invariant-loop-entry : goal.invariant-loop-entry
invariant-loop-entry l = StillSeen l.sequence l.ignored l.fn.bytes l.rest (option_map (λ v. v.now) l.found)

abbrev pub decreases-loop-entry : goal.decreases-loop-entry
decreases-loop-entry l = length l.rest
