use Rattle.std.proofs.Common.{refl, ◌∙◌, ap}
use Rattle.std.specs.Option.{option_map}
use Rattle.mvcc_key.specs.views.Seen.{time_of}
use Rattle.stat_core.specs.DeadSince.{earlier, dead_since}
use Rattle.stat_core.proofs.garbage.dead_since.Goals as goal

pub returns-then-version : goal.returns-then-version
unfolding dead_since
returns-then-version c = rw c.if-version.true refl

pub returns-else-version : goal.returns-else-version
unfolding dead_since
returns-else-version c = rw c.if-version.false (c.earlier.ensures ∙ ap (earlier (option_map time_of c.args.newer)) c.least_above.ensures)
