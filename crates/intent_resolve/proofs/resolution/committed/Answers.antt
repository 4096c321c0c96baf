use Rattle.std.proofs.Common.{sym, ◌∙◌}
use Rattle.intent_resolve.specs.views.Seen.{update_of}
use Rattle.intent_resolve.proofs.RuleLaws.{commit-other}
use Rattle.intent_resolve.proofs.resolution.committed.Goals as goal

pub returns-then-is_of_epoch : goal.returns-then-is_of_epoch
returns-then-is_of_epoch c = λ i of. c.settled.ensures i of (sym (c.is_of_epoch.ensures i of) ∙ c.if-is_of_epoch.true)

pub returns-else-is_of_epoch : goal.returns-else-is_of_epoch
returns-else-is_of_epoch c = λ i of. commit-other (update_of c.args.update.now) i (sym (c.is_of_epoch.ensures i of) ∙ c.if-is_of_epoch.false)
