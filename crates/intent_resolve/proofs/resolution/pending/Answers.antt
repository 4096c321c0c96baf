use Rattle.std.proofs.Common.{sym, ◌∙◌}
use Rattle.intent_resolve.specs.views.Seen.{update_of}
use Rattle.intent_resolve.proofs.RuleLaws.{pending-later}
use Rattle.intent_resolve.proofs.resolution.pending.Goals as goal

pub returns-then-is_before_epoch : goal.returns-then-is_before_epoch
returns-then-is_before_epoch c = λ i of. pending-later (update_of c.args.update.now) i (sym (c.is_before_epoch.ensures i of) ∙ c.if-is_before_epoch.true)

pub returns-else-is_before_epoch : goal.returns-else-is_before_epoch
returns-else-is_before_epoch c = λ i of. c.moving.ensures i of (sym (c.is_before_epoch.ensures i of) ∙ c.if-is_before_epoch.false)
