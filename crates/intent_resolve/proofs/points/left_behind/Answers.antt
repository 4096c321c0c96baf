use Rattle.std.proofs.Common.{sym, ◌∙◌}
use Rattle.mvcc_key.specs.views.Seen.{time_of}
use Rattle.write_rule.proofs.OpsLaws.{up_to_apart}
use Rattle.intent_resolve.proofs.points.left_behind.Goals as goal

pub returns-else-eq-clause-left : goal.returns-else-eq-clause-left
returns-else-eq-clause-left c = λ some up. record {
  some = some;
  before = up_to_apart (time_of c.args.old) (time_of c.args.ts) up (sym c.eq.ensures ∙ c.if-eq.false);
}
