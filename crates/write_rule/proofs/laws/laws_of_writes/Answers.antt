use Rattle.write_rule.proofs.WriteLaws.{write_has_outcome, write_changes_one_key, write_keeps_valid}
use Rattle.write_rule.proofs.ReplayLaws.{write_may_repeat}
use Rattle.write_rule.proofs.CauseLaws.{refusals_have_causes}
use Rattle.write_rule.proofs.AlikeLaws.{alike_write_alike}
use Rattle.write_rule.proofs.laws.laws_of_writes.Goals as goal

pub returns : goal.returns
returns c = record {
  outcome = write_has_outcome;
  one_key = write_changes_one_key;
  valid = write_keeps_valid;
  repeat = write_may_repeat;
  causes = refusals_have_causes;
  alike = alike_write_alike;
}
