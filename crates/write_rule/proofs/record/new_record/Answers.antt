use Rattle.std.proofs.Common.{◌∙◌}
use Rattle.mvcc_key.specs.views.Seen.{time_of}
use Rattle.mvcc_value.specs.views.Seen.{seen_body}
use Rattle.write_rule.proofs.NewRecordLaws.{same_fields, new_record-is}
use Rattle.write_rule.proofs.record.new_record.Goals as goal

pub returns : goal.returns
returns c = λ key local i are times lengths.
    c.new.ensures ∙ same_fields c.id.ensures c.epoch.ensures.value c.sequence.ensures.value
    ∙ new_record-is key c.args.txn.now i local (seen_body c.args.body) (time_of c.args.ts) c.is_deletion.result c.args.value_len c.in_ok-history.history times c.is_deletion.ensures lengths (c.in_ok-history.ensures.entries i are)
