use Rattle.std.proofs.Common.{arith, ap, length}
use Rattle.intent_meta.proofs.RecordLaws.{few}
use Rattle.intent_meta.proofs.intent_record.IntentRecord.put_head.Goals as goal

pub overflow_cast-entries : goal.overflow_cast-entries
overflow_cast-entries c = omega (arith, few c.args.self.now c.entries.ensures.rules, ap length c.entries.ensures.value)
