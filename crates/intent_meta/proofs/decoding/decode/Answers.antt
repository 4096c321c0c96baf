use Rattle.std.proofs.Common.{arith}
use Rattle.intent_meta.proofs.FieldLaws.{IsRecordOf-record_in}
use Rattle.intent_meta.proofs.decoding.decode.Goals as goal

pub returns-clause-spelled : goal.returns-clause-spelled
returns-clause-spelled c =
    rw c.over.ensures (IsRecordOf-record_in c.args.bytes.now (λ i. omega (arith, c.type_inv.bytes i)) c.in_ok-check.ensures)
