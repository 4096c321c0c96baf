use Rattle.intent_meta.proofs.FieldLaws.{IsRecordOf-record_in}
use Rattle.intent_meta.proofs.intent_ref.IntentRef.bytes.Goals as goal

pub returns : goal.returns
returns c =
    let of = IsRecordOf-record_in c.args.self.now.bytes.now c.args.self.now.are_bytes c.args.self.now.are_read in
    record { bytes_are = of.bytes_are; rules = of.is_record }
