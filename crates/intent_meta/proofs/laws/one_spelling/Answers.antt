use Rattle.intent_meta.proofs.RecordLaws.{record_of-record_bytes, IsRecordOf-record_of}
use Rattle.intent_meta.proofs.laws.one_spelling.Goals as goal

pub returns : goal.returns
returns c = record { again = record_of-record_bytes; back = IsRecordOf-record_of }
