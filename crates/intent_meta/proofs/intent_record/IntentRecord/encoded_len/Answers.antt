use Rattle.std.proofs.Common.{ℕ, List, length, arith, ap}
use Rattle.std.specs.List.{flat_map}
use Rattle.mvcc_key.specs.History.{Entry}
use Rattle.intent_meta.specs.Record.{entry_bytes}
use Rattle.intent_meta.proofs.EncodingLaws.{record-entries_le, length-record_bytes}
use Rattle.intent_meta.proofs.intent_record.IntentRecord.encoded_len.Goals as goal

pub entries_len-requires : goal.entries_len-requires
entries_len-requires c =
    let most = record-entries_le c.args.self.now c.entries.ensures.rules in
    rw c.entries.ensures.value (omega arith)

pub overflow_add-result : goal.overflow_add-result
overflow_add-result c =
    let most = record-entries_le c.args.self.now c.entries.ensures.rules in
    omega (arith, c.entries_len.ensures, ap (λ (es : List (Entry (List ℕ))). length (flat_map entry_bytes es)) c.entries.ensures.value)

pub returns-clause-value : goal.returns-clause-value
returns-clause-value c =
    omega (arith, c.entries_len.ensures, ap (λ (es : List (Entry (List ℕ))). length (flat_map entry_bytes es)) c.entries.ensures.value, length-record_bytes c.args.self.now c.entries.ensures.rules)
