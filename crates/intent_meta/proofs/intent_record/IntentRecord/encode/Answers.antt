use Rattle.std.proofs.Common.{◌≡◌, ◌++◌, ℕ, List, None, length, arith, ap, ◌∙◌}
use Rattle.std.specs.List.{flat_map}
use Rattle.mvcc_key.specs.History.{Entry}
use Rattle.intent_meta.specs.Record.{entry_bytes, head_bytes, record_bytes, record_of}
use Rattle.intent_meta.proofs.RecordLaws.{record_of-record_bytes}
use Rattle.intent_meta.proofs.FieldLaws.{AreWhole-entries}
use Rattle.intent_meta.proofs.EncodingLaws.{length-record_bytes, record_bytes-parts}
use Rattle.intent_meta.proofs.intent_record.IntentRecord.encode.Goals as goal

pub put_head-requires : goal.put_head-requires
put_head-requires c =
    omega (arith, c.in_ok-out.ensures.len, c.in_ok-out.ensures.exact, c.encoded_len.ensures.value, length-record_bytes c.args.self.now c.encoded_len.ensures.rules)

pub put_entries-requires-clause-whole : goal.put_entries-requires-clause-whole
put_entries-requires-clause-whole c =
    rw c.entries.ensures.value (AreWhole-entries None c.args.self.now.sequence c.args.self.now.history c.entries.ensures.rules.entries)

pub put_entries-requires-clause-room : goal.put_entries-requires-clause-room
put_entries-requires-clause-room c =
    let count = ap (λ (es : List (Entry (List ℕ))). length (flat_map entry_bytes es)) c.entries.ensures.value in
    omega (
      arith,
      c.in_ok-out.ensures.len,
      c.in_ok-out.ensures.exact,
      c.encoded_len.ensures.value,
      length-record_bytes c.args.self.now c.encoded_len.ensures.rules,
      c.put_head.ensures.len,
      c.put_head.ensures.room,
      count,
    )

pub returns : goal.returns
returns c =
    let head : c.put_head.new.out.items ≡ head_bytes c.args.self.now =
    c.put_head.ensures.items ∙ ap (λ (xs : List ℕ). xs ++ head_bytes c.args.self.now) c.in_ok-out.ensures.items in
    let bytes : c.put_entries.new.out.items ≡ record_bytes c.args.self.now =
    record_bytes-parts c.args.self.now c.put_entries.new.out.items (
    c.put_entries.ensures ∙ ap (λ (xs : List ℕ). xs ++ flat_map entry_bytes c.entries.result.now) head
    ∙ ap (λ (es : List (Entry (List ℕ))). head_bytes c.args.self.now ++ flat_map entry_bytes es) c.entries.ensures.value
    ) in
    record { bytes = bytes; read = ap record_of bytes ∙ record_of-record_bytes c.args.self.now c.entries.ensures.rules }
