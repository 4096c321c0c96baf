-- The record and the version of the intent that is moved.
use Rattle.std.proofs.Common.{◌≡◌, ℕ, ◌≤◌, ◌∙◌, List, ap, sym, length, subst, arith}
use Rattle.mvcc_key.specs.Limits.{max_count, max_stored_length}
use Rattle.mvcc_key.specs.History.{Entry, is_deletion}
use Rattle.mvcc_key.specs.views.Seen.{time_of}
use Rattle.mvcc_value.specs.Encoding.{is_value_length, value_bytes}
use Rattle.mvcc_value.specs.views.Seen.{seen_body}
use Rattle.mvcc_value.proofs.LengthLaws.{is_value_length-value_bytes}
use Rattle.intent_meta.specs.Record.{is_entry_value}
use Rattle.intent_meta.specs.views.Lent.{LentIntent}
use Rattle.intent_meta.proofs.FieldLaws.{IsRecordOf-record_in}
use Rattle.intent_meta.proofs.ReadBackLaws.{IsEncodable-stored}
use Rattle.write_rule.proofs.OpsLaws.{value_short}
use Rattle.mvcc_cursor.specs.views.Lent.{LentVersion}
use Rattle.intent_resolve.specs.views.Left as left
use Rattle.intent_resolve.specs.views.Left.{seen_new}
use Rattle.intent_resolve.proofs.EntryLaws.{stored-plain, moved-body, moved-left}
use Rattle.intent_resolve.proofs.resolution.moved.Goals as goal

pub plain_body-body-requires : goal.plain_body-body-requires
plain_body-body-requires c = ap is_entry_value (c.as_slice.ensures ∙ ap (λ (e : Entry (List ℕ)). e.value) c.last.view_is) ∙ stored-plain c.args.last.now c.requires.last

pub new-head-requires-clause-epoch_limit : goal.new-head-requires-clause-epoch_limit
new-head-requires-clause-epoch_limit c =
    let head = c.args.own.head in
    let rules = (IsRecordOf-record_in head.bytes.now head.are_bytes head.are_read).is_record in
    subst (λ n. n ≤ max_count) (sym c.epoch.ensures) rules.epoch

pub new-head-requires-clause-sequence_limit : goal.new-head-requires-clause-sequence_limit
new-head-requires-clause-sequence_limit c =
    let last = c.requires.last in
    subst (λ n. n ≤ max_count) (sym (ap (λ (e : Entry (List ℕ)). e.sequence) (c.last.view_is ∙ last.is))) (last.stored).sequence

pub new-head-requires-clause-value : goal.new-head-requires-clause-value
new-head-requires-clause-value c =
    let body = seen_body c.plain_body-body.result in
    let bytes = ap length (c.as_slice-2.ensures ∙ ap (λ (v : LentVersion). v.value) c.in_ok-version.ensures) in
    ap (λ b. is_value_length b (length c.as_slice-2.result.now)) c.is_deletion.ensures ∙ ap (is_value_length (is_deletion body)) bytes
    ∙ is_value_length-value_bytes body (time_of c.moved_local.result) (time_of c.args.ts)

pub returns : goal.returns
returns c = λ i es of coded e.
    let last = c.args.last.now in
    let body = seen_body c.plain_body-body.result in
    let ids = c.id.ensures ∙ ap (λ (l : LentIntent). l.head.id) of.lent in
    let epochs = c.epoch.ensures ∙ ap (λ (l : LentIntent). l.head.epoch) of.lent in
    let bodies = moved-body i es c.args.before last e (time_of c.args.ts) body coded (λ b plain is. c.plain_body-body.ensures b plain (c.as_slice.ensures ∙ ap (λ (e : Entry (List ℕ)). e.value) c.last.view_is ∙ is)) in
    let values = ap (λ (v : LentVersion). v.value) c.in_ok-version.ensures in
    let lengths = ap length c.as_slice-2.ensures in
    let heads = c.new-head.ensures ∙ λ j. record { id = c.id.result; epoch = c.epoch.result; sequence = c.last.inside.sequence; ts = time_of c.args.ts; deleted = c.is_deletion.result; value_length = lengths j; history = c.args.before } in
    ap (λ (v : LentVersion). left.Stays c.from_vec.result v) (λ j. record { ts = ap (λ (w : LentVersion). w.ts) c.in_ok-version.ensures j; value = (seen_new c.in_ok-version.version).value })
    ∙ moved-left i es c.args.before last e (time_of c.args.ts) c.id.result c.epoch.result body (time_of c.moved_local.result) (seen_new c.in_ok-version.version).value c.is_deletion.result c.new-head.result
    c.from_vec.result c.last.inside.sequence (ap (λ (e : Entry (List ℕ)). e.sequence) c.last.view_is) heads ids epochs bodies (c.moved_local.ensures i of) c.is_deletion.ensures values (c.from_vec.ensures ∙ c.in_ok-encode.ensures.bytes)

pub overflow_cast-as_slice : goal.overflow_cast-as_slice
overflow_cast-as_slice c =
    let of = c.requires.last in
    let b = (of.entry).value in
    let body : seen_body c.plain_body-body.result ≡ b =
    c.plain_body-body.ensures b (IsEncodable-stored b (of.stored).body) (c.as_slice.ensures ∙ ap (λ (e : Entry (List ℕ)). e.value) (c.last.view_is ∙ of.is)) in
    let bytes = c.as_slice-2.ensures ∙ ap (λ (v : LentVersion). v.value) c.in_ok-version.ensures ∙ ap (λ x. value_bytes x (time_of c.moved_local.result) (time_of c.args.ts)) body in
    let short : length c.as_slice-2.result.now ≤ max_stored_length = subst (λ (l : List ℕ). length l ≤ max_stored_length) (sym bytes) (value_short b (time_of c.moved_local.result) (time_of c.args.ts) (of.stored).body) in
    omega (arith, short)
