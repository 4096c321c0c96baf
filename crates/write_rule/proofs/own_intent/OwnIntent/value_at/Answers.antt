use Rattle.std.proofs.Common.{◌≡◌, true, ◌∙◌, ap}
use Rattle.std.specs.Prelude.{option_map}
use Rattle.mvcc_key.specs.History.{entry_at}
use Rattle.mvcc_value.specs.Encoding.{IsEncodable}
use Rattle.mvcc_value.specs.views.Seen.{seen_body}
use Rattle.intent_meta.specs.Entries.{entries_with}
use Rattle.intent_meta.specs.Record.{is_entry_value}
use Rattle.intent_meta.specs.views.Seen.{seen_intent}
use Rattle.intent_meta.proofs.FieldLaws.{IsRecordOf-record_in}
use Rattle.txn_state.specs.views.Seen.{ranges_of}
use Rattle.write_rule.specs.views.Own.{seen_own}
use Rattle.write_rule.proofs.OwnLaws.{entry_at-All, seen_value, found_value, lent_entry, none_seen, some_seen}
use Rattle.write_rule.proofs.own_intent.OwnIntent.value_at.Goals as goal

pub returns-in_err-bytes : goal.returns-in_err-bytes
returns-in_err-bytes c = λ who i own.
    let gone = c.from_residual.ensures in
    let seen = c.in_err-bytes.ensures ∙ lent_entry (seen_own c.args.self) i own.lent (own.whole).some_entry c.args.sequence (ranges_of c.args.ignored.now) in
    ap (option_map seen_body) gone ∙ none_seen (entry_at c.args.sequence (ranges_of c.args.ignored.now) i.entries) seen

pub plain_body-requires : goal.plain_body-requires
plain_body-requires c =
    let rules = (IsRecordOf-record_in c.args.self.head.bytes.now c.args.self.head.are_bytes c.args.self.head.are_read).is_record in
    let head = seen_intent c.args.self.head in
    found_value (λ bytes. is_entry_value bytes ≡ true) (entry_at c.args.sequence (ranges_of c.args.ignored.now) (entries_with head c.args.self.provisional.now)) c.in_ok-bytes.bytes.now
    (seen_value head c.args.self.provisional.now c.args.sequence (ranges_of c.args.ignored.now) rules c.args.self.plain) c.in_ok-bytes.ensures

pub returns : goal.returns
returns c = λ who i own.
    let seen = c.in_ok-bytes.ensures ∙ lent_entry (seen_own c.args.self) i own.lent (own.whole).some_entry c.args.sequence (ranges_of c.args.ignored.now) in
    some_seen (entry_at c.args.sequence (ranges_of c.args.ignored.now) i.entries) c.in_ok-bytes.bytes.now (seen_body c.plain_body.result)
    (entry_at-All (λ e. IsEncodable e.value) c.args.sequence (ranges_of c.args.ignored.now) i.entries (own.whole).bodies) seen c.plain_body.ensures
