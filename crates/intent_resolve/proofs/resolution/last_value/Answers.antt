-- The last entry that counts is the one that is seen at the greatest sequence.
use Rattle.std.proofs.Common.{◌≡◌, true, ◌∙◌, ap, map}
use Rattle.std.specs.Prelude.{option_map}
use Rattle.mvcc_key.specs.Limits.{max_count}
use Rattle.mvcc_key.specs.History.{Body, Entry, entry_at}
use Rattle.mvcc_key.specs.views.Seen.{range_of}
use Rattle.mvcc_value.specs.Encoding.{IsEncodable}
use Rattle.mvcc_value.specs.views.Seen.{seen_body}
use Rattle.intent_meta.specs.Entries.{entries_with}
use Rattle.intent_meta.specs.Record.{is_entry_value}
use Rattle.intent_meta.specs.views.Seen.{seen_intent}
use Rattle.intent_meta.proofs.FieldLaws.{IsRecordOf-record_in}
use Rattle.write_rule.proofs.OwnLaws.{entry_at-All, seen_value, found_value, lent_entry, none_seen, some_seen, plain_value}
use Rattle.intent_resolve.specs.views.Own.{seen_own}
use Rattle.intent_resolve.proofs.RuleLaws.{last-seen}
use Rattle.intent_resolve.proofs.resolution.last_value.Goals as goal

pub returns-in_err-bytes : goal.returns-in_err-bytes
returns-in_err-bytes c = λ i of.
    let head = c.args.own.head in
    let ranges = map range_of c.args.ignored.now in
    let rules = (IsRecordOf-record_in head.bytes.now head.are_bytes head.are_read).is_record in
    let seen = c.in_err-bytes.ensures ∙ lent_entry (seen_own c.args.own) i of.lent (of.whole).some_entry max_count ranges in
    ap (option_map seen_body) c.from_residual.ensures ∙ none_seen (entry_at max_count ranges i.entries) seen
    ∙ ap (option_map (λ (e : Entry Body). e.value)) (last-seen (seen_own c.args.own) i ranges of.lent rules (of.whole).some_entry)

pub plain_body-requires : goal.plain_body-requires
plain_body-requires c =
    let own = c.args.own in
    let some = c.requires in
    let of = some.is in
    let ranges = map range_of c.args.ignored.now in
    let rules = (IsRecordOf-record_in own.head.bytes.now own.head.are_bytes own.head.are_read).is_record in
    let head = seen_intent own.head in
    let plain = plain_value (seen_own own) some.intent (some.intent).key of.lent of.whole in
    found_value (λ bytes. is_entry_value bytes ≡ true) (entry_at max_count ranges (entries_with head own.provisional.now)) c.in_ok-bytes.bytes.now
    (seen_value head own.provisional.now max_count ranges rules plain) c.in_ok-bytes.ensures

pub returns : goal.returns
returns c = λ i of.
    let head = c.args.own.head in
    let ranges = map range_of c.args.ignored.now in
    let rules = (IsRecordOf-record_in head.bytes.now head.are_bytes head.are_read).is_record in
    let seen = c.in_ok-bytes.ensures ∙ lent_entry (seen_own c.args.own) i of.lent (of.whole).some_entry max_count ranges in
    some_seen (entry_at max_count ranges i.entries) c.in_ok-bytes.bytes.now (seen_body c.plain_body.result)
    (entry_at-All (λ e. IsEncodable e.value) max_count ranges i.entries (of.whole).bodies) seen c.plain_body.ensures
    ∙ ap (option_map (λ (e : Entry Body). e.value)) (last-seen (seen_own c.args.own) i ranges of.lent rules (of.whole).some_entry)
