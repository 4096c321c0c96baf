-- The entries that are left are those that count.
use Rattle.std.proofs.Common.{◌+◌, ◌∙◌, ap, sym, None, subst, map}
use Rattle.std.specs.Prelude.{IfSome}
use Rattle.mvcc_key.specs.History.{without_ignored}
use Rattle.mvcc_key.specs.views.Seen.{range_of}
use Rattle.intent_meta.specs.Entries.{entries_with, some_entries}
use Rattle.intent_meta.specs.Rules.{AreRecordEntries}
use Rattle.intent_meta.specs.StoredPairs.{plain_entry}
use Rattle.intent_meta.specs.Valid.{IsStoredEntry}
use Rattle.intent_meta.specs.views.Seen.{seen_intent}
use Rattle.intent_meta.proofs.FieldLaws.{IsRecordOf-record_in}
use Rattle.write_rule.proofs.OwnLaws.{lent_left, some_left, provisional_entry, plain_value, plain_short}
use Rattle.intent_resolve.specs.Resolve.{dropped}
use Rattle.intent_resolve.specs.views.Own.{seen_own}
use Rattle.intent_resolve.specs.views.Seen.{update_of}
use Rattle.intent_resolve.proofs.EntryLaws.{split-entries, split-rules, split-stored, not_next}
use Rattle.intent_resolve.proofs.RuleLaws.{dropped-all}
use Rattle.intent_resolve.proofs.resolution.kept_entries.Goals as goal

pub returns-in-Some-clause-entries : goal.returns-in-Some-clause-entries
returns-in-Some-clause-entries c = λ i of.
    let seen = seen_own c.args.own in
    let ranges = map range_of c.dropped-ignored.result.now in
    split-entries c.split_last.result c.in-Some.entries (map plain_entry (dropped (update_of c.args.update.now) i).entries) c.split_last.ensures
    (sym c.in-Some.is ∙ c.in_ok-left.ensures.entries
    ∙ ap some_entries (lent_left seen i of.lent (of.whole).some_entry ranges ∙ ap (map plain_entry) (c.dropped-ignored.ensures i of)))

pub returns-in-Some-clause-rules : goal.returns-in-Some-clause-rules
returns-in-Some-clause-rules c =
    let own = c.args.own in
    let some = c.requires in
    let of = some.is in
    let rules = (IsRecordOf-record_in own.head.bytes.now own.head.are_bytes own.head.are_read).is_record in
    let head = seen_intent own.head in
    let limit = head.sequence + 1 in
    let plain = plain_value (seen_own own) some.intent (some.intent).key of.lent of.whole in
    let short = plain_short (seen_own own) some.intent of.lent rules in
    let entry = provisional_entry head own.provisional.now limit rules plain short (not_next head.sequence) in
    split-rules c.split_last.result limit c.in-Some.entries c.split_last.ensures
    (subst (λ left. IfSome left (AreRecordEntries None limit)) c.in-Some.is (c.in_ok-left.ensures.rules limit entry))

pub returns-in-Some-clause-last : goal.returns-in-Some-clause-last
returns-in-Some-clause-last c =
    let some = c.requires in
    let of = some.is in
    let i = some.intent in
    let u = update_of c.args.update.now in
    let seen = seen_own c.args.own in
    let ranges = map range_of c.dropped-ignored.result.now in
    let are = some_left c.in-Some.entries (without_ignored ranges (entries_with seen.head seen.provisional)) (sym c.in-Some.is ∙ c.in_ok-left.ensures.entries)
    ∙ lent_left seen i of.lent (of.whole).some_entry ranges ∙ ap (map plain_entry) (c.dropped-ignored.ensures i of) in
    split-stored c.split_last.result c.in-Some.entries (dropped u i).entries c.split_last.ensures are (dropped-all IsStoredEntry u i some.entries)

pub returns-in-None-clause-entries : goal.returns-in-None-clause-entries
returns-in-None-clause-entries c = λ i of.
    let seen = seen_own c.args.own in
    let ranges = map range_of c.dropped-ignored.result.now in
    sym c.in-None.is ∙ c.in_ok-left.ensures.entries
    ∙ ap some_entries (lent_left seen i of.lent (of.whole).some_entry ranges ∙ ap (map plain_entry) (c.dropped-ignored.ensures i of))
