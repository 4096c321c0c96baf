use Rattle.std.proofs.Common.{◌∙◌, ap, sym, None, subst}
use Rattle.std.specs.Prelude.{IfSome}
use Rattle.mvcc_key.specs.History.{without_ignored}
use Rattle.intent_meta.specs.Entries.{entries_with, some_entries}
use Rattle.intent_meta.specs.Rules.{AreRecordEntries}
use Rattle.intent_meta.specs.views.Seen.{seen_intent}
use Rattle.intent_meta.proofs.FieldLaws.{IsRecordOf-record_in}
use Rattle.write_rule.specs.views.Own.{seen_own}
use Rattle.write_rule.proofs.OwnLaws.{lent_left, some_left, none_left, provisional_entry}
use Rattle.write_rule.proofs.own_intent.OwnIntent.kept.Goals as goal

pub returns-in-Some-clause-entries : goal.returns-in-Some-clause-entries
returns-in-Some-clause-entries c = λ who i own.
    let seen = seen_own c.args.self in
    some_left c.in-Some.entries (without_ignored c.args.self.txn.now.ignored (entries_with seen.head seen.provisional))
    (sym c.in-Some.is ∙ c.in_ok-left.ensures.entries ∙ ap (λ rs. some_entries (without_ignored rs (entries_with seen.head seen.provisional))) c.ignored.ensures.value)
    ∙ lent_left seen i own.lent (own.whole).some_entry c.args.self.txn.now.ignored

pub returns-in-Some-clause-rules : goal.returns-in-Some-clause-rules
returns-in-Some-clause-rules c = λ later.
    let head = seen_intent c.args.self.head in
    let rules = (IsRecordOf-record_in c.args.self.head.bytes.now c.args.self.head.are_bytes c.args.self.head.are_read).is_record in
    let entry = provisional_entry head c.args.self.provisional.now c.args.self.txn.now.sequence rules c.args.self.plain c.args.self.short later in
    subst (λ left. IfSome left (AreRecordEntries None c.args.self.txn.now.sequence)) c.in-Some.is (c.in_ok-left.ensures.rules c.args.self.txn.now.sequence entry)

pub returns-in-None-clause-entries : goal.returns-in-None-clause-entries
returns-in-None-clause-entries c = λ who i own.
    let seen = seen_own c.args.self in
    c.new.ensures ∙ none_left (without_ignored c.args.self.txn.now.ignored (entries_with seen.head seen.provisional))
    (sym c.in-None.is ∙ c.in_ok-left.ensures.entries ∙ ap (λ rs. some_entries (without_ignored rs (entries_with seen.head seen.provisional))) c.ignored.ensures.value)
    ∙ lent_left seen i own.lent (own.whole).some_entry c.args.self.txn.now.ignored
