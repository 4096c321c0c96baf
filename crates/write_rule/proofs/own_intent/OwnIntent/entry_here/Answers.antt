use Rattle.std.proofs.Common.{◌≡◌, ◌+◌, ◌∙◌, [], ◌∷◌, ap, sym, arith}
use Rattle.std.specs.Prelude.{option_map, find, ◌==◌}
use Rattle.mvcc_key.specs.History.{Entry, Body, entry_at}
use Rattle.intent_meta.specs.views.Seen.{seen_intent}
use Rattle.intent_meta.proofs.FieldLaws.{IsRecordOf-record_in}
use Rattle.write_rule.proofs.OwnLaws.{zero_from, here_zero, here_some}
use Rattle.write_rule.proofs.own_intent.OwnIntent.entry_here.Goals as goal

pub returns-in-Some : goal.returns-in-Some
returns-in-Some c = λ who i own.
    let txn = c.args.self.txn.now in
    let head = c.args.self.head in
    let rules = (IsRecordOf-record_in head.bytes.now head.are_bytes head.are_read).is_record in
    let last = c.in-Some.last in
    let next : last + 1 ≡ txn.sequence = omega (arith, c.in-Some.ensures.0, c.in-Some.ensures.1, c.sequence-sequence.ensures.value) in
    c.value_at.ensures who i own
    ∙ ap (option_map (λ (e : Entry Body). e.value)) (ap (λ n. entry_at n (record { first = 0; last = last } ∷ []) i.entries) c.sequence-sequence.ensures.value
    ∙ here_some last txn.sequence (seen_intent head) i next (ap (λ l. l.head) own.lent) rules)

pub returns-in-None : goal.returns-in-None
returns-in-None c = λ who i own.
    let txn = c.args.self.txn.now in
    let head = c.args.self.head in
    let rules = (IsRecordOf-record_in head.bytes.now head.are_bytes head.are_read).is_record in
    let none = zero_from c.sequence-sequence.result c.in-None.ensures in
    c.value_at-in-None.ensures who i own
    ∙ ap (option_map (λ (e : Entry Body). e.value)) (ap (λ n. entry_at n [] i.entries) none
    ∙ here_zero (seen_intent head) i (ap (λ l. l.head) own.lent) rules ∙ ap (λ n. find (λ e. e.sequence == n) i.entries) (sym none ∙ c.sequence-sequence.ensures.value))
