use Rattle.std.proofs.Common.{◌≡◌, ◌+◌, ◌∙◌, ap, sym, arith}
use Rattle.std.specs.Prelude.{option_map}
use Rattle.mvcc_key.specs.History.{Entry, Body, entry_at}
use Rattle.mvcc_value.specs.views.Seen.{seen_body}
use Rattle.write_rule.specs.Write.{entry_below}
use Rattle.write_rule.proofs.OwnLaws.{zero_from, none_below_zero, below_is_seen}
use Rattle.write_rule.proofs.own_intent.OwnIntent.entry_below.Goals as goal

pub returns-in_err-last : goal.returns-in_err-last
returns-in_err-last c = λ who i own.
    let txn = c.args.self.txn.now in
    let none = sym c.sequence.ensures.value ∙ zero_from c.sequence.result c.in_err-last.ensures in
    let below = ap (λ n. entry_below n txn.ignored i.entries) none ∙ none_below_zero txn.ignored i.entries in
    ap (option_map seen_body) c.from_residual.ensures ∙ sym (ap (option_map (λ (e : Entry Body). e.value)) below)

pub returns : goal.returns
returns c = λ who i own.
    let txn = c.args.self.txn.now in
    let next : c.in_ok-last.last + 1 ≡ txn.sequence = omega (arith, c.in_ok-last.ensures.0, c.in_ok-last.ensures.1, c.sequence.ensures.value) in
    c.value_at.ensures who i own
    ∙ ap (option_map (λ (e : Entry Body). e.value)) (ap (λ rs. entry_at c.in_ok-last.last rs i.entries) c.ignored.ensures.value ∙ below_is_seen c.in_ok-last.last txn.sequence txn.ignored i.entries next)
