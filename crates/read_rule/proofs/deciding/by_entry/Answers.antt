use Rattle.std.proofs.Common.{◌≡◌, Some, sym, ◌∙◌}
use Rattle.std.proofs.lemmas.Bool.{eqb-true}
use Rattle.std.specs.Option.{option_map}
use Rattle.intent_meta.specs.views.Lent.{seen_intent_at, lent_intent}
use Rattle.txn_state.specs.Transaction.{In}
use Rattle.read_rule.proofs.AnswerLaws.{own_is_seen, empty_entry, found_entry, some_bytes}
use Rattle.read_rule.proofs.deciding.by_entry.Goals as goal

pub returns-then-is_empty : goal.returns-then-is_empty
returns-then-is_empty c = λ r k who h own seen.
    let lent : Some (seen_intent_at c.in-Some-In.intent) ≡ option_map lent_intent k.intent = rw c.in-Some-In.is-0 at seen in
    let who_is : In c.in-Some-In.txn.now ≡ r.who = rw c.in-Some-In.is-1 at who in
    let mine = own_is_seen r k own (seen_intent_at c.in-Some-In.intent) c.in-Some-In.txn.now c.in-Some.value.now h who_is lent c.in-Some.ensures in
    empty_entry r k own c.in-Some.value.now mine.value_is (eqb-true _ _ (sym c.is_empty.ensures ∙ c.if-is_empty.true))

pub returns : goal.returns
returns c = λ r k who h own seen.
    let lent : Some (seen_intent_at c.in-Some-In.intent) ≡ option_map lent_intent k.intent = rw c.in-Some-In.is-0 at seen in
    let who_is : In c.in-Some-In.txn.now ≡ r.who = rw c.in-Some-In.is-1 at who in
    let t = c.in-Some-In.txn.now in
    let mine = own_is_seen r k own (seen_intent_at c.in-Some-In.intent) t c.in-Some.value.now h who_is lent c.in-Some.ensures in
    found_entry r k own t.sequence t.ignored c.in-Some.value.now _ h mine.entry_is mine.value_is (some_bytes c.in-Some.value.now (sym c.is_empty.ensures ∙ c.if-is_empty.false)) (c.ts.ensures ∙ mine.ts_is)
