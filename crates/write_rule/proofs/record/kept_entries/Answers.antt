use Rattle.std.proofs.Common.{◌≡◌, true, ◌∙◌, ap, sym, subst, List, ℕ, map}
use Rattle.std.specs.Prelude.{IfOk}
use Rattle.mvcc_key.specs.History.{Entry}
use Rattle.intent_meta.specs.StoredPairs.{plain_entry}
use Rattle.txn_state.specs.Transaction.{In}
use Rattle.write_rule.specs.Write.{own_intent, kept_entries}
use Rattle.write_rule.proofs.NewRecordLaws.{has_own, own_counts}
use Rattle.write_rule.proofs.record.kept_entries.Goals as goal

pub returns-in-Some-clause-entries : goal.returns-in-Some-clause-entries
returns-in-Some-clause-entries c = λ i are.
    let who = In c.args.txn.now in
    let own = has_own c.in-Some.own c.args.own who i c.in-Some.is are in
    let epoch = sym (c.is_of_epoch.ensures.of who own.intent own.own_is) ∙ c.if-is_of_epoch.true in
    let counts = ap (λ o. own_intent o who) own.is ∙ own_counts c.in-Some.own who own.intent true own.own_is epoch in
    subst (λ (es : List (Entry (List ℕ))). IfOk c.kept.result (λ left. left ≡ es)) (ap (λ o. map plain_entry (kept_entries o)) (sym counts)) (c.kept.ensures.entries who own.intent own.own_is)
