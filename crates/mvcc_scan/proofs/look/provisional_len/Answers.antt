-- The record of an own intent tells the length of its provisional value.
use Rattle.std.proofs.Common.{sym, ap₂, subst, ◌∙◌}
use Rattle.txn_state.specs.Transaction.{own_txn}
use Rattle.mvcc_cursor.specs.WellFormed.{history_in}
use Rattle.mvcc_cursor.specs.views.Seen.{seen, told_by}
use Rattle.mvcc_cursor.specs.views.ToldWhole.{told-whole}
use Rattle.intent_meta.specs.views.Lent.{seen_intent_at}
use Rattle.mvcc_scan.specs.views.Kept.{IsLength}
use Rattle.mvcc_scan.proofs.LengthLaws.{lent_none-length, lent_foreign-length, lent_unseen-length, lent_seen-length, sees_last}
use Rattle.mvcc_scan.proofs.look.provisional_len.Goals as goal

pub returns-in_err-intent : goal.returns-in_err-intent
returns-in_err-intent c = λ r who.
    let k = told_by c.args.cursor.now in
    subst (IsLength r k) (sym c.from_residual.ensures) (lent_none-length r k c.in_err-intent.ensures)

pub returns-in_err-txn : goal.returns-in_err-txn
returns-in_err-txn c = λ r who.
    let k = told_by c.args.cursor.now in
    subst (IsLength r k) (sym c.from_residual-in_err-txn.ensures)
    (lent_foreign-length r k (seen_intent_at c.in_ok-intent.intent) c.in_ok-intent.ensures
    (ap₂ own_txn (sym (c.from.ensures ∙ c.id.ensures)) (sym who) ∙ sym c.in_err-txn.ensures))

pub returns-then-sees_last : goal.returns-then-sees_last
returns-then-sees_last c = λ r who.
    let cursor = c.args.cursor.now in
    lent_seen-length r (told_by cursor) (seen_intent_at c.in_ok-intent.intent) c.in_ok-txn.txn.now (told-whole (seen cursor).at (history_in (seen cursor).store) cursor.well_formed.valid) c.in_ok-intent.ensures
    (ap₂ own_txn (sym (c.from.ensures ∙ c.id.ensures)) (sym who) ∙ sym c.in_ok-txn.ensures)
    (ap₂ (sees_last c.in_ok-txn.txn.now) (sym c.epoch.ensures) (sym c.sequence.ensures) ∙ sym c.sees_last.ensures ∙ c.if-sees_last.true)
    c.value_len.result c.value_len.ensures

pub returns-else-sees_last : goal.returns-else-sees_last
returns-else-sees_last c = λ r who.
    lent_unseen-length r (told_by c.args.cursor.now) (seen_intent_at c.in_ok-intent.intent) c.in_ok-txn.txn.now c.in_ok-intent.ensures
    (ap₂ own_txn (sym (c.from.ensures ∙ c.id.ensures)) (sym who) ∙ sym c.in_ok-txn.ensures)
    (ap₂ (sees_last c.in_ok-txn.txn.now) (sym c.epoch.ensures) (sym c.sequence.ensures) ∙ sym c.sees_last.ensures ∙ c.if-sees_last.false)
