-- What the commands of transactions come to.
use Rattle.std.specs.Prelude.{◌≡◌, ℕ, ◌+◌, true, false, List, [], ◌∷◌, ◌++◌, Option, Some, None, Result, Ok, Err, is_some, unwrap_or}
use Rattle.std.specs.Int.{w128, to_be_bytes}
use Rattle.std.proofs.Common.{refl, sym, ap, ◌∙◌, subst, append-nil}
use Rattle.mvcc_key.specs.Steps.{◌>>=◌, unless_fault}
use Rattle.mvcc_key.specs.Order.{Timestamp}
use Rattle.txn_state.specs.Transaction.{Txn, TxnRefusal, begun}
use Rattle.script_line.specs.Grammar.{Line, TxnBegin, TxnRemove}
use Rattle.script_text.specs.Text.{Reason, NoTxn, TxnExists, Accepted, TxnLine, show}
use Rattle.script_run.specs.Named.{Named, look_up, keep, drop_name}
use Rattle.script_run.specs.Output.{ScriptState, Carried, accepted, by_rule, new_id, or_no_txn, perform, performed, txn_dropped, txn_kept, with_txn}
use Rattle.script_run.specs.views.Answered.{IsAnswered, IsRefusedOr}
use Rattle.script_run.specs.views.Told.{Tells}
use Rattle.script_run.proofs.NamedLaws.{keep-same, drop_name-unknown}
use Rattle.script_run.proofs.StepLaws.{is_taken, is_refused}

-- one line behind a text
one_line : (old new line : List ℕ) → new ≡ old ++ line → new ≡ old ++ (line ++ [])
one_line old new line is = is ∙ ap (λ t. old ++ t) (sym (append-nil line))

-- v is the state as it is viewed
module _ (old new : List ℕ) (v s : ScriptState) (v_is : v ≡ s) (name : List ℕ) where
  -- a line that changes the transaction of the name by a rule
  module _ (said : Line) (rule : Txn → Result Txn TxnRefusal) (is : perform s said ≡ with_txn s name rule) where
    -- so it does of the state as it is viewed
    as_viewed : perform v said ≡ with_txn v name rule
    as_viewed = subst (λ t. perform t said ≡ with_txn t name rule) (sym v_is) is

    -- what the rule answers of the transaction that is there
    by_answer : (t : Txn) → look_up name v.txns ≡ Some t → perform v said ≡ by_rule (rule t) >>= λ u. Ok (txn_kept v name u)
    by_answer t there = as_viewed ∙ ap (λ o. (or_no_txn o >>= λ u. by_rule (rule u)) >>= λ u. Ok (txn_kept v name u)) there

    -- a change that the rule takes is answered
    pub changed : (t u : Txn) (txns : List (Named Txn)) → look_up name v.txns ≡ Some t → by_rule (rule t) ≡ Ok u → txns ≡ keep name u v.txns
        → new ≡ old ++ show (TxnLine name u) → IsAnswered (performed s said) (record v { txns = txns }) old new
    changed t u txns there ruled kept shown =
        subst (λ k. IsAnswered (performed k said) (record v { txns = txns }) old new) v_is
        (is_taken v (record v { txns = txns }) said old new (TxnLine name u) []
        (by_answer t there ∙ ap (λ r. r >>= λ w. Ok (txn_kept v name w)) ruled
        ∙ ap (λ table. Ok (record { state = record v { txns = table }; answers = TxnLine name u ∷ [] })) (sym kept))
        (one_line old new (show (TxnLine name u)) shown))

    -- one that it refuses leaves the table
    pub unchanged : (t u : Txn) (txns : List (Named Txn)) (o : Option Reason) → look_up name v.txns ≡ Some t → Tells o (by_rule (rule t)) → u ≡ t → txns ≡ keep name u v.txns → new ≡ old
        → IsRefusedOr o (performed s said) s (record v { txns = txns }) old new
    unchanged t u txns o there told same kept text =
        subst (λ k. IsRefusedOr o (performed k said) k (record v { txns = txns }) old new) v_is
        (is_refused v (record v { txns = txns }) said old new o (tells o told) (ap (λ table. record v { txns = table }) (kept ∙ ap (λ w. keep name w v.txns) same ∙ keep-same name t v.txns there)) text)
      where
        tells : (p : Option Reason) → Tells p (by_rule (rule t)) → Tells p (perform v said)
        tells None said_nothing = tt
        tells (Some why) denied = by_answer t there ∙ ap (λ r. r >>= λ w. Ok (txn_kept v name w)) denied

    -- where the name stands for nothing no rule is asked
    pub unknown : (txns : List (Named Txn)) → look_up name v.txns ≡ None → txns ≡ v.txns → new ≡ old
        → IsRefusedOr (Some NoTxn) (performed s said) s (record v { txns = txns }) old new
    unknown txns none same text =
        subst (λ k. IsRefusedOr (Some NoTxn) (performed k said) k (record v { txns = txns }) old new) v_is
        (is_refused v (record v { txns = txns }) said old new (Some NoTxn)
        (as_viewed ∙ ap (λ o. (or_no_txn o >>= λ u. by_rule (rule u)) >>= λ u. Ok (txn_kept v name u)) none)
        (ap (λ table. record v { txns = table }) same) text)

  -- a name that is taken
  pub begin-exists : (ts limit : Timestamp) (id : Option (List ℕ)) → is_some (look_up name v.txns) ≡ true → new ≡ old
      → IsRefusedOr (Some TxnExists) (performed s (TxnBegin name ts limit id)) s s old new
  begin-exists ts limit id there text =
      subst (λ k. IsRefusedOr (Some TxnExists) (performed k (TxnBegin name ts limit id)) k k old new) v_is
      (is_refused v v (TxnBegin name ts limit id) old new (Some TxnExists)
      (ap (λ b. unless_fault b TxnExists v >>= λ free. Ok (txn_kept (record free { begun = free.begun + 1 }) name (begun (new_id v id) ts limit))) there) refl text)

  -- a new transaction
  pub begin-taken : (ts limit : Timestamp) (id : Option (List ℕ)) (t : Txn) (txns : List (Named Txn)) → is_some (look_up name v.txns) ≡ false
      → t ≡ begun (unwrap_or id (to_be_bytes w128 (v.begun + 1))) ts limit → txns ≡ keep name t v.txns → new ≡ old ++ show (TxnLine name t)
      → IsAnswered (performed s (TxnBegin name ts limit id)) (record v { txns = txns; begun = v.begun + 1 }) old new
  begin-taken ts limit id t txns free is kept shown =
      subst (λ k. IsAnswered (performed k (TxnBegin name ts limit id)) (record v { txns = txns; begun = v.begun + 1 }) old new) v_is
      (is_taken v (record v { txns = txns; begun = v.begun + 1 }) (TxnBegin name ts limit id) old new (TxnLine name t) []
      (ap (λ b. unless_fault b TxnExists v >>= λ f. Ok (txn_kept (record f { begun = f.begun + 1 }) name (begun (new_id v id) ts limit))) free
      ∙ ap (λ u. Ok (txn_kept (record v { begun = v.begun + 1 }) name u)) (sym is)
      ∙ ap (λ table. Ok (record { state = record v { txns = table; begun = v.begun + 1 }; answers = TxnLine name t ∷ [] })) (sym kept))
      (one_line old new (show (TxnLine name t)) shown))

  -- what a removal answers of what stands under the name
  abbrev drops : Option Txn → Result Carried Reason
  drops o = or_no_txn o >>= λ t. Ok (txn_dropped v name)

  -- a name that goes
  pub remove-taken : (txns : List (Named Txn)) → is_some (look_up name v.txns) ≡ true → txns ≡ drop_name name v.txns → new ≡ old ++ show Accepted
      → IsAnswered (performed s (TxnRemove name)) (record v { txns = txns }) old new
  remove-taken txns there gone shown =
      subst (λ k. IsAnswered (performed k (TxnRemove name)) (record v { txns = txns }) old new) v_is
      (is_taken v (record v { txns = txns }) (TxnRemove name) old new Accepted [] (by (look_up name v.txns) there ∙ ap (λ table. Ok (record { state = record v { txns = table }; answers = accepted })) (sym gone))
      (one_line old new (show Accepted) shown))
    where
      by : (o : Option Txn) → is_some o ≡ true → drops o ≡ Ok (txn_dropped v name)
      by None some = cc
      by (Some t) some = refl

  -- a name that stands for nothing
  pub remove-unknown : (txns : List (Named Txn)) → is_some (look_up name v.txns) ≡ false → txns ≡ drop_name name v.txns → new ≡ old
      → IsRefusedOr (Some NoTxn) (performed s (TxnRemove name)) s (record v { txns = txns }) old new
  remove-unknown txns none gone text =
      subst (λ k. IsRefusedOr (Some NoTxn) (performed k (TxnRemove name)) k (record v { txns = txns }) old new) v_is
      (is_refused v (record v { txns = txns }) (TxnRemove name) old new (Some NoTxn) (by (look_up name v.txns) none)
      (ap (λ table. record v { txns = table }) (gone ∙ drop_name-unknown name v.txns none)) text)
    where
      by : (o : Option Txn) → is_some o ≡ false → drops o ≡ Err NoTxn
      by None some = refl
      by (Some t) some = cc
