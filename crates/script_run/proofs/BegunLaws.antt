-- A line begins at most one transaction.
use Rattle.std.specs.Prelude.{ℕ, ◌+◌, ◌≤◌, Bool, true, false, List, Option, Some, None, Result, Ok, Err, IfOk, is_some}
use Rattle.std.proofs.Common.{arith}
use Rattle.mvcc_key.specs.Order.{Timestamp, Key}
use Rattle.mvcc_key.specs.Refusal.{Refusal}
use Rattle.mvcc_key.specs.Steps.{◌>>=◌, unless_fault}
use Rattle.txn_state.specs.Transaction.{Txn, TxnRefusal, begun, stepped, advanced, restarted, refreshed, ignoring}
use Rattle.write_rule.specs.Write.{WriteKind}
use Rattle.mvcc_engine.specs.Step as engine
use Rattle.mvcc_engine.specs.Step.{Reply, Stepped, step}
use Rattle.script_line.specs.Grammar as grammar
use Rattle.script_line.specs.Grammar.{Line, Who, parse}
use Rattle.script_text.specs.Text.{Answer, Reason, TxnExists}
use Rattle.script_run.specs.Named.{look_up}
use Rattle.script_run.specs.Output.{ScriptState, Carried, actor, carried, carry_out, finished, got, laid_out, new_id, or_refused, perform, perform_read, resolved, resolved_range, statistics_shown, txn_by_rule, txn_dropped, txn_kept, txn_named, update_named, with_txn, without_return, wrote, write, write_command}

-- no more than one transaction was begun since
abbrev BeginsOne : ScriptState → Carried → Type 0
BeginsOne s c = c.state.begun ≤ s.begun + 1

-- what may be refused first
then-begins : {A : Type 0} (s : ScriptState) (r : Result A Reason) (f : A → Result Carried Reason) → ((x : A) → IfOk (f x) (BeginsOne s)) → IfOk (r >>= f) (BeginsOne s)
then-begins s (Ok x) f each = each x
then-begins s (Err why) f each = tt

-- a command of the engine begins none
carried-begins : (s : ScriptState) (shown : Reply → List Answer) (answer : Result Stepped Refusal) → IfOk (carried s shown answer) (BeginsOne s)
carried-begins s shown (Ok done) = omega arith
carried-begins s shown (Err why) = tt

-- neither does a change of one
with_txn-begins : (s : ScriptState) (name : List ℕ) (rule : Txn → Result Txn TxnRefusal) → IfOk (with_txn s name rule) (BeginsOne s)
with_txn-begins s name rule = then-begins s (txn_by_rule s.txns name rule) (λ t. Ok (txn_kept s name t)) (λ t. omega arith)

-- nor a write
write-begins : (s : ScriptState) (key : Key) (who : Who) (kind : WriteKind) (local : Timestamp) → IfOk (write s key who kind local) (BeginsOne s)
write-begins s key who kind local =
    then-begins s (actor s.txns who) (λ a. carried s wrote (step s.engine (write_command key a kind local))) (λ a. carried-begins s wrote (step s.engine (write_command key a kind local)))

-- what a line says begins at most one
perform-begins : (s : ScriptState) (said : Line) → IfOk (perform s said) (BeginsOne s)
perform-begins s grammar.Blank = omega arith
perform-begins s (grammar.TxnBegin name ts limit id) = by (is_some (look_up name s.txns))
  where
    by : (b : Bool) → IfOk (unless_fault b TxnExists s >>= λ free. Ok (txn_kept (record free { begun = free.begun + 1 }) name (begun (new_id s id) ts limit))) (BeginsOne s)
    by true = tt
    by false = omega arith
perform-begins s (grammar.TxnStep name n) = with_txn-begins s name (stepped n)
perform-begins s (grammar.TxnAdvance name ts) = with_txn-begins s name (λ t. Ok (advanced ts t))
perform-begins s (grammar.TxnRestart name ts) = with_txn-begins s name (restarted ts)
perform-begins s (grammar.TxnRefresh name) = with_txn-begins s name (λ t. Ok (refreshed t))
perform-begins s (grammar.TxnIgnoreSeqs name ranges) = with_txn-begins s name (ignoring ranges)
perform-begins s (grammar.TxnRemove name) = then-begins s (txn_named s.txns name) (λ t. Ok (txn_dropped s name)) (λ t. omega arith)
perform-begins s (grammar.Put key value who local) = write-begins s key who (WriteKind.Put value) local
perform-begins s (grammar.Del key who local) = write-begins s key who WriteKind.Delete local
perform-begins s (grammar.ConditionalPut key value who expected local) = write-begins s key who (WriteKind.ConditionalPut value expected) local
perform-begins s (grammar.InitPut key value who local) = write-begins s key who (WriteKind.InitPut value) local
perform-begins s (grammar.Increment key who by local) = write-begins s key who (WriteKind.Increment by) local
perform-begins s (grammar.Resolve name key status ts) =
    then-begins s (update_named s.txns name status ts) (λ u. carried s resolved (step s.engine (engine.Resolve key u))) (λ u. carried-begins s resolved (step s.engine (engine.Resolve key u)))
perform-begins s (grammar.ResolveRange name start end status ts max) =
    then-begins s (update_named s.txns name status ts) (λ u. carried s resolved_range (step s.engine (engine.ResolveRange start end u max)))
    (λ u. carried-begins s resolved_range (step s.engine (engine.ResolveRange start end u max)))
perform-begins s (grammar.Get key ts) = carried-begins s (got key) (step s.engine (engine.Get key ts))
perform-begins s (grammar.Age now) = carried-begins s finished (step s.engine (engine.Age now))
perform-begins s grammar.Stats = carried-begins s statistics_shown (step s.engine engine.Stats)
perform-begins s grammar.Flush = carried-begins s finished (step s.engine engine.Flush)
perform-begins s (grammar.Compact keep) = carried-begins s finished (step s.engine (engine.Compact keep))
perform-begins s grammar.Layout = carried-begins s laid_out (step s.engine engine.Layout)

-- so does a line
pub carry_out-begins : (s : ScriptState) (n : ℕ) (line : List ℕ) → (carry_out s n line).state.begun ≤ s.begun + 1
unfolding carry_out
carry_out-begins s n line = by (perform_read s n (parse (without_return line))) (read (parse (without_return line)))
  where
    read : (o : Option Line) → IfOk (perform_read s n o) (BeginsOne s)
    read None = tt
    read (Some said) = perform-begins s said

    by : (r : Result Carried Reason) → IfOk r (BeginsOne s) → (or_refused s r).state.begun ≤ s.begun + 1
    by (Ok done) low = low
    by (Err why) low = omega arith
