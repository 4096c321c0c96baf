-- Changes of transactions.
use Rattle.std.specs.Prelude.{◌≡◌, Result, Ok, Err}
use Rattle.mvcc_key.specs.views.Seen.{time_of}
use Rattle.txn_state.specs.Transaction.{Txn, TxnRefusal, stepped, advanced, restarted, refreshed, ignoring}
use Rattle.txn_state.specs.views.Seen.{ranges_of}
use Rattle.script_text.specs.Text.{Reason}
use Rattle.script_run.specs.views.Told.{told_by, Tells}
use Rattle.script_run.specs.declared.stop.CommandStop.{CommandStop}
use Rattle.script_run.specs.declared.change.TxnChange.{TxnChange}
use Rattle.script_run.specs.declared.change.TxnChange.TheVariants as change

-- the rule of a change
abbrev pub rule_of : TxnChange → Txn → Result Txn TxnRefusal
rule_of (change.Step n) = stepped n
rule_of (change.Advance ts) = λ t. Ok (advanced (time_of ts) t)
rule_of (change.Restart ts) = restarted (time_of ts)
rule_of change.Refresh = λ t. Ok (refreshed t)
rule_of (change.IgnoreSeqs ranges) = ignoring (ranges_of ranges.now)

-- a transaction is changed as the answer says; a change that is refused leaves it
abbrev pub Changes : {A : Type 0} → Result A CommandStop → Result Txn Reason → Txn → Txn → Type 0
Changes (Ok done) answer old new = answer ≡ Ok new
Changes (Err stop) answer old new = (new ≡ old) × Tells (told_by stop) answer
