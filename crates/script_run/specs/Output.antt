-- What a run writes for a script.
use Rattle.std.specs.Prelude.{ℕ, ◌+◌, Bool, List, [], ◌∷◌, ◌++◌, Option, Some, None, Result, Ok, Err, is_some, unwrap_or, ◌==◌, if◌then◌else◌}
use Rattle.std.specs.List.{flat_map}
use Rattle.std.specs.Int.{w128, to_be_bytes}
use Rattle.mvcc_key.specs.Lists.{is_empty}
use Rattle.mvcc_key.specs.Steps.{◌>>=◌, unless_fault}
use Rattle.mvcc_key.specs.Cutting.{pieces}
use Rattle.mvcc_key.specs.Order.{Timestamp, Key}
use Rattle.mvcc_key.specs.Refusal.{Refusal}
use Rattle.lsm_store.specs.Parts.{PartShape}
use Rattle.txn_state.specs.Transaction.{Txn, Actor, At, In, TxnRefusal, begun, stepped, advanced, restarted, refreshed, ignoring}
use Rattle.write_rule.specs.Write.{WriteKind, WriteAnswer, Done, WasThere, Number}
use Rattle.intent_resolve.specs.Resolve.{TxnStatus, Update}
use Rattle.mvcc_engine.specs.Step.{State, first_state, statistics, Command, Reply, Finished, Wrote, WasFound, Took, Got, Statistics, Parts, Stepped, step}
use Rattle.script_line.specs.Grammar.{Who, AtTime, InTxn, Status, Line, parse}
use Rattle.script_text.specs.Text.{Reason, BadLine, TxnExists, NoTxn, ByTxn, ByEngine, Answer, show}
use Rattle.script_line.specs.CommandLine.{Options, Invocation, Run, invocation}
use Rattle.script_run.specs.Named.{Named, look_up, keep, drop_name}

-- the engine's state, the transactions by name, and how many were begun
pub record ScriptState : Type 0 where
  pub engine : State
  pub txns : List (Named Txn)
  pub begun : ℕ

-- nothing is stored, and no transaction was begun
abbrev pub first_script_state : ℕ → ScriptState
first_script_state count_max = record { engine = first_state count_max; txns = []; begun = 0 }

-- a line that is carried out: the state after it, and its answers
pub record Carried : Type 0 where
  pub state : ScriptState
  pub answers : List Answer

-- a transaction, where there is one
abbrev pub or_no_txn : Option Txn → Result Txn Reason
or_no_txn None = Err NoTxn
or_no_txn (Some t) = Ok t

-- the transaction of the name
abbrev pub txn_named : List (Named Txn) → List ℕ → Result Txn Reason
txn_named txns name = or_no_txn (look_up name txns)

-- who writes
abbrev pub actor : List (Named Txn) → Who → Result Actor Reason
actor txns (AtTime ts) = Ok (At ts)
actor txns (InTxn name) = txn_named txns name >>= λ t. Ok (In t)

-- the transaction stands under the name, and is shown
abbrev pub txn_kept : ScriptState → List ℕ → Txn → Carried
txn_kept s name t = record { state = record s { txns = keep name t s.txns }; answers = Answer.TxnLine name t ∷ [] }

-- a transaction, or why its rules refuse
abbrev pub by_rule : Result Txn TxnRefusal → Result Txn Reason
by_rule (Ok t) = Ok t
by_rule (Err why) = Err (ByTxn why)

-- the transaction of the name, as the rule changes it
abbrev pub txn_by_rule : List (Named Txn) → List ℕ → (Txn → Result Txn TxnRefusal) → Result Txn Reason
txn_by_rule txns name rule = txn_named txns name >>= λ t. by_rule (rule t)

-- a change of the transaction of the name
abbrev pub with_txn : ScriptState → List ℕ → (Txn → Result Txn TxnRefusal) → Result Carried Reason
with_txn s name rule = txn_by_rule s.txns name rule >>= λ t. Ok (txn_kept s name t)

-- a transaction without a given id has the number of those begun before it, plus one
abbrev pub new_id : ScriptState → Option (List ℕ) → List ℕ
new_id s given = unwrap_or given (to_be_bytes w128 (s.begun + 1))

-- a new transaction of the name
abbrev pub begin_txn : ScriptState → List ℕ → Timestamp → Timestamp → Option (List ℕ) → Result Carried Reason
begin_txn s name ts limit given = do
  free ← unless_fault (is_some (look_up name s.txns)) TxnExists s
  Ok (txn_kept (record free { begun = free.begun + 1 }) name (begun (new_id s given) ts limit))

-- how a command is shown that is done and tells nothing
abbrev pub accepted : List Answer
accepted = Answer.Accepted ∷ []

-- the name stands for no transaction any more
abbrev pub txn_dropped : ScriptState → List ℕ → Carried
txn_dropped s name = record { state = record s { txns = drop_name name s.txns }; answers = accepted }

-- an end of the transaction of the name
abbrev pub remove_txn : ScriptState → List ℕ → Result Carried Reason
remove_txn s name = txn_named s.txns name >>= λ t. Ok (txn_dropped s name)

-- how a reply is shown; a command's own kind is the one that matters
abbrev pub finished : Reply → List Answer
finished Finished = accepted
finished reply = []

-- how the answer of a write is shown
abbrev pub write_answers : WriteAnswer → List Answer
write_answers Done = accepted
write_answers (WasThere there) = Answer.Deleted there ∷ []
write_answers (Number number) = Answer.Incremented number ∷ []

-- how a write is shown
abbrev pub wrote : Reply → List Answer
wrote (Wrote answer) = write_answers answer
wrote reply = []

-- how a resolution is shown
abbrev pub resolved : Reply → List Answer
resolved (WasFound found) = Answer.Resolved found ∷ []
resolved reply = []

-- how a resolution of a span is shown
abbrev pub resolved_range : Reply → List Answer
resolved_range (Took ranged) = Answer.ResolvedRange ranged.count ranged.resume ∷ []
resolved_range reply = []

-- how the statistics are shown
abbrev pub statistics_shown : Reply → List Answer
statistics_shown (Statistics sums now) = Answer.Statistics sums now ∷ []
statistics_shown reply = []

-- how a read of a key is shown
abbrev pub got : Key → Reply → List Answer
got key (Got found) = Answer.Got key found ∷ []
got key reply = []

-- one line for each part, counted from the index
abbrev pub layout_answers : ℕ → List PartShape → List Answer
layout_answers index [] = []
layout_answers index (p ∷ ps) = Answer.LayoutLine index p.keys p.clears p.ranges ∷ layout_answers (index + 1) ps

-- how the layout is shown
abbrev pub laid_out : Reply → List Answer
laid_out (Parts shapes) = layout_answers 0 shapes
laid_out reply = []

-- a command of the engine that is carried out: the state after it and how its reply is shown, or why it is refused
abbrev pub carried : ScriptState → (Reply → List Answer) → Result Stepped Refusal → Result Carried Reason
carried s shown (Ok done) = Ok (record { state = record s { engine = done.state }; answers = shown done.reply })
carried s shown (Err why) = Err (ByEngine why)

-- what the engine is asked
abbrev pub write_command : Key → Actor → WriteKind → Timestamp → Command
write_command key who kind local = Command.Write key (record { who = who; kind = kind; local = local })

-- a write by its writer
abbrev pub write : ScriptState → Key → Who → WriteKind → Timestamp → Result Carried Reason
write s key who kind local = actor s.txns who >>= λ a. carried s wrote (step s.engine (write_command key a kind local))

-- the status in the engine's terms
abbrev pub status_of : Status → TxnStatus
status_of Status.Committed = TxnStatus.Committed
status_of Status.Aborted = TxnStatus.Aborted
status_of Status.Pending = TxnStatus.Pending

-- what a line says of its transaction
abbrev pub update : Txn → Status → Option Timestamp → Update
update t status ts = record { id = t.id; epoch = t.epoch; status = status_of status; ts = unwrap_or ts t.write_ts; ignored = t.ignored }

-- what it says of the transaction of the name
abbrev pub update_named : List (Named Txn) → List ℕ → Status → Option Timestamp → Result Update Reason
update_named txns name status ts = txn_named txns name >>= λ t. Ok (update t status ts)

-- what a line says is done
abbrev pub perform : ScriptState → Line → Result Carried Reason
perform s Line.Blank = Ok (record { state = s; answers = [] })
perform s (Line.TxnBegin name ts limit id) = begin_txn s name ts limit id
perform s (Line.TxnStep name n) = with_txn s name (stepped n)
perform s (Line.TxnAdvance name ts) = with_txn s name (λ t. Ok (advanced ts t))
perform s (Line.TxnRestart name ts) = with_txn s name (restarted ts)
perform s (Line.TxnRefresh name) = with_txn s name (λ t. Ok (refreshed t))
perform s (Line.TxnIgnoreSeqs name ranges) = with_txn s name (ignoring ranges)
perform s (Line.TxnRemove name) = remove_txn s name
perform s (Line.Put key value who local) = write s key who (WriteKind.Put value) local
perform s (Line.Del key who local) = write s key who WriteKind.Delete local
perform s (Line.ConditionalPut key value who expected local) = write s key who (WriteKind.ConditionalPut value expected) local
perform s (Line.InitPut key value who local) = write s key who (WriteKind.InitPut value) local
perform s (Line.Increment key who by local) = write s key who (WriteKind.Increment by) local
perform s (Line.Resolve name key status ts) = update_named s.txns name status ts >>= λ u. carried s resolved (step s.engine (Command.Resolve key u))
perform s (Line.ResolveRange name start end status ts max) = update_named s.txns name status ts >>= λ u. carried s resolved_range (step s.engine (Command.ResolveRange start end u max))
perform s (Line.Get key ts) = carried s (got key) (step s.engine (Command.Get key ts))
perform s (Line.Age now) = carried s finished (step s.engine (Command.Age now))
perform s Line.Stats = carried s statistics_shown (step s.engine Command.Stats)
perform s Line.Flush = carried s finished (step s.engine Command.Flush)
perform s (Line.Compact keep) = carried s finished (step s.engine (Command.Compact keep))
perform s Line.Layout = carried s laid_out (step s.engine Command.Layout)

-- a line without a reading is refused
abbrev pub perform_read : ScriptState → ℕ → Option Line → Result Carried Reason
perform_read s n None = Err (BadLine n)
perform_read s n (Some line) = perform s line

-- a refused line leaves the state
abbrev pub or_refused : ScriptState → Result Carried Reason → Carried
or_refused s (Ok done) = done
or_refused s (Err why) = record { state = s; answers = Answer.Refused why ∷ [] }

-- what a line says, done or refused
unfoldable pub performed : ScriptState → Line → Carried
performed s line = or_refused s (perform s line)

-- the line without a carriage return at its end
unfoldable pub without_return : List ℕ → List ℕ
without_return [] = []
without_return (b ∷ []) = if b == 0x0d then [] else b ∷ []
without_return (b ∷ c ∷ bs) = b ∷ without_return (c ∷ bs)

-- line number n: the state after it, and its answers
unfoldable pub carry_out : ScriptState → ℕ → List ℕ → Carried
carry_out s n bytes = or_refused s (perform_read s n (parse (without_return bytes)))

-- the statistics as they stand
abbrev pub statistics_answer : State → Answer
statistics_answer s = Answer.Statistics (statistics s.last s.history) s.last

-- where they are asked for they follow the answers of each command; a line without an answer is none
abbrev pub with_statistics : Bool → State → List Answer → List Answer
with_statistics wanted s [] = []
with_statistics wanted s (a ∷ rest) = a ∷ rest ++ (if wanted then statistics_answer s ∷ [] else [])

-- the text of a line's answers
abbrev pub text_of : Bool → Carried → List ℕ
text_of wanted c = flat_map show (with_statistics wanted c.state.engine c.answers)

-- the text of the lines from number n on
unfoldable pub output_from : Bool → ScriptState → ℕ → List (List ℕ) → List ℕ
output_from wanted s n [] = []
output_from wanted s n (l ∷ ls) =
    let c : Carried = carry_out s n l in
    text_of wanted c ++ output_from wanted c.state (n + 1) ls

-- the pieces without an empty one at the end
abbrev pub without_empty_end : List (List ℕ) → List (List ℕ)
without_empty_end [] = []
without_empty_end (l ∷ []) = if is_empty l then [] else l ∷ []
without_empty_end (l ∷ k ∷ ls) = l ∷ without_empty_end (k ∷ ls)

-- the lines of a script; what stands behind its last newline is one where it has at least one byte
unfoldable pub lines : List ℕ → List (List ℕ)
lines bytes = without_empty_end (pieces (λ b. b == 0x0a) bytes)

-- what a run of this script writes
unfoldable pub script_output : Options → List ℕ → List ℕ
script_output options script = output_from options.stats (first_script_state options.count_max) 1 (lines script)

-- nothing is written for words without a reading
abbrev pub output_for : Option Invocation → List ℕ → List ℕ
output_for None script = []
output_for (Some (Run options)) script = script_output options script

-- what the program writes for these words and this script
unfoldable pub output : List (List ℕ) → List ℕ → List ℕ
output words script = output_for (invocation words) script

-- a byte in front of what is kept of the bytes behind it: it stays where they do, or where it is a newline
abbrev pub up_to_newline : ℕ → List ℕ → List ℕ
up_to_newline b [] = if b == 0x0a then b ∷ [] else []
up_to_newline b (c ∷ cs) = b ∷ c ∷ cs

-- the script up to and with its last newline
unfoldable pub whole_part : List ℕ → List ℕ
whole_part [] = []
whole_part (b ∷ bs) = up_to_newline b (whole_part bs)
