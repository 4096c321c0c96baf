-- One command: its answer, and the state after it.
use Rattle.std.specs.Prelude.{ℕ, List, Bool, false, Option, Some, None, Result, Ok, Err, nat_lt}
use Rattle.mvcc_key.specs.Steps.{◌>>=◌, unless_fault}
use Rattle.mvcc_key.specs.Order.{Timestamp, no_time, Key}
use Rattle.mvcc_key.specs.History.{History, Changed, empty_history}
use Rattle.mvcc_key.specs.Fragments.{fragments}
use Rattle.mvcc_key.specs.Field.{Field}
use Rattle.mvcc_key.specs.Refusal.{Refusal, MomentTooEarly, CountOverflow}
use Rattle.mvcc_key.specs.Spans.{Ranged}
use Rattle.mvcc_value.specs.Found.{Found}
use Rattle.intent_meta.specs.StoredPairs.{stored_pairs}
use Rattle.stat_core.specs.ComputeStats.{Sums, compute_stats, overflowing}
use Rattle.stat_delta.specs.Moments.{stored_walls, greatest}
use Rattle.lsm_store.specs.Parts.{Part, Stage, first_parts, after_batch, flushed, compacted, PartShape, layout}
use Rattle.txn_state.specs.Transaction.{At}
use Rattle.read_rule.specs.Read.{ReadRequest, get}
use Rattle.write_rule.specs.Write.{WriteRequest, WriteAnswer, write}
use Rattle.intent_resolve.specs.Resolve.{Update, resolve, resolve_range}

-- the history, the latest moment that was stored or aged to, the bound on each of the statistics, and what each part names
pub record State : Type 0 where
  pub history : History
  pub last : ℕ
  pub count_max : ℕ
  pub parts : List Part

-- nothing is stored
abbrev pub first_state : ℕ → State
first_state count_max = record { history = empty_history; last = 0; count_max = count_max; parts = first_parts }

-- what can be asked
pub data Command : Type 0 where
  Write : (key : Key) (request : WriteRequest) → Command
  Resolve : (key : Key) (update : Update) → Command
  ResolveRange : (start end : Key) (update : Update) (max : Option ℕ) → Command
  Age : (now : ℕ) → Command
  Flush : Command
  Compact : (keep : ℕ) → Command
  Get : (key : Key) (ts : Timestamp) → Command
  Stats : Command
  Layout : Command

-- what is answered
pub data Reply : Type 0 where
  Finished : Reply
  Wrote : (answer : WriteAnswer) → Reply
  WasFound : (found : Bool) → Reply
  Took : (ranged : Ranged) → Reply
  Got : (found : Option Found) → Reply
  Statistics : (sums : Sums) (now : ℕ) → Reply
  Parts : (shapes : List PartShape) → Reply

-- the state after a command, and its reply
pub record Stepped : Type 0 where
  pub state : State
  pub reply : Reply

-- the pairs and the fragments of a history
abbrev pub stage : History → Stage
stage h = record { pairs = stored_pairs h; fragments = fragments h.tombstones }

-- the statistics of the whole history at a moment
unfoldable pub statistics : ℕ → History → Sums
statistics now h = compute_stats now (stored_pairs h) (fragments h.tombstones)

-- goes on where no statistic passes the bound
abbrev pub unless_overflow : {A : Type 0} → Option Field → A → Result A Refusal
unless_overflow None x = Ok x
unless_overflow (Some f) x = Err (CountOverflow f)

-- the state with this history and these parts at this moment, unless a statistic passes the bound then
abbrev pub settled : State → History → ℕ → List Part → Reply → Result Stepped Refusal
settled s h now parts reply =
    unless_overflow (overflowing s.count_max (statistics now h))
    (record { state = record { history = h; last = now; count_max = s.count_max; parts = parts }; reply = reply })

-- the parts after one history gave way to another
abbrev pub parts_between : History → History → List Part → List Part
parts_between before after parts = after_batch (stage before) (stage after) parts

-- the parts where this history comes in place of the state's
abbrev pub parts_after : State → History → List Part
parts_after s h = parts_between s.history h s.parts

-- a read at a timestamp, outside transactions
abbrev pub read_at : Timestamp → ReadRequest
read_at ts = record {
  who = At ts;
  options = record { local_limit = no_time; inconsistent = false; fail_more_recent = false };
}

-- the state after a command that changes the history, or why it is refused: its moment is the latest of those that it had and of all that are stored
abbrev pub change : {A : Type 0} → State → (A → Reply) → Result (Changed A) Refusal → Result Stepped Refusal
change s reply written = do
  c ← written
  settled s c.history (greatest s.last (stored_walls c.history)) (parts_after s c.history) (reply c.answer)

-- a read leaves the state
abbrev pub answered : {A : Type 0} → State → (A → Reply) → Result A Refusal → Result Stepped Refusal
answered s reply result = do
  a ← result
  Ok (record { state = s; reply = reply a })

-- the state at a later moment
abbrev pub age_to : State → ℕ → Result Stepped Refusal
age_to s now = do
  later ← unless_fault (nat_lt now s.last) (MomentTooEarly s.last) now
  settled s s.history now s.parts Finished

-- the answer to a command and the state after it, or why it is refused; a refused command leaves the state
unfoldable pub step : State → Command → Result Stepped Refusal
step s (Write key request) = change s Wrote (write s.history key request)
step s (Resolve key u) = change s WasFound (resolve s.history key u)
step s (ResolveRange start end u max) = change s Took (resolve_range s.history start end u max)
step s (Age now) = age_to s now
step s Flush = Ok (record { state = record s { parts = flushed s.parts }; reply = Finished })
step s (Compact keep) = Ok (record { state = record s { parts = compacted keep s.parts }; reply = Finished })
step s (Get key ts) = answered s (λ a. Got a.found) (get s.history (read_at ts) key)
step s Stats = Ok (record { state = s; reply = Statistics (statistics s.last s.history) s.last })
step s Layout = Ok (record { state = s; reply = Parts (layout s.parts) })
