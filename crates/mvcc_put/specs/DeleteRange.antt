-- The deletion of every key of a span that shows a value.
use Rattle.std.specs.Prelude.{ℕ, true, false, List, [], ◌∷◌, length, map, Option, Result, Ok}
use Rattle.mvcc_key.specs.Steps.{◌>>=◌, unless_fault}
use Rattle.mvcc_key.specs.Order.{Timestamp, no_time, is_no_time, Key}
use Rattle.mvcc_key.specs.Spans.{Ranged, is_bad_span}
use Rattle.mvcc_key.specs.History.{History, Changed}
use Rattle.mvcc_key.specs.Refusal.{Refusal, BadSpan, BadTimestamp}
use Rattle.txn_state.specs.Transaction.{Actor, write_time}
use Rattle.read_rule.specs.Read.{ReadRequest}
use Rattle.read_rule.specs.Scan.{ScanLimits, scan}
use Rattle.write_rule.specs.Write.{Delete, WriteRequest, write}

-- a read that anything at or above its timestamp refuses
abbrev pub more_recent_fails : Actor → ReadRequest
more_recent_fails who = record {
  who = who;
  options = record { local_limit = no_time; inconsistent = false; fail_more_recent = true };
}

-- a forward scan of at most so many rows
abbrev pub up_to_max : Option ℕ → ScanLimits
up_to_max max = record { reverse = false; max = max; target = 0; allow_empty = false }

-- a delete of a key
abbrev pub deletion : Actor → Timestamp → WriteRequest
deletion who local = record { who = who; kind = Delete; local = local }

-- the keys deleted one after another, each from the history that the one before left
unfoldable pub delete_each : Actor → Timestamp → History → List Key → Result History Refusal
delete_each who local h [] = Ok h
delete_each who local h (key ∷ keys) = do
  done ← write h key (deletion who local)
  delete_each who local done.history keys

-- a delete at each key of the span that shows a value, at most max of them
unfoldable pub delete_range : History → Actor → Key → Key → Option ℕ → Timestamp → Result (Changed Ranged) Refusal
delete_range h who start end max local = do
  span ← unless_fault (is_bad_span start end) BadSpan start
  time ← unless_fault (is_no_time (write_time who)) BadTimestamp who
  found ← scan h (more_recent_fails who) start end (up_to_max max)
  after ← delete_each who local h (map (λ row. row.key) found.rows)
  Ok (record { history = after; answer = record { count = length found.rows; resume = found.resume } })
