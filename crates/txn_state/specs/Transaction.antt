-- The state of a transaction, and how it changes.
use Rattle.std.specs.Prelude.{ℕ, ◌+◌, ◌≤◌, IsTrue, Bool, true, false, ◌&&◌, List, [], ◌∷◌, Option, Some, None, Result, Ok, Err, bytes_eq, nat_lt, nat_le, ◌==◌, if◌then◌else◌}
use Rattle.mvcc_key.specs.Order.{Timestamp, no_time, is_up_to, later}
use Rattle.mvcc_key.specs.Limits.{max_count}
use Rattle.mvcc_key.specs.History.{SeqRange}

-- a transaction: where it stands, what it may see, and what it ignores
pub record Txn : Type 0 where
  pub id : List ℕ
  pub epoch : ℕ
  pub sequence : ℕ
  pub read_ts : Timestamp
  pub write_ts : Timestamp
  pub global_limit : Timestamp
  pub ignored : List SeqRange

-- who reads or writes: no transaction, at a timestamp, or a transaction
pub data Actor : Type 0 where
  At : (ts : Timestamp) → Actor
  In : (txn : Txn) → Actor

-- the timestamp at which it reads
abbrev pub read_time : Actor → Timestamp
read_time (At ts) = ts
read_time (In txn) = txn.read_ts

-- the timestamp at which it writes
abbrev pub write_time : Actor → Timestamp
write_time (At ts) = ts
write_time (In txn) = txn.write_ts

-- up to where a read may be uncertain; without a transaction it never is
abbrev pub uncertainty_limit : Actor → Timestamp
uncertainty_limit (At ts) = no_time
uncertainty_limit (In txn) = txn.global_limit

-- it is a transaction
abbrev pub is_in_txn : Actor → Bool
is_in_txn (At ts) = false
is_in_txn (In txn) = true

-- the reader's or writer's own transaction, where it has this id
abbrev pub own_txn : List ℕ → Actor → Option Txn
own_txn id (At ts) = None
own_txn id (In txn) = if bytes_eq txn.id id then Some txn else None

-- why a change of a transaction is refused
pub data TxnRefusal : Type 0 where
  SequenceLimit : (sequence : ℕ) → TxnRefusal
  EpochLimit : (epoch : ℕ) → TxnRefusal
  BadRanges : TxnRefusal

-- a new transaction
abbrev pub begun : List ℕ → Timestamp → Timestamp → Txn
begun id ts limit = record {
  id = id;
  epoch = 0;
  sequence = 0;
  read_ts = ts;
  write_ts = ts;
  global_limit = limit;
  ignored = [];
}

-- n sequences on
abbrev pub stepped : ℕ → Txn → Result Txn TxnRefusal
stepped n t =
    if nat_lt max_count (t.sequence + n) then Err (SequenceLimit t.sequence)
    else Ok (record t { sequence = t.sequence + n })

-- a write timestamp of at least ts
abbrev pub advanced : Timestamp → Txn → Txn
advanced ts t = record t { write_ts = later t.write_ts ts }

-- reads at the write timestamp from now on
abbrev pub refreshed : Txn → Txn
refreshed t = record t { read_ts = t.write_ts }

-- a new epoch, in which nothing was written or ignored
abbrev pub restarted : Timestamp → Txn → Result Txn TxnRefusal
restarted ts t =
    if t.epoch == max_count then Err (EpochLimit t.epoch)
    else Ok (refreshed (advanced ts (record t { epoch = t.epoch + 1; sequence = 0; ignored = [] })))

-- each range ends no earlier than it begins, and the next begins above its end
abbrev pub are_ranges : List SeqRange → Bool
are_ranges [] = true
are_ranges (r ∷ []) = nat_le r.first r.last && nat_le r.last max_count
are_ranges (r ∷ s ∷ rs) = nat_le r.first r.last && nat_lt r.last s.first && are_ranges (s ∷ rs)

-- other sequences are ignored
abbrev pub ignoring : List SeqRange → Txn → Result Txn TxnRefusal
ignoring ranges t = if are_ranges ranges then Ok (record t { ignored = ranges }) else Err BadRanges

-- what holds of every transaction: it reads no later than it writes, its numbers are within their limit, and its ranges rise
pub record IsWhole (t : Txn) : Type 0 where
  pub by_write : IsTrue (is_up_to t.read_ts t.write_ts)
  pub epoch_fits : t.epoch ≤ max_count
  pub sequence_fits : t.sequence ≤ max_count
  pub rise : IsTrue (are_ranges t.ignored)
