-- The stored form of an intent: its bytes, and the first fault, from the left, of bytes that are none.
use Rattle.std.specs.Prelude.{ℕ, zero, suc, Bool, true, false, ◌&&◌, not, List, [], ◌∷◌, ◌++◌, length, Option, Some, None, Result, Ok, Err, is_ok, nat_lt}
use Rattle.std.specs.List.{flat_map}
use Rattle.std.specs.Int.{Width, w32, w64, to_be_bytes}
use Rattle.mvcc_key.specs.Steps.{◌>>=◌, unless_fault, bytes_at, number_at}
use Rattle.mvcc_key.specs.Order.{Timestamp, is_no_time, max_wall, max_logical}
use Rattle.mvcc_key.specs.Limits.{max_count}
use Rattle.mvcc_key.specs.History.{Entry}
use Rattle.mvcc_value.specs.Encoding.{body_of, is_value_length}
use Rattle.intent_meta.specs.declared.fault.IntentFault.{IntentFault}
use Rattle.intent_meta.specs.declared.fault.IntentFault.TheVariants.{Short, Range, Length, Order, Trailing}

-- an intent as it is stored: the provisional value stands beside it, as a version, and the history has plain values
pub record IntentRecord : Type 0 where
  pub id : List ℕ
  pub epoch : ℕ
  pub sequence : ℕ
  pub ts : Timestamp
  pub deleted : Bool
  pub value_length : ℕ
  pub history : List (Entry (List ℕ))

-- 1 for true
abbrev pub flag_byte : Bool → ℕ
flag_byte false = 0
flag_byte true = 1

-- a history entry: its sequence, its length, its bytes
abbrev pub entry_bytes : Entry (List ℕ) → List ℕ
entry_bytes e = to_be_bytes w32 e.sequence ++ to_be_bytes w32 (length e.value) ++ e.value

-- the bytes before the history entries
abbrev pub head_bytes : IntentRecord → List ℕ
head_bytes r =
    r.id ++ to_be_bytes w32 r.epoch ++ to_be_bytes w32 r.sequence
    ++ to_be_bytes w64 r.ts.wall ++ to_be_bytes w32 r.ts.logical
    ++ flag_byte r.deleted ∷ to_be_bytes w32 r.value_length
    ++ to_be_bytes w32 (length r.history)

-- the bytes of a record
unfoldable pub record_bytes : IntentRecord → List ℕ
record_bytes r = head_bytes r ++ flat_map entry_bytes r.history

-- a number up to a limit
abbrev pub limited_at : Width → ℕ → List ℕ → Result (ℕ × List ℕ) IntentFault
limited_at w limit bytes = do
  n ← number_at Short w bytes
  unless_fault (nat_lt limit n.0) Range n

-- a byte that is 0 or 1
abbrev pub flag_at : List ℕ → Result (Bool × List ℕ) IntentFault
flag_at [] = Err Short
flag_at (zero ∷ rest) = Ok (false, rest)
flag_at (suc zero ∷ rest) = Ok (true, rest)
flag_at (suc (suc b) ∷ rest) = Err Length

-- nothing, or a plain value; a value with a header is none
abbrev pub is_entry_value : List ℕ → Bool
is_entry_value bytes = is_ok (body_of bytes)

-- a sequence above the one before it, and below the record's
abbrev pub is_next_sequence : Option ℕ → ℕ → ℕ → Bool
is_next_sequence None limit n = nat_lt n limit
is_next_sequence (Some before) limit n = nat_lt before n && nat_lt n limit

-- one history entry, behind one with the sequence before, in a record of the sequence limit
abbrev pub entry_from : Option ℕ → ℕ → List ℕ → Result (Entry (List ℕ) × List ℕ) IntentFault
entry_from before limit bytes = do
  sequence ← limited_at w32 max_count bytes
  placed ← unless_fault (not (is_next_sequence before limit sequence.0)) Order sequence
  n ← number_at Short w32 placed.1
  value ← bytes_at Short n.0 n.1
  unless_fault (not (is_entry_value value.0)) Length (record { sequence = sequence.0; value = value.0 }, value.1)

-- so many history entries
abbrev pub entries_from : ℕ → Option ℕ → ℕ → List ℕ → Result (List (Entry (List ℕ)) × List ℕ) IntentFault
entries_from zero before limit bytes = Ok ([], bytes)
entries_from (suc n) before limit bytes = do
  e ← entry_from before limit bytes
  es ← entries_from n (Some (e.0).sequence) limit e.1
  Ok (e.0 ∷ es.0, es.1)

-- a timestamp that is one
abbrev pub time_from : List ℕ → Result (Timestamp × List ℕ) IntentFault
time_from bytes = do
  wall ← limited_at w64 max_wall bytes
  logical ← limited_at w32 max_logical wall.1
  let ts : Timestamp = record { wall = wall.0; logical = logical.0 }
  unless_fault (is_no_time ts) Range (ts, logical.1)

-- the encoded length of a provisional value
abbrev pub value_length_at : Bool → List ℕ → Result (ℕ × List ℕ) IntentFault
value_length_at deleted bytes = do
  n ← number_at Short w32 bytes
  unless_fault (not (is_value_length deleted n.0)) Length n

-- the record with what its bytes have behind its flag
abbrev pub behind_flag : List ℕ → ℕ → ℕ → Timestamp → Bool → List ℕ → Result IntentRecord IntentFault
behind_flag id epoch sequence ts deleted bytes = do
  n ← value_length_at deleted bytes
  count ← number_at Short w32 n.1
  history ← entries_from count.0 None sequence count.1
  unless_fault (nat_lt 0 (length history.1)) Trailing
      (record { id = id; epoch = epoch; sequence = sequence; ts = ts; deleted = deleted; value_length = n.0; history = history.0 })

-- the record with what its bytes have behind its sequence
abbrev pub behind_sequence : List ℕ → ℕ → ℕ → List ℕ → Result IntentRecord IntentFault
behind_sequence id epoch sequence bytes = do
  ts ← time_from bytes
  deleted ← flag_at ts.1
  behind_flag id epoch sequence ts.0 deleted.0 deleted.1

-- the record that the bytes are, or their first fault from the left
unfoldable pub record_of : List ℕ → Result IntentRecord IntentFault
record_of bytes = do
  id ← bytes_at Short 16 bytes
  epoch ← limited_at w32 max_count id.1
  sequence ← limited_at w32 max_count epoch.1
  behind_sequence id.0 epoch.0 sequence.0 sequence.1
