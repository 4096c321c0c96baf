-- What a decision comes to, with bytes of its own.
use Rattle.std.specs.Prelude.{◌≡◌, ℕ, List, [], ◌∷◌, length, Option, Some, None, Ok, Err, IsOk, ⊤}
use Rattle.mvcc_key.specs.Order.{Timestamp, Key}
use Rattle.mvcc_key.specs.History.{Body, Deletion}
use Rattle.mvcc_key.specs.Refusal as refusal
use Rattle.mvcc_key.specs.views.Seen.{time_of}
use Rattle.mvcc_key.specs.declared.timestamp.Timestamp.{Timestamp as Declared}
use Rattle.mvcc_value.specs.Encoding.{value_of}
use Rattle.mvcc_value.specs.views.Seen.{owned_body}
use Rattle.mvcc_value.specs.declared.value.OwnedValue.{OwnedValue}
use Rattle.intent_meta.specs.KeyHistory.{KeyHistory}
use Rattle.txn_state.specs.views.SeenId.{id_of}
use Rattle.read_rule.specs.Read as read
use Rattle.read_rule.specs.views.Decided.{found_bytes}
use Rattle.read_rule.specs.declared.decision.Decision.{Decision}
use Rattle.read_rule.specs.declared.decision.Decision.TheVariants as decided
use Rattle.mvcc_scan.specs.declared.kept.Kept.{Kept}
use Rattle.mvcc_scan.specs.declared.kept.Kept.TheVariants as code
use Rattle.mvcc_scan.specs.declared.met.Met.{Met}
use Rattle.mvcc_scan.specs.declared.look.Looked.{Looked}

-- an intent that was met at the key
abbrev pub met_as : Key → Met → refusal.IntentSeen
met_as key m = record { key = key; id = id_of m.id; ts = time_of m.ts }

-- the same, where there is one
abbrev pub listed_as : Key → Option Met → List refusal.IntentSeen
listed_as key None = []
listed_as key (Some m) = met_as key m ∷ []

-- an intent's id and timestamp
abbrev pub met_of : Met → List ℕ × Timestamp
met_of m = (id_of m.id, time_of m.ts)

-- a value that was decided can be read
abbrev pub IsReadable : Decision → Type 0
IsReadable (decided.Value bytes ts) = IsOk (value_of (time_of ts) bytes.now)
IsReadable other = ⊤

-- the length of a row's value as it is stored: that of the provisional version where the reader sees its entry, and else that of the bytes found
abbrev pub stored_len : Option ℕ → List ℕ → ℕ
stored_len None bytes = length bytes
stored_len (Some len) bytes = len

-- of each row of the key that is its length
abbrev pub IsLength : read.ReadRequest → KeyHistory → Option ℕ → Type 0
IsLength r k len = (row : read.Row) → read.decision r k ≡ Ok (Some row) → row.stored ≡ stored_len len (found_bytes r k)

-- the row of a value that is kept
abbrev pub row_with : Key → OwnedValue → Timestamp → ℕ → read.Row
row_with key value ts stored = record { found = record { key = key; body = owned_body value; ts = ts }; stored = stored }

-- the body of a value is kept, or the value is a deletion and nothing is
abbrev pub IsValueKept : Body → Declared → ℕ → Kept → Type 0
IsValueKept body ts stored (code.Row value at len) = (owned_body value ≡ body) × (at ≡ ts) × (len ≡ stored)
IsValueKept body ts stored code.Nothing = body ≡ Deletion
IsValueKept body ts stored other = ⊥

-- the decision of a read comes to this
abbrev pub IsKept : read.ReadRequest → KeyHistory → Kept → Type 0
IsKept r k (code.Row value ts stored) = read.decision r k ≡ Ok (Some (row_with k.key value (time_of ts) stored))
IsKept r k code.Nothing = read.decision r k ≡ Ok None
IsKept r k (code.Conflict met) = read.decision r k ≡ Err (refusal.Conflict (met_as k.key met ∷ []))
IsKept r k (code.Uncertain ts local) = read.decision r k ≡ Err (refusal.Uncertain (time_of ts) (time_of local))
IsKept r k (code.TooOld ts) = read.decision r k ≡ Err (refusal.TooOld (time_of ts))
IsKept r k (code.EpochFault own other) = read.decision r k ≡ Err (refusal.EpochFault own other)

-- a read of the key comes to this, and lists this
pub record IsLooked (r : read.ReadRequest) (k : KeyHistory) (l : Looked) : Type 0 where
  pub kept : IsKept r k l.kept
  pub listed : listed_as k.key l.listed ≡ read.listed_of r k.intent
