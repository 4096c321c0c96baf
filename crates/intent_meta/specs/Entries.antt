-- The entries of an intent, and the walk over those that lie in a record's bytes.
use Rattle.std.specs.Prelude.{◌≡◌, ℕ, ◌^◌, ◌<◌, List, [], ◌∷◌, ◌++◌, length, Option, Some, None, Result, Ok, Err}
use Rattle.std.specs.Int.{w32}
use Rattle.std.specs.List.{AllByRecursion, flat_map}
use Rattle.mvcc_key.specs.Steps.{◌>>=◌, bytes_at, number_at}
use Rattle.mvcc_key.specs.History.{Entry}
use Rattle.intent_meta.specs.Record.{IntentRecord, entry_bytes}
use Rattle.intent_meta.specs.declared.fault.IntentFault.{IntentFault}
use Rattle.intent_meta.specs.declared.fault.IntentFault.TheVariants.{Short}

-- the history of a record and its provisional value, the last entry
abbrev pub entries_with : IntentRecord → List ℕ → List (Entry (List ℕ))
entries_with r provisional = r.history ++ record { sequence = r.sequence; value = provisional } ∷ []

-- the entries, where there are any
abbrev pub some_entries : List (Entry (List ℕ)) → Option (List (Entry (List ℕ)))
some_entries [] = None
some_entries (e ∷ es) = Some (e ∷ es)

-- the entry at the front of bytes, and the bytes behind it
abbrev pub entry_in : List ℕ → Result (Entry (List ℕ) × List ℕ) IntentFault
entry_in bytes = do
  sequence ← number_at Short w32 bytes
  n ← number_at Short w32 sequence.1
  value ← bytes_at Short n.0 n.1
  Ok (record { sequence = sequence.0; value = value.0 }, value.1)

-- an entry whose fields have room for it
pub record IsWhole (e : Entry (List ℕ)) : Type 0 where
  pub sequence : e.sequence < 2 ^ 32
  pub size : length e.value < 2 ^ 32

-- the bytes are those of these entries
pub record AreBytesOf (bytes : List ℕ) (es : List (Entry (List ℕ))) : Type 0 where
  pub bytes_are : bytes ≡ flat_map entry_bytes es
  pub whole : AllByRecursion IsWhole es

-- the bytes behind what was read
abbrev pub rest_of : {A : Type 0} → Result (A × List ℕ) IntentFault → Result (List ℕ) IntentFault
rest_of (Ok x) = Ok x.1
rest_of (Err fault) = Err fault
