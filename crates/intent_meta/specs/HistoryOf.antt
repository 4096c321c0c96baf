-- The history that stored pairs and fragments are read back as.
use Rattle.std.specs.Prelude.{ℕ, Bool, false, ◌||◌, List, [], ◌∷◌, ◌++◌, map, Option, Some, None, Result, Ok, Err, if◌then◌else◌}
use Rattle.std.specs.List.{cons_option}
use Rattle.mvcc_key.specs.Order.{is_no_time, Pair}
use Rattle.mvcc_key.specs.History.{Body, Deletion, Version, Entry, Intent, History}
use Rattle.mvcc_key.specs.Fragments.{Fragment, tombstones_of}
use Rattle.mvcc_value.specs.Encoding.{Value, value_of, body_of}
use Rattle.mvcc_value.specs.declared.fault.ValueFault.{ValueFault}
use Rattle.intent_meta.specs.Record.{IntentRecord, record_of}
use Rattle.intent_meta.specs.declared.fault.IntentFault.{IntentFault}

-- the pair is an intent's record
abbrev pub is_record : Pair → Bool
is_record p = is_no_time p.name.ts

-- the body that bytes are known to be
abbrev pub known_body : Result Body ValueFault → Body
known_body (Ok body) = body
known_body (Err fault) = Deletion

-- a stored entry with the body that its bytes are
abbrev pub entry_body : Entry (List ℕ) → Entry Body
entry_body e = record { sequence = e.sequence; value = known_body (body_of e.value) }

-- the version that a pair is, with the value that its bytes are
abbrev pub version_from : Pair → Result Value ValueFault → Option Version
version_from p (Ok v) = Some (record { key = p.name.key; ts = p.name.ts; local = v.local; body = v.body })
version_from p (Err fault) = None

-- a record and its provisional version are one intent
abbrev pub intent_from : Result IntentRecord IntentFault → Option Version → Option Intent
intent_from (Ok r) (Some v) = Some (record {
  key = v.key;
  id = r.id;
  epoch = r.epoch;
  ts = r.ts;
  local = v.local;
  entries = map entry_body r.history ++ record { sequence = r.sequence; value = v.body } ∷ [];
})
intent_from (Ok r) None = None
intent_from (Err fault) v = None

-- the version that a pair is
abbrev pub version_read : Pair → Option Version
version_read p = version_from p (value_of p.name.ts p.value)

-- the versions, without those that follow a record; the first argument says whether a record was just before
abbrev pub versions_in : Bool → List Pair → List Version
versions_in after [] = []
versions_in after (p ∷ ps) =
    cons_option (if after || is_record p then None else version_read p) (versions_in (is_record p) ps)

-- the intent of a record just before, and of the version that follows it
abbrev pub intent_before : Option Pair → Pair → Option Intent
intent_before None p = None
intent_before (Some r) p = intent_from (record_of r.value) (version_read p)

-- the intents, each made of a record and of what follows it; the first argument is the record just before, if there was one
abbrev pub intents_in : Option Pair → List Pair → List Intent
intents_in before [] = []
intents_in before (p ∷ ps) =
    cons_option (intent_before before p) (intents_in (if is_record p then Some p else None) ps)

-- the history of the pairs and the fragments
unfoldable pub history_of : List Pair → List Fragment → History
history_of pairs fragments = record {
  versions = versions_in false pairs;
  intents = intents_in None pairs;
  tombstones = tombstones_of fragments;
}
