-- How many bytes entries have, as they are counted and put one after another.
use Rattle.std.proofs.Common.{◌≡◌, ℕ, zero, suc, ◌+◌, ◌-◌, ◌*◌, ◌^◌, ◌<◌, ◌≤◌, List, [], ◌∷◌, ◌++◌, length, get_or, take, None, ap, arith}
use Rattle.std.specs.List.{AllByRecursion, flat_map}
use Rattle.std.proofs.lemmas.List.{length-append}
use Rattle.mvcc_key.specs.History.{Entry}
use Rattle.intent_meta.specs.Record.{IntentRecord, entry_bytes, head_bytes, record_bytes}
use Rattle.intent_meta.specs.Rules.{IsRecord}
use Rattle.intent_meta.specs.Entries.{IsWhole}
use Rattle.intent_meta.proofs.RecordLaws.{length-entries_le}
use Rattle.intent_meta.proofs.FieldLaws.{AreWhole-entries}

-- an entry's bytes are eight and those of its value
pub length-entry_bytes : (e : Entry (List ℕ)) → length (entry_bytes e) ≡ 8 + length e.value
length-entry_bytes e = simp length-append (omega arith)

-- the entries before one and it have no more bytes than all
pub length-entries_at : (es : List (Entry (List ℕ))) (i : ℕ) (e : Entry (List ℕ)) → i < length es → e ≡ get_or es i e
    → length (flat_map entry_bytes (take i es)) + (8 + length e.value) ≤ length (flat_map entry_bytes es)
length-entries_at [] i e lt is = absurd (omega arith)
length-entries_at (x ∷ xs) zero e lt is =
    let same : length e.value ≡ length x.value = ap (λ (y : Entry (List ℕ)). length y.value) is in
    omega (arith, length-append (entry_bytes x) (flat_map entry_bytes xs), length-entry_bytes x)
length-entries_at (x ∷ xs) (suc i) e lt is =
    let rest = length-entries_at xs i e (omega arith) is in
    omega (arith, length-append (entry_bytes x) (flat_map entry_bytes xs), length-append (entry_bytes x) (flat_map entry_bytes (take i xs)))

-- the bytes of whole entries
entries_le : (es : List (Entry (List ℕ))) → AllByRecursion IsWhole es → length (flat_map entry_bytes es) ≤ length es * (2 ^ 32 + 8)
entries_le [] whole = omega arith
entries_le (e ∷ es) whole =
    let rest = entries_le es whole.1 in
    let size = whole.0.size in
    omega (arith, length-append (entry_bytes e) (flat_map entry_bytes es), length-entry_bytes e)

-- the bytes of a record's entries can be counted
pub record-entries_le : (r : IntentRecord) → IsRecord r → length (flat_map entry_bytes r.history) < 2 ^ 64 - 45
record-entries_le r h =
    let count : length r.history ≤ 2 ^ 31 = let n = length-entries_le r.history r.sequence h.entries in let m = h.sequence in omega arith in
    let most = entries_le r.history (AreWhole-entries None r.sequence r.history h.entries) in
    omega arith

-- the bytes before the entries
pub length-head_bytes : (r : IntentRecord) → IsRecord r → length (head_bytes r) ≡ 45
length-head_bytes r h = let id : length r.id ≡ 16 = h.id in simp length-append (omega arith)

-- how long a record's bytes are
pub length-record_bytes : (r : IntentRecord) → IsRecord r → length (record_bytes r) ≡ 45 + length (flat_map entry_bytes r.history)
unfolding record_bytes
length-record_bytes r h = omega (arith, length-append (head_bytes r) (flat_map entry_bytes r.history), length-head_bytes r h)

-- a record's bytes in two parts
pub record_bytes-parts : (r : IntentRecord) (bytes : List ℕ) → bytes ≡ head_bytes r ++ flat_map entry_bytes r.history → bytes ≡ record_bytes r
unfolding record_bytes
record_bytes-parts r bytes e = e
