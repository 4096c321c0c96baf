-- Where the fields of a record lie in its bytes.
use Rattle.std.proofs.Common.{◌≡◌, ℕ, ◌+◌, ◌≤◌, Bool, true, false, eqb, List, [], ◌∷◌, ◌++◌, length, get_or, take, drop, Option, Some, None, Result, Ok, Err, refl, sym, ap, ◌∙◌, append_assoc, arith}
use Rattle.std.specs.Prelude.{is_ok}
use Rattle.std.specs.List.{AllByRecursion, flat_map}
use Rattle.std.specs.Int.{w32, w64, to_be_bytes, from_be_bytes}
use Rattle.std.proofs.lemmas.List.{take_at, drop_at, drop-drop, length-append, length-drop, get_or-drop}
use Rattle.mvcc_key.specs.History.{Entry}
use Rattle.mvcc_key.proofs.ByteLaws.{IsBytes, wide32, wide64}
use Rattle.mvcc_key.proofs.KeyFormatLaws.{in_range}
use Rattle.intent_meta.specs.declared.fault.IntentFault.{IntentFault}
use Rattle.intent_meta.specs.Record.{IntentRecord, flag_byte, entry_bytes, record_bytes, record_of}
use Rattle.intent_meta.specs.Rules.{AreRecordEntries, IsRecordOf}
use Rattle.intent_meta.specs.Entries.{IsWhole, AreBytesOf}
use Rattle.intent_meta.specs.views.Seen.{known_record, record_in}
use Rattle.intent_meta.proofs.RecordLaws.{IsRecordOf-record_of}

-- bytes that are read are those of the record that they are known to be
pub record_in-read : (bytes : List ℕ) → is_ok (record_of bytes) ≡ true → record_of bytes ≡ Ok (record_in bytes)
record_in-read bytes ok = by (record_of bytes) ok
  where
    by : (r : Result IntentRecord IntentFault) → is_ok r ≡ true → r ≡ Ok (known_record r)
    by (Ok r) h = refl
    by (Err e) h = absurd cc

-- and keep its rules
pub IsRecordOf-record_in : (bytes : List ℕ) → IsBytes bytes → is_ok (record_of bytes) ≡ true → IsRecordOf bytes (record_in bytes)
IsRecordOf-record_in bytes fits ok = IsRecordOf-record_of bytes (record_in bytes) fits (record_in-read bytes ok)

-- so many bytes from the place on are a part
record LiesAt (bytes : List ℕ) (place n : ℕ) (part rest : List ℕ) : Type 0 where
  here : take n (drop place bytes) ≡ part
  behind : drop (place + n) bytes ≡ rest
  within : place + n ≤ length bytes

lies : (bytes : List ℕ) (place n : ℕ) (part rest : List ℕ) → place ≤ length bytes → length part ≡ n → drop place bytes ≡ part ++ rest → LiesAt bytes place n part rest
lies bytes place n part rest le len e = record {
  here = ap (take n) e ∙ take_at part rest n len;
  behind = sym (drop-drop n place bytes) ∙ ap (drop n) e ∙ drop_at part rest n len;
  within = omega (arith, ap length e, length-drop place bytes, length-append part rest);
}

-- the parts of a record's bytes
regroup : (a b c d e f g h : List ℕ) → ((((((a ++ b) ++ c) ++ d) ++ e) ++ f) ++ g) ++ h ≡ a ++ (b ++ (c ++ (d ++ (e ++ (f ++ (g ++ h))))))
regroup a b c d e f g h = simp append_assoc

-- the entries of a record have room
pub AreWhole-entries : (before : Option ℕ) (limit : ℕ) (es : List (Entry (List ℕ))) → AreRecordEntries before limit es → AllByRecursion IsWhole es
AreWhole-entries before limit [] h = tt
AreWhole-entries before limit (e ∷ es) h =
    (record { sequence = let le = h.0.sequence in omega arith; size = h.0.size }, AreWhole-entries (Some e.sequence) limit es h.1)

-- the flag is 1 where it is set
pub flag_byte-one : (b : Bool) → eqb (flag_byte b) 1 ≡ b
flag_byte-one true = refl
flag_byte-one false = refl

-- where the fields of a record lie
pub record HasFields (bytes : List ℕ) (r : IntentRecord) : Type 0 where
  pub long : 45 ≤ length bytes
  pub id : take 16 bytes ≡ r.id
  pub epoch : from_be_bytes w32 (take 4 (drop 16 bytes)) ≡ r.epoch
  pub sequence : from_be_bytes w32 (take 4 (drop 20 bytes)) ≡ r.sequence
  pub wall : from_be_bytes w64 (take 8 (drop 24 bytes)) ≡ r.ts.wall
  pub logical : from_be_bytes w32 (take 4 (drop 32 bytes)) ≡ r.ts.logical
  pub deleted : get_or bytes 36 0 ≡ flag_byte r.deleted
  pub value_length : from_be_bytes w32 (take 4 (drop 37 bytes)) ≡ r.value_length
  pub entries : AreBytesOf (drop 45 bytes) r.history

-- bytes of a record have its fields
pub HasFields-record_bytes : (bytes : List ℕ) (r : IntentRecord) → IsRecordOf bytes r → HasFields bytes r
unfolding record_bytes
HasFields-record_bytes bytes r of =
    let rules = of.is_record in
    let far = in_range r.ts (rules.ts).range in
    let history : List ℕ = flat_map entry_bytes r.history in
    let b6 : List ℕ = to_be_bytes w32 (length r.history) ++ history in
    let b5 : List ℕ = (flag_byte r.deleted ∷ to_be_bytes w32 r.value_length) ++ b6 in
    let b4 : List ℕ = to_be_bytes w32 r.ts.logical ++ b5 in
    let b3 : List ℕ = to_be_bytes w64 r.ts.wall ++ b4 in
    let b2 : List ℕ = to_be_bytes w32 r.sequence ++ b3 in
    let b1 : List ℕ = to_be_bytes w32 r.epoch ++ b2 in
    let whole : bytes ≡ r.id ++ b1 =
    of.bytes_are ∙ regroup r.id (to_be_bytes w32 r.epoch) (to_be_bytes w32 r.sequence) (to_be_bytes w64 r.ts.wall) (to_be_bytes w32 r.ts.logical) (flag_byte r.deleted ∷ to_be_bytes w32 r.value_length) (to_be_bytes w32 (length r.history)) history in
    let l0 : LiesAt bytes 0 16 r.id b1 = lies bytes 0 16 r.id b1 (omega arith) rules.id whole in
    let l1 : LiesAt bytes 16 4 (to_be_bytes w32 r.epoch) b2 = lies bytes 16 4 (to_be_bytes w32 r.epoch) b2 l0.within refl l0.behind in
    let l2 : LiesAt bytes 20 4 (to_be_bytes w32 r.sequence) b3 = lies bytes 20 4 (to_be_bytes w32 r.sequence) b3 l1.within refl l1.behind in
    let l3 : LiesAt bytes 24 8 (to_be_bytes w64 r.ts.wall) b4 = lies bytes 24 8 (to_be_bytes w64 r.ts.wall) b4 l2.within refl l2.behind in
    let l4 : LiesAt bytes 32 4 (to_be_bytes w32 r.ts.logical) b5 = lies bytes 32 4 (to_be_bytes w32 r.ts.logical) b5 l3.within refl l3.behind in
    let l5 : LiesAt bytes 36 5 (flag_byte r.deleted ∷ to_be_bytes w32 r.value_length) b6 = lies bytes 36 5 (flag_byte r.deleted ∷ to_be_bytes w32 r.value_length) b6 l4.within refl l4.behind in
    let l6 : LiesAt bytes 41 4 (to_be_bytes w32 (length r.history)) history = lies bytes 41 4 (to_be_bytes w32 (length r.history)) history l5.within refl l5.behind in
    record {
      long = l6.within;
      id = l0.here;
      epoch = ap (from_be_bytes w32) l1.here ∙ wide32.again r.epoch (let le = rules.epoch in omega arith);
      sequence = ap (from_be_bytes w32) l2.here ∙ wide32.again r.sequence (let le = rules.sequence in omega arith);
      wall = ap (from_be_bytes w64) l3.here ∙ wide64.again r.ts.wall (omega arith);
      logical = ap (from_be_bytes w32) l4.here ∙ wide32.again r.ts.logical (omega arith);
      deleted = sym (get_or-drop 36 bytes 0 0) ∙ ap (λ (xs : List ℕ). get_or xs 0 0) l4.behind;
      value_length = ap (λ (xs : List ℕ). from_be_bytes w32 (take 4 xs)) (sym (drop-drop 1 36 bytes) ∙ ap (drop 1) l4.behind)
          ∙ wide32.again r.value_length rules.value_size;
      entries = record { bytes_are = l6.behind; whole = AreWhole-entries None r.sequence r.history rules.entries };
    }

-- bytes that are read as a record have its fields
pub HasFields-record_in : (bytes : List ℕ) → IsBytes bytes → is_ok (record_of bytes) ≡ true → HasFields bytes (record_in bytes)
HasFields-record_in bytes fits ok = HasFields-record_bytes bytes (record_in bytes) (IsRecordOf-record_in bytes fits ok)
