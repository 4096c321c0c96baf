-- The timestamp that is read alone is the record's.
use Rattle.std.proofs.Common.{◌≡◌, ℕ, ◌≤◌, Bool, true, false, cond, List, length, Ok, refl, sym, ap, ◌∙◌, arith}
use Rattle.std.specs.Prelude.{Option, Some, None, IsSome, IfSome, IsTrue, ◌↔◌, if◌then◌else◌, is_ok}
use Rattle.std.specs.Option.{option_map}
use Rattle.std.proofs.lemmas.Bool.{le-ltb}
use Rattle.mvcc_key.specs.Encoded.{IsBytes}
use Rattle.mvcc_key.specs.Order.{Timestamp, is_in_range}
use Rattle.mvcc_key.specs.views.Seen.{time_of}
use Rattle.mvcc_key.specs.declared.timestamp.Timestamp.{Timestamp as Declared}
use Rattle.intent_meta.specs.Record.{IntentRecord, record_of}
use Rattle.intent_meta.specs.RecordTime.{time_at, time_in}
use Rattle.intent_meta.specs.views.Seen.{record_in, known_record}
use Rattle.intent_meta.proofs.FieldLaws.{IsRecordOf-record_in, HasFields-record_in}

-- a timestamp that is made of two numbers, where they are in range
pub made-time : (r : Option Declared) (t : Timestamp) → (IsSome r ↔ IsTrue (is_in_range t)) → IfSome r (λ d. time_of d ≡ t) → option_map time_of r ≡ (if is_in_range t then Some t else None)
made-time None t some is = by (is_in_range t) refl
  where
    by : (b : Bool) → is_in_range t ≡ b → None ≡ cond b (Some t) None
    by false e = refl
    by true e = absurd (let h = some.1 e in cc)
made-time (Some d) t some is = ap (λ (x : Timestamp). Some x) is ∙ ap (λ (b : Bool). cond b (Some t) None) (sym (some.0 refl))

-- bytes that are long enough
pub time_in-long : (bytes : List ℕ) → 36 ≤ length bytes → time_in bytes ≡ (if is_in_range (time_at bytes) then Some (time_at bytes) else None)
time_in-long bytes long = ap (λ (b : Bool). cond b None (if is_in_range (time_at bytes) then Some (time_at bytes) else None)) (le-ltb (length bytes) 36 long)

-- of bytes that are read as a record it is the record's
pub time_in-read : (bytes : List ℕ) → IsBytes bytes → is_ok (record_of bytes) ≡ true → time_in bytes ≡ Some (record_in bytes).ts
time_in-read bytes fits ok =
    let fields = HasFields-record_in bytes fits ok in
    let of = IsRecordOf-record_in bytes fits ok in
    let long = fields.long in
    let wall = fields.wall in
    let logical = fields.logical in
    let is : time_at bytes ≡ (record_in bytes).ts = λ i. record { wall = wall i; logical = logical i } in
    time_in-long bytes (omega arith)
    ∙ ap (λ (t : Timestamp). if is_in_range t then Some t else None) is
    ∙ ap (λ (b : Bool). cond b (Some (record_in bytes).ts) None) (of.is_record.ts).range

-- the same by the record
pub time_in-record : (bytes : List ℕ) (r : IntentRecord) → IsBytes bytes → record_of bytes ≡ Ok r → time_in bytes ≡ Some r.ts
time_in-record bytes r fits read =
    time_in-read bytes fits (ap (λ x. is_ok x) read) ∙ ap (λ x. Some (known_record x).ts) read
