-- What a record and an encoded value are as an intent.
use Rattle.std.proofs.Common.{◌≡◌, ℕ, Bool, true, false, List, [], ◌∷◌, ◌++◌, length, map, Option, Some, None, Result, Ok, Err, refl, sym, ap, subst, ◌∙◌, inl, inr, arith, eqb}
use Rattle.std.specs.Prelude.{is_ok, option_map, unwrap_or}
use Rattle.std.specs.List.{AllByRecursion}
use Rattle.std.proofs.lemmas.Bool.{and_parts, eqb-true}
use Rattle.std.proofs.lemmas.List.{length-append}
use Rattle.mvcc_key.specs.Lists.{last}
use Rattle.mvcc_key.specs.Order.{Timestamp, is_no_time, is_in_range, is_before, no_time, Key}
use Rattle.mvcc_key.specs.Encoded.{IsBytes}
use Rattle.mvcc_key.specs.History.{Body, Deletion, is_deletion, Entry, kept_local}
use Rattle.mvcc_key.proofs.EachLaws.{All-append}
use Rattle.mvcc_value.specs.declared.fault.ValueFault.{ValueFault}
use Rattle.mvcc_value.specs.Encoding.{Value, value_of, value_bytes, body_of, plain_bytes, header_of, IsEncodable, IsValueOf}
use Rattle.mvcc_value.proofs.ValueLaws.{IsPlainOf-body_of, IsValueOf-value_of, value_of-value_bytes, kept_local-cases}
use Rattle.intent_meta.specs.declared.fault.IntentFault.{IntentFault}
use Rattle.intent_meta.specs.Record.{IntentRecord, record_of, is_entry_value}
use Rattle.intent_meta.specs.Rules.{IsRecord, AreRecordEntries}
use Rattle.intent_meta.specs.StoredPairs.{plain_entry}
use Rattle.intent_meta.specs.HistoryOf.{known_body, entry_body}
use Rattle.intent_meta.specs.Valid.{IsKeptLocal}
use Rattle.intent_meta.specs.views.Seen.{record_in}
use Rattle.intent_meta.specs.views.Lent.{lent_intent}
use Rattle.intent_meta.specs.views.Listed.{ListedIntent, IsListedIntent, intent_in, intent_at, is_same_flag, is_value_of, fits, are_intent, known_value, IsListedItem}
use Rattle.intent_meta.proofs.RecordLaws.{IsRecordOf-record_of}
use Rattle.intent_meta.proofs.StoredTimeLaws.{kept_local-kept}
use Rattle.intent_meta.proofs.LentLaws.{last-append, before_last-append}

-- a local timestamp that is kept as it is
kept_is_kept : (local ts : Timestamp) → kept_local local ts ≡ local → is_in_range local ≡ true → IsKeptLocal local ts
kept_is_kept local ts kept range = by (is_no_time local) (is_before local ts) refl refl
  where
    by : (a b : Bool) → is_no_time local ≡ a → is_before local ts ≡ b → IsKeptLocal local ts
    by true b p q = rw p refl
    by false true p q = rw (p, q, range) refl
    by false false p q = absurd (
        let none : kept_local local ts ≡ no_time = rw (p, q) refl in
        let same : local ≡ no_time = sym kept ∙ none in
        let yes : is_no_time local ≡ true = ap is_no_time same in cc)

-- an entry value has a body, whose plain bytes it is
entry_value : (bytes : List ℕ) → is_entry_value bytes ≡ true → (plain_bytes (known_body (body_of bytes)) ≡ bytes) × IsEncodable (known_body (body_of bytes))
entry_value bytes h = by (body_of bytes) refl h
  where
    by : (r : Result Body ValueFault) → body_of bytes ≡ r → is_ok r ≡ true → (plain_bytes (known_body r) ≡ bytes) × IsEncodable (known_body r)
    by (Ok body) e ok = let p = IsPlainOf-body_of bytes body e in (sym p.bytes_are, p.encodable)
    by (Err fault) e ok = absurd cc

-- the entries of a record are read as they were written
entries-again : (before : Option ℕ) (limit : ℕ) (es : List (Entry (List ℕ))) → AreRecordEntries before limit es → map plain_entry (map entry_body es) ≡ es
entries-again before limit [] h = refl
entries-again before limit (e ∷ es) h =
    let v = entry_value e.value (h.0).value in
    λ i. record { sequence = e.sequence; value = v.0 i } ∷ entries-again (Some e.sequence) limit es h.1 i

-- and have bodies with bytes
entries_encodable : (before : Option ℕ) (limit : ℕ) (es : List (Entry (List ℕ))) → AreRecordEntries before limit es → AllByRecursion (λ (e : Entry Body). IsEncodable e.value) (map entry_body es)
entries_encodable before limit [] h = tt
entries_encodable before limit (e ∷ es) h = ((entry_value e.value (h.0).value).1, entries_encodable (Some e.sequence) limit es h.1)

same_flag : (a b : Bool) → is_same_flag a b ≡ true → b ≡ a
same_flag true true h = refl
same_flag true false h = absurd cc
same_flag false true h = absurd cc
same_flag false false h = refl

listed_of : (head value : List ℕ) (r : IntentRecord) (v : Value) → record_of head ≡ Ok r → IsRecord r → IsValueOf r.ts value v
    → is_same_flag r.deleted (is_deletion v.body) ≡ true → r.value_length ≡ length value → IsListedIntent head value (record { head = r; value = v })
listed_of head value r v read rules of deleted len =
    let i : ListedIntent = record { head = r; value = v } in
    let es : List (Entry Body) = map entry_body r.history in
    let e : Entry Body = record { sequence = r.sequence; value = v.body } in
    let end : last (es ++ e ∷ []) ≡ Some e = last-append es e in
    let sequence : unwrap_or (option_map (λ (x : Entry Body). x.sequence) (last (es ++ e ∷ []))) 0 ≡ r.sequence = ap (λ o. unwrap_or (option_map (λ (x : Entry Body). x.sequence) o) 0) end in
    let body : unwrap_or (option_map (λ (x : Entry Body). x.value) (last (es ++ e ∷ []))) Deletion ≡ v.body = ap (λ o. unwrap_or (option_map (λ (x : Entry Body). x.value) o) Deletion) end in
    let flag : is_deletion v.body ≡ r.deleted = same_flag r.deleted (is_deletion v.body) deleted in
    let size : length (value_bytes v.body v.local r.ts) ≡ r.value_length = ap length (sym of.bytes_are) ∙ sym len in
    let history = ap (map plain_entry) (before_last-append es e) ∙ entries-again None r.sequence r.history rules.entries in
    record {
      read = read;
      value_is = of.bytes_are;
      head_is = λ key j. record {
        id = r.id;
        epoch = r.epoch;
        sequence = sequence j;
        ts = r.ts;
        deleted = (ap is_deletion body ∙ flag) j;
        value_length = (ap (λ b. length (value_bytes b v.local r.ts)) body ∙ size) j;
        history = history j;
      };
      whole = λ key. record {
        key_is = refl;
        local = kept_is_kept v.local r.ts of.kept of.range;
        some_entry = omega (arith, length-append es (e ∷ []));
        bodies = All-append (λ (x : Entry Body). IsEncodable x.value) es (e ∷ []) (entries_encodable None r.sequence r.history rules.entries) (of.encodable, tt);
      };
    }

-- what passes the test is an intent
pub listed_intent : (head value : List ℕ) → IsBytes head → IsBytes value → are_intent head value ≡ true → IsListedIntent head value (intent_in head value)
listed_intent head value head_fits value_fits ok = by (record_of head) refl ok
  where
    by_value : (r : IntentRecord) → record_of head ≡ Ok r → (v : Result Value ValueFault) → value_of r.ts value ≡ v → is_value_of r value v ≡ true → IsListedIntent head value (intent_in head value)
    by_value r read (Ok v) is h =
        let tests = and_parts (is_same_flag r.deleted (is_deletion v.body)) (eqb r.value_length (length value)) h in
        let listed = listed_of head value r v read (IsRecordOf-record_of head r head_fits read).is_record (IsValueOf-value_of r.ts value v value_fits is) tests.0 (eqb-true _ _ tests.1) in
        rw read (rw is listed)
    by_value r read (Err fault) is h = absurd cc

    by : (r : Result IntentRecord IntentFault) → record_of head ≡ r → fits r value ≡ true → IsListedIntent head value (intent_in head value)
    by (Ok r) read h = by_value r read (value_of r.ts value) refl h
    by (Err fault) read h = absurd cc

-- what an encoded version is read as
pub known_version : (body : Body) (local ts : Timestamp) (bytes : List ℕ) → IsEncodable body → is_in_range local ≡ true → bytes ≡ value_bytes body local ts
    → known_value (value_of ts bytes) ≡ record { local = kept_local local ts; body = body }
known_version body local ts bytes coded range is = ap (λ b. known_value (value_of ts b)) is ∙ ap known_value (value_of-value_bytes body local ts coded range)

-- a local timestamp that is kept is kept again
pub kept_again : (local ts : Timestamp) → kept_local (kept_local local ts) ts ≡ kept_local local ts
kept_again local ts =
    elim (kept_local-cases local ts) [
      | inl none ↦ rw none refl
      | inr kept ↦ ap (λ t. kept_local t ts) kept.0
    ]

-- so it is a whole item
pub listed_version : (ts local kept : Timestamp) (body read : Body) (bytes : List ℕ) → IsEncodable body → is_in_range local ≡ true → bytes ≡ value_bytes body local ts
    → kept ≡ kept_local local ts → read ≡ (known_value (value_of ts bytes)).body
    → IsListedItem (record { ts = ts; local = kept; body = read }) (Some bytes)
unfolding value_bytes
listed_version ts local kept body read bytes coded range is kept_is read-is =
    let body_is : body ≡ read = sym (read-is ∙ ap (λ v. v.body) (known_version body local ts bytes coded range is)) in
    subst (λ b. IsListedItem (record { ts = ts; local = kept; body = b }) (Some bytes)) body_is (
    subst (λ t. IsListedItem (record { ts = ts; local = t; body = body }) (Some bytes)) (sym kept_is) (record {
      bytes_are = is ∙ ap (λ t. header_of t ++ plain_bytes body) (sym (kept_again local ts));
      whole = record { local = kept_local-kept local ts range; body = coded };
    }))

-- and what is lent of an intent is it
pub listed_is_lent : (head value : List ℕ) (key : Key) (now : ListedIntent) (seen : IntentRecord) (plain : List ℕ) → intent_in head value ≡ now
    → IsListedIntent head value (intent_in head value) → seen ≡ record_in head
    → ((body : Body) (local ts : Timestamp) → value ≡ value_bytes body local ts → plain ≡ plain_bytes body)
    → record { head = seen; provisional = plain } ≡ lent_intent (intent_at key now)
listed_is_lent head value key now seen plain view listed seen_is plain_is =
    let i : ListedIntent = intent_in head value in
    let es : List (Entry Body) = map entry_body i.head.history in
    let e : Entry Body = record { sequence = i.head.sequence; value = i.value.body } in
    let body : unwrap_or (option_map (λ (x : Entry Body). x.value) (last (es ++ e ∷ []))) Deletion ≡ i.value.body = ap (λ o. unwrap_or (option_map (λ (x : Entry Body). x.value) o) Deletion) (last-append es e) in
    let here : record { head = seen; provisional = plain } ≡ lent_intent (intent_at key i) = λ j. record {
      head = (seen_is ∙ sym (listed.head_is key)) j;
      provisional = (plain_is i.value.body i.value.local i.head.ts listed.value_is ∙ ap plain_bytes (sym body)) j;
    } in
    here ∙ ap (λ x. lent_intent (intent_at key x)) view
