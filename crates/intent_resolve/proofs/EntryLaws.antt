-- The entries of an intent that is moved, as they lie in its record.
use Rattle.std.specs.Prelude.{◌≡◌, ℕ, ◌+◌, ◌<◌, nat_le, nat_lt, Bool, true, false, List, [], ◌∷◌, ◌++◌, length, map, Option, Some, None, option_map, unwrap_or, MatchOption, IfSome, is_ok}
use Rattle.std.specs.List.{AllByRecursion}
use Rattle.std.proofs.Common.{refl, sym, ap, ◌∙◌, subst, arith}
use Rattle.std.proofs.lemmas.Bool.{and_parts, ltb-true, lt-ltb, and_from, lt-leb}
use Rattle.mvcc_key.specs.Lists.{last, before_last}
use Rattle.mvcc_key.specs.Order.{Timestamp}
use Rattle.mvcc_key.specs.History.{Body, Deletion, is_deletion, Entry, Intent}
use Rattle.mvcc_value.specs.Encoding.{IsEncodable, plain_bytes, value_bytes}
use Rattle.mvcc_value.proofs.ValueLaws.{body_of-plain_bytes}
use Rattle.intent_meta.specs.Entries.{some_entries}
use Rattle.intent_meta.specs.Record.{IntentRecord, is_entry_value, is_next_sequence, record_bytes}
use Rattle.intent_meta.specs.Rules.{AreRecordEntries}
use Rattle.intent_meta.specs.StoredPairs.{plain_entry, provisional_body, provisional_sequence, intent_record}
use Rattle.intent_meta.specs.Valid.{IsStoredEntry}
use Rattle.intent_meta.proofs.LentLaws.{last-append, before_last-append, last-map}
use Rattle.intent_meta.proofs.ReadBackLaws.{IsEncodable-stored}
use Rattle.intent_resolve.specs.Resolve.{Stays, moved, moved_local}
use Rattle.intent_resolve.specs.views.Left as left
use Rattle.intent_resolve.specs.views.Left.{left_by}
use Rattle.intent_resolve.specs.views.Own.{IsOfStored, with_last}

-- ---- the last entry

-- all but the last of what is made of each
before_last-map : {X Y : Type 0} (f : X → Y) (xs : List X) → before_last (map f xs) ≡ map f (before_last xs)
before_last-map f [] = refl
before_last-map f (x ∷ []) = refl
before_last-map {Y = Y} f (x ∷ y ∷ xs) = ap (λ (l : List Y). f x ∷ l) (before_last-map f (y ∷ xs))

-- entries whose plain ones end with this one
pub record EndsWith (es : List (Entry Body)) (before : List (Entry (List ℕ))) (l : Entry (List ℕ)) : Type 0 where
  pub entry : Entry Body
  pub last_is : last es ≡ Some entry
  pub is : l ≡ plain_entry entry
  pub before_is : before ≡ map plain_entry (before_last es)

-- so they do
pub ends_with : (es : List (Entry Body)) (before : List (Entry (List ℕ))) (l : Entry (List ℕ)) → before ++ l ∷ [] ≡ map plain_entry es → EndsWith es before l
ends_with es before l e = by (last es) refl (sym (last-append before l) ∙ ap last e ∙ last-map plain_entry es)
  where
    by : (o : Option (Entry Body)) → last es ≡ o → Some l ≡ option_map plain_entry (last es) → EndsWith es before l
    by None is p = let q : Some l ≡ None = p ∙ ap (option_map plain_entry) is in absurd cc
    by (Some d) is p =
        let q : Some l ≡ Some (plain_entry d) = p ∙ ap (option_map plain_entry) is in
        record { entry = d; last_is = is; is = cc; before_is = sym (before_last-append before l) ∙ ap before_last e ∙ before_last-map plain_entry es }

-- what holds of all entries holds of the last one
last-all : (P : Entry Body → Type 0) (es : List (Entry Body)) (e : Entry Body) → last es ≡ Some e → AllByRecursion P es → P e
last-all P [] e is all = absurd cc
last-all P (x ∷ []) e is all = let same : x ≡ e = cc in subst P same all.0
last-all P (x ∷ y ∷ es) e is all = last-all P (y ∷ es) e is all.1

-- ---- a list parted into its last entry and those before it

-- what is parted is what was there
pub split-entries : (r : Option (List (Entry (List ℕ)) × Entry (List ℕ))) (es xs : List (Entry (List ℕ))) → MatchOption r (es ≡ []) (λ p. es ≡ p.0 ++ p.1 ∷ []) → Some es ≡ some_entries xs
    → option_map with_last r ≡ some_entries xs
split-entries None es [] is e = absurd cc
split-entries None es (x ∷ xs) is e = let q : es ≡ x ∷ xs = cc in let z : [] ≡ x ∷ xs = sym is ∙ q in absurd cc
split-entries (Some p) es xs is e = ap (λ (l : List (Entry (List ℕ))). Some l) (sym is) ∙ e

-- entries behind one with a sequence end above it
ends-above : (s limit : ℕ) (xs : List (Entry (List ℕ))) (e : Entry (List ℕ)) → AreRecordEntries (Some s) limit (xs ++ e ∷ []) → s < e.sequence
ends-above s limit [] e are = ltb-true _ _ (and_parts (nat_lt s e.sequence) (nat_lt e.sequence limit) (are.0).placed).0
ends-above s limit (x ∷ xs) e are =
    let first : s < x.sequence = ltb-true _ _ (and_parts (nat_lt s x.sequence) (nat_lt x.sequence limit) (are.0).placed).0 in
    let rest : x.sequence < e.sequence = ends-above x.sequence limit xs e are.1 in
    omega (arith, first, rest)

-- those before the last one may stand in a record of its sequence
before-last : (b : Option ℕ) (limit : ℕ) (xs : List (Entry (List ℕ))) (e : Entry (List ℕ)) → AreRecordEntries b limit (xs ++ e ∷ []) → AreRecordEntries b e.sequence xs
before-last b limit [] e are = tt
before-last b limit (x ∷ xs) e are =
    let above : x.sequence < e.sequence = ends-above x.sequence limit xs e are.1 in
    (record { sequence = (are.0).sequence; placed = placed b (are.0).placed (lt-ltb x.sequence e.sequence above); size = (are.0).size; value = (are.0).value }, before-last (Some x.sequence) limit xs e are.1)
  where
    placed : (b : Option ℕ) → is_next_sequence b limit x.sequence ≡ true → nat_lt x.sequence e.sequence ≡ true → is_next_sequence b e.sequence x.sequence ≡ true
    placed None is below = below
    placed (Some n) is below = and_from (nat_lt n x.sequence) (nat_lt x.sequence e.sequence) (and_parts (nat_lt n x.sequence) (nat_lt x.sequence limit) is).0 below

-- so they may where they are parted
pub split-rules : (r : Option (List (Entry (List ℕ)) × Entry (List ℕ))) (limit : ℕ) (es : List (Entry (List ℕ))) → MatchOption r (es ≡ []) (λ p. es ≡ p.0 ++ p.1 ∷ []) → AreRecordEntries None limit es
    → IfSome r (λ p. AreRecordEntries None p.1.sequence p.0)
split-rules None limit es is are = tt
split-rules (Some p) limit es is are = before-last None limit p.0 p.1 (subst (AreRecordEntries None limit) is are)

-- and the last one may be stored
pub split-stored : (r : Option (List (Entry (List ℕ)) × Entry (List ℕ))) (es : List (Entry (List ℕ))) (xs : List (Entry Body)) → MatchOption r (es ≡ []) (λ p. es ≡ p.0 ++ p.1 ∷ []) → es ≡ map plain_entry xs
    → AllByRecursion IsStoredEntry xs → IfSome r (λ p. IsOfStored p.1)
split-stored None es xs is e all = tt
split-stored (Some p) es xs is e all =
    let end = ends_with xs p.0 p.1 (sym is ∙ e) in
    record { entry = end.entry; stored = last-all IsStoredEntry xs end.entry end.last_is all; is = end.is }

-- one sequence is below the next
pub not_next : (s : ℕ) → nat_le (s + 1) s ≡ false
not_next s = lt-leb (s + 1) s (omega arith)

-- a stored entry has a plain value
pub stored-plain : (e : Entry (List ℕ)) → IsOfStored e → is_entry_value e.value ≡ true
stored-plain e of =
    ap (λ (d : Entry (List ℕ)). is_entry_value d.value) of.is ∙ ap is_ok (body_of-plain_bytes (of.entry).value (IsEncodable-stored (of.entry).value (of.stored).body))

-- ---- the intent at another timestamp

module _ (i : Intent) (es : List (Entry Body)) (before : List (Entry (List ℕ))) (l : Entry (List ℕ)) (e : before ++ l ∷ [] ≡ map plain_entry es) (ts : Timestamp) where
  abbrev new : Intent
  new = moved ts (record i { entries = es })

  end : EndsWith es before l
  end = ends_with es before l e

  -- the body of its last entry
  pub moved-body : (body : Body) → AllByRecursion (λ (d : Entry Body). IsEncodable d.value) es → ((b : Body) → IsEncodable b → l.value ≡ plain_bytes b → body ≡ b) → body ≡ provisional_body new
  moved-body body coded reads =
      reads (end.entry).value (last-all (λ (d : Entry Body). IsEncodable d.value) es end.entry end.last_is coded) (ap (λ (d : Entry (List ℕ)). d.value) end.is)
      ∙ sym (ap (λ o. unwrap_or (option_map (λ (d : Entry Body). d.value) o) Deletion) end.last_is)

  -- what is left of it
  pub moved-left : (id : List ℕ) (epoch : ℕ) (body : Body) (local : Timestamp) (value : List ℕ) (deleted : Bool) (head : IntentRecord) (bytes : List ℕ) (sequence : ℕ) → sequence ≡ l.sequence
      → head ≡ record { id = id; epoch = epoch; sequence = sequence; ts = ts; deleted = deleted; value_length = length value; history = before }
      → id ≡ i.id → epoch ≡ i.epoch → body ≡ provisional_body new → local ≡ moved_local i ts → deleted ≡ is_deletion body → value ≡ value_bytes body local ts → bytes ≡ record_bytes head
      → left.Stays bytes (record { ts = ts; value = value }) ≡ left_by (Stays new)
  moved-left id epoch body local value deleted head bytes sequence same heads ids epochs bodies times deletes values bytes_are =
      let sequences : sequence ≡ provisional_sequence new =
      same ∙ ap (λ (d : Entry (List ℕ)). d.sequence) end.is ∙ sym (ap (λ o. unwrap_or (option_map (λ (d : Entry Body). d.sequence) o) 0) end.last_is) in
      let values_are : value ≡ value_bytes (provisional_body new) (moved_local i ts) ts = values ∙ λ j. value_bytes (bodies j) (times j) ts in
      let deleted_is : deleted ≡ is_deletion (provisional_body new) = deletes ∙ ap is_deletion bodies in
      let head_is : head ≡ intent_record new =
      heads ∙ λ j. record { id = ids j; epoch = epochs j; sequence = sequences j; ts = ts; deleted = deleted_is j; value_length = length (values_are j); history = end.before_is j } in
      let bytes_is : bytes ≡ record_bytes (intent_record new) = bytes_are ∙ ap record_bytes head_is in
      λ j. left.Stays (bytes_is j) (record { ts = ts; value = values_are j })
