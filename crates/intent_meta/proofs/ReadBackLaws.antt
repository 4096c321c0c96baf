-- What is stored for a version, and for an intent, is read back as it was.
use Rattle.std.proofs.Common.{◌≡◌, ℕ, ◌^◌, ◌<◌, ◌≤◌, Bool, true, false, cond, List, [], ◌∷◌, ◌++◌, length, Option, Some, None, Result, Ok, refl, sym, ap, subst, ◌∙◌, ◌⊎◌, inl, inr, arith}
use Rattle.std.specs.Prelude.{not, map, is_ok, unwrap_or}
use Rattle.std.specs.List.{AllByRecursion, flat_map, cons_option}
use Rattle.std.specs.List.Sorted.{IsStrictlySortedBy}
use Rattle.std.specs.Option.{option_map}
use Rattle.std.specs.declared.cmp.Ordering.TheVariants.{Less}
use Rattle.std.specs.Ordering.{nat_cmp}
use Rattle.std.proofs.lemmas.Bool.{and_parts, and_from, lt-ltb, not-true}
use Rattle.std.proofs.lemmas.List.{length-append}
use Rattle.mvcc_key.specs.Lists.{last, before_last}
use Rattle.mvcc_key.specs.Order.{Timestamp, is_no_time, is_in_range, Pair, pair_cmp}
use Rattle.mvcc_key.specs.Limits.{max_count}
use Rattle.mvcc_key.specs.History.{Body, Deletion, Bytes, Int, Version, Entry, Intent, History, kept_local}
use Rattle.mvcc_key.specs.Fragments.{fragments, tombstones_of}
use Rattle.mvcc_key.proofs.SortedLaws.{in_order-sorted}
use Rattle.mvcc_key.proofs.EachLaws.{All-in_order, All-append, All-map, All-weaker, All-split}
use Rattle.mvcc_value.specs.Encoding.{zigzag, plain_bytes, header_of, value_bytes, body_of, IsEncodable}
use Rattle.mvcc_value.proofs.ValueLaws.{body_of-plain_bytes, value_of-value_bytes}
use Rattle.mvcc_value.proofs.VarintLaws.{length-varint_le}
use Rattle.mvcc_value.proofs.LengthLaws.{header_length-cases, is_value_length-value_bytes}
use Rattle.intent_meta.specs.declared.fault.IntentFault.{IntentFault}
use Rattle.intent_meta.specs.Record.{IntentRecord, is_next_sequence}
use Rattle.intent_meta.specs.Rules.{IsRecordEntry, AreRecordEntries, IsRecord}
use Rattle.intent_meta.specs.StoredPairs.{stored, stored_pairs, stored_cmp, provisional_body, provisional_sequence, provisional, plain_entry, intent_record, Stored, RecordOf, VersionOf, stored_pair}
use Rattle.intent_meta.specs.HistoryOf.{known_body, entry_body, version_from, intent_from, version_read, versions_in, intent_before, intents_in, history_of}
use Rattle.intent_meta.specs.Valid.{IsStoredTime, IsValid, IsKeptLocal, IsStoredBody, IsStoredVersion, IsStoredEntry, sequence_cmp, IsStoredIntent}
use Rattle.intent_meta.proofs.RecordLaws.{record_of-record_bytes}
use Rattle.intent_meta.specs.ReadBack.{StoredIsReadBack, StoredPairsRise}
use Rattle.intent_meta.proofs.StoredTimeLaws.{IsLocal-stored}
use Rattle.intent_meta.proofs.StoredLaws.{Block, OfIntent, OfVersion, block_cmp, blocks, expand, versions_among, intents_among, versions_among-blocks, intents_among-blocks, stored_cmp-total}
use Rattle.intent_meta.proofs.BlockLaws.{IsAbove, versions_placed, stored_of-blocks}

-- ---- values

-- a body that may be stored has bytes
pub IsEncodable-stored : (body : Body) → IsStoredBody body → IsEncodable body
IsEncodable-stored Deletion h = tt
IsEncodable-stored (Bytes bytes) h = tt
IsEncodable-stored (Int number) h = h

-- the value of a version that may be stored is read back
version_from-stored : (v : Version) → IsKeptLocal v.local v.ts → IsStoredBody v.body → version_read (stored_pair (VersionOf v)) ≡ Some v
version_from-stored v local body =
    let l = IsLocal-stored v.local v.ts local in
    ap (version_from (stored_pair (VersionOf v))) (
    value_of-value_bytes v.body v.local v.ts (IsEncodable-stored v.body body) l.range
    ∙ ap (λ (t : Timestamp). Ok (record { local = t; body = v.body })) l.kept
    )

-- ---- lengths of values

-- a plain value is at most so long
pub length-plain_bytes_le : (body : Body) → IsStoredBody body → length (plain_bytes body) ≤ 1048600
length-plain_bytes_le Deletion h = omega arith
length-plain_bytes_le (Bytes bytes) h = omega arith
length-plain_bytes_le (Int number) h = omega (arith, length-varint_le (zigzag number))

-- a value is at most so long
length-value_bytes_le : (body : Body) (local ts : Timestamp) → IsStoredBody body → length (value_bytes body local ts) < 2 ^ 32
unfolding value_bytes
length-value_bytes_le body local ts h = by (header_length-cases (kept_local local ts))
  where
    by : (length (header_of (kept_local local ts)) ≡ 0) ⊎ (length (header_of (kept_local local ts)) ≡ 17) → length (header_of (kept_local local ts) ++ plain_bytes body) < 2 ^ 32
    by (inl none) = omega (arith, length-append (header_of (kept_local local ts)) (plain_bytes body), length-plain_bytes_le body h, none)
    by (inr some) = omega (arith, length-append (header_of (kept_local local ts)) (plain_bytes body), length-plain_bytes_le body h, some)

-- ---- entries

-- some entries end with one
record Ends (es : List (Entry Body)) : Type 0 where
  entry : Entry Body
  is_last : last es ≡ Some entry
  parts : es ≡ before_last es ++ entry ∷ []

ends : (es : List (Entry Body)) → 0 < length es → Ends es
ends [] some = absurd (omega arith)
ends (e ∷ []) some = record { entry = e; is_last = refl; parts = refl }
ends (e ∷ f ∷ fs) some =
    let rest = ends (f ∷ fs) (omega arith) in
    record { entry = rest.entry; is_last = rest.is_last; parts = ap (λ (xs : List (Entry Body)). e ∷ xs) rest.parts }

-- what an order of numbers says
lower : (a b : ℕ) → nat_cmp a b ≡ Less → a < b
lower a b h = grind arith

-- an entry that may be stored stands in a record
IsRecordEntry-plain : (before : Option ℕ) (limit : ℕ) (e : Entry Body) → IsStoredEntry e → is_next_sequence before limit e.sequence ≡ true → IsRecordEntry before limit (plain_entry e)
IsRecordEntry-plain before limit e stored placed = record {
  sequence = stored.sequence;
  placed = placed;
  size = let le = length-plain_bytes_le e.value stored.body in omega arith;
  value = ap is_ok (body_of-plain_bytes e.value (IsEncodable-stored e.value stored.body));
}

-- rising entries before one stand in a record of its sequence
entries_behind : (b : ℕ) (es : List (Entry Body)) (e : Entry Body) → AllByRecursion (λ (x : Entry Body). nat_cmp b x.sequence ≡ Less) (es ++ e ∷ [])
    → IsStrictlySortedBy sequence_cmp (es ++ e ∷ []) → AllByRecursion IsStoredEntry es → AreRecordEntries (Some b) e.sequence (map plain_entry es)
unfolding IsStrictlySortedBy
entries_behind b [] e above rising stored = tt
entries_behind b (x ∷ xs) e above rising stored =
    let to_last = (All-split (λ (y : Entry Body). nat_cmp x.sequence y.sequence ≡ Less) xs (e ∷ []) rising.0).1.0 in (
      IsRecordEntry-plain (Some b) e.sequence x stored.0 (and_from _ _ (lt-ltb _ _ (lower b x.sequence above.0)) (lt-ltb _ _ (lower x.sequence e.sequence to_last))),
      entries_behind x.sequence xs e rising.0 rising.1 stored.1,
    )

entries_before : (es : List (Entry Body)) (e : Entry Body) → IsStrictlySortedBy sequence_cmp (es ++ e ∷ []) → AllByRecursion IsStoredEntry es
    → AreRecordEntries None e.sequence (map plain_entry es)
unfolding IsStrictlySortedBy
entries_before [] e rising stored = tt
entries_before (x ∷ xs) e rising stored =
    let to_last = (All-split (λ (y : Entry Body). nat_cmp x.sequence y.sequence ≡ Less) xs (e ∷ []) rising.0).1.0 in
    (IsRecordEntry-plain None e.sequence x stored.0 (lt-ltb _ _ (lower x.sequence e.sequence to_last)), entries_behind x.sequence xs e rising.0 rising.1 stored.1)

-- plain entries are read back
entry_body-plain : (es : List (Entry Body)) → AllByRecursion IsStoredEntry es → map entry_body (map plain_entry es) ≡ es
entry_body-plain [] stored = refl
entry_body-plain (e ∷ es) stored =
    let read : known_body (body_of (plain_bytes e.value)) ≡ e.value = ap known_body (body_of-plain_bytes e.value (IsEncodable-stored e.value (stored.0).body)) in
    λ i. record { sequence = e.sequence; value = read i } ∷ entry_body-plain es stored.1 i

-- ---- intents

-- a timestamp at which something is stored is one
pub stored_timed : (t : Timestamp) → IsStoredTime t → is_no_time t ≡ false
stored_timed t h = not-true _ (and_parts (not (is_no_time t)) (is_in_range t) h).0

-- what is known of the last entry of an intent, and of those before it
record HasLast (i : Intent) : Type 0 where
  entry : Entry Body
  parts : i.entries ≡ before_last i.entries ++ entry ∷ []
  sequence : provisional_sequence i ≡ entry.sequence
  body : provisional_body i ≡ entry.value
  stored : IsStoredEntry entry
  others : AllByRecursion IsStoredEntry (before_last i.entries)
  entries : AreRecordEntries None entry.sequence (map plain_entry (before_last i.entries))

has_last : (h : History) (i : Intent) → IsStoredIntent h i → HasLast i
has_last h i stored =
    let e : Ends i.entries = ends i.entries stored.some_entry in
    let all = All-split IsStoredEntry (before_last i.entries) (e.entry ∷ []) (subst (AllByRecursion IsStoredEntry) e.parts stored.entries) in
    record {
      entry = e.entry;
      parts = e.parts;
      sequence = ap (λ (o : Option (Entry Body)). unwrap_or (option_map (λ x. x.sequence) o) 0) e.is_last;
      body = ap (λ (o : Option (Entry Body)). unwrap_or (option_map (λ x. x.value) o) Deletion) e.is_last;
      stored = all.1.0;
      others = all.0;
      entries = entries_before (before_last i.entries) e.entry (subst (IsStrictlySortedBy sequence_cmp) e.parts stored.rising) all.0;
    }

-- the body of the provisional version may be stored
body_stored : (i : Intent) → HasLast i → IsStoredBody (provisional_body i)
body_stored i l = subst IsStoredBody (sym l.body) (l.stored).body

-- the record of an intent keeps the rules of records
pub IsRecord-intent : (h : History) (i : Intent) → IsStoredIntent h i → IsRecord (intent_record i)
IsRecord-intent h i stored =
    let l : HasLast i = has_last h i stored in
    record {
      id = stored.id;
      epoch = stored.epoch;
      sequence = subst (λ (n : ℕ). n ≤ max_count) (sym l.sequence) (l.stored).sequence;
      ts = record { some = stored_timed i.ts stored.ts; range = (and_parts (not (is_no_time i.ts)) (is_in_range i.ts) stored.ts).1 };
      value_length = is_value_length-value_bytes (provisional_body i) i.local i.ts;
      value_size = length-value_bytes_le (provisional_body i) i.local i.ts (body_stored i l);
      entries = subst (λ (n : ℕ). AreRecordEntries None n (map plain_entry (before_last i.entries))) (sym l.sequence) l.entries;
    }

-- a record and its provisional version are read back as the intent
intent_before-stored : (h : History) (i : Intent) → IsStoredIntent h i → intent_before (Some (stored_pair (RecordOf i))) (stored_pair (VersionOf (provisional i))) ≡ Some i
intent_before-stored h i stored =
    let l : HasLast i = has_last h i stored in
    let entries : map entry_body (map plain_entry (before_last i.entries)) ++ record { sequence = provisional_sequence i; value = provisional_body i } ∷ [] ≡ i.entries =
    (λ k. entry_body-plain (before_last i.entries) l.others k ++ record { sequence = l.sequence k; value = l.body k } ∷ []) ∙ sym l.parts in
    ap (λ (r : Result IntentRecord IntentFault). intent_from r (version_read (stored_pair (VersionOf (provisional i))))) (record_of-record_bytes (intent_record i) (IsRecord-intent h i stored))
    ∙ ap (intent_from (Ok (intent_record i))) (version_from-stored (provisional i) stored.local (body_stored i l))
    ∙ (λ k. Some (record { key = i.key; id = i.id; epoch = i.epoch; ts = i.ts; local = i.local; entries = entries k }))

-- ---- blocks

-- a block that may be stored
abbrev pub IsReadable : History → Block → Type 0
IsReadable h (OfIntent i) = IsStoredIntent h i
IsReadable h (OfVersion v) = IsStoredVersion v

-- the pairs of blocks
abbrev pub pairs_of : List Block → List Pair
pairs_of bs = map stored_pair (flat_map expand bs)

-- the versions of blocks are read back
pub versions_in-blocks : (h : History) (bs : List Block) → AllByRecursion (IsReadable h) bs → versions_in false (pairs_of bs) ≡ versions_among bs
versions_in-blocks h [] readable = refl
versions_in-blocks h (OfVersion v ∷ bs) readable =
    let stored = readable.0 in
    ap (λ (b : Bool). cons_option (cond b None (version_read (stored_pair (VersionOf v)))) (versions_in b (pairs_of bs))) (stored_timed v.ts stored.ts)
    ∙ ap (λ (o : Option Version). cons_option o (versions_in false (pairs_of bs))) (version_from-stored v stored.local stored.body)
    ∙ ap (λ (vs : List Version). v ∷ vs) (versions_in-blocks h bs readable.1)
versions_in-blocks h (OfIntent i ∷ bs) readable =
    let stored = readable.0 in
    ap (λ (b : Bool). versions_in b (pairs_of bs)) (stored_timed i.ts stored.ts) ∙ versions_in-blocks h bs readable.1

-- the intents of blocks are read back
pub intents_in-blocks : (h : History) (bs : List Block) → AllByRecursion (IsReadable h) bs → intents_in None (pairs_of bs) ≡ intents_among bs
intents_in-blocks h [] readable = refl
intents_in-blocks h (OfVersion v ∷ bs) readable =
    let stored = readable.0 in
    ap (λ (b : Bool). intents_in (cond b (Some (stored_pair (VersionOf v))) None) (pairs_of bs)) (stored_timed v.ts stored.ts) ∙ intents_in-blocks h bs readable.1
intents_in-blocks h (OfIntent i ∷ bs) readable =
    let stored = readable.0 in
    ap (λ (b : Bool). cons_option (intent_before (Some (stored_pair (RecordOf i))) (stored_pair (VersionOf (provisional i)))) (intents_in (cond b (Some (stored_pair (VersionOf (provisional i)))) None) (pairs_of bs))) (stored_timed i.ts stored.ts)
    ∙ ap (λ (o : Option Intent). cons_option o (intents_in None (pairs_of bs))) (intent_before-stored h i stored)
    ∙ ap (λ (is : List Intent). i ∷ is) (intents_in-blocks h bs readable.1)

-- ---- histories

-- versions have timestamps
pub versions_timed : (h : History) → IsValid h → AllByRecursion (λ v. is_no_time v.ts ≡ false) h.versions
versions_timed h valid = All-weaker IsStoredVersion (λ v. is_no_time v.ts ≡ false) h.versions (λ v stored. stored_timed v.ts stored.ts) valid.versions

-- the intents stand above the versions of their keys
pub intents_above : (h : History) → IsValid h → AllByRecursion (IsAbove h.versions) h.intents
intents_above h valid =
    All-weaker (IsStoredIntent h) (IsAbove h.versions) h.intents
    (λ i stored. record { timed = stored_timed i.ts stored.ts; placed = versions_placed h i (stored_timed i.ts stored.ts) (versions_timed h valid) stored.above_items })
    valid.intents

-- what is stored of a valid history is readable
readable_blocks : (h : History) → IsValid h → AllByRecursion (IsReadable h) (blocks h.intents h.versions)
readable_blocks h valid =
    All-in_order block_cmp (IsReadable h) (map OfIntent h.intents ++ map OfVersion h.versions)
    (All-append (IsReadable h) (map OfIntent h.intents) (map OfVersion h.versions)
    (All-map (IsReadable h) OfIntent h.intents valid.intents) (All-map (IsReadable h) OfVersion h.versions valid.versions))

-- what is stored of a valid history is read back
pub history_of-stored_pairs : StoredIsReadBack
unfolding history_of stored_pairs
history_of-stored_pairs h valid =
    let bs : List Block = blocks h.intents h.versions in
    let are : stored h ≡ flat_map expand bs = stored_of-blocks h.intents h.versions valid.intents_in_order valid.versions_in_order (intents_above h valid) in
    let readable = readable_blocks h valid in
    let timed = versions_timed h valid in
    let versions : versions_in false (map stored_pair (stored h)) ≡ h.versions =
    ap (λ (xs : List Stored). versions_in false (map stored_pair xs)) are ∙ versions_in-blocks h bs readable
    ∙ versions_among-blocks h.intents h.versions valid.versions_in_order timed in
    let intents : intents_in None (map stored_pair (stored h)) ≡ h.intents =
    ap (λ (xs : List Stored). intents_in None (map stored_pair xs)) are ∙ intents_in-blocks h bs readable
    ∙ intents_among-blocks h.intents h.versions valid.intents_in_order valid.versions_in_order timed in
    λ k. record { versions = versions k; intents = intents k; tombstones = tombstones_of (fragments h.tombstones) }

-- pairs rise as what they store does
pairs_rise : (xs : List Stored) → IsStrictlySortedBy stored_cmp xs → IsStrictlySortedBy pair_cmp (map stored_pair xs)
unfolding IsStrictlySortedBy
pairs_rise [] sorted = tt
pairs_rise (x ∷ xs) sorted = (All-map (λ p. pair_cmp (stored_pair x) p ≡ Less) stored_pair xs sorted.0, pairs_rise xs sorted.1)

pub stored_pairs-rise : StoredPairsRise
unfolding stored_pairs
stored_pairs-rise h =
    pairs_rise (stored h)
    (in_order-sorted stored_cmp-total (map RecordOf h.intents ++ map (λ i. VersionOf (provisional i)) h.intents ++ map VersionOf h.versions))
