-- The entries of an own intent, as they lie in its record's bytes.
use Rattle.std.proofs.Common.{◌≡◌, ℕ, zero, suc, ◌+◌, ◌<◌, ◌≤◌, Bool, true, false, cond, List, [], ◌∷◌, length, map, filter, Option, Some, None, refl, sym, ap, ◌∙◌, subst, arith}
use Rattle.std.specs.Prelude.{◌==◌, ◌^◌, ◌&&◌, not, nat_le, nat_lt, find, IfSome, is_ok, option_map, unwrap_or}
use Rattle.std.specs.List.{AllByRecursion}
use Rattle.std.proofs.lemmas.Bool.{ltb-true, leb-true, leb-false, eqb-true, eqb-false, lt-ltb, le-leb, le-ltb, lt-leb, ne_eqb, and_parts}
use Rattle.mvcc_key.specs.Lists.{last, before_last}
use Rattle.std.proofs.lemmas.List.{length-append}
use Rattle.mvcc_key.specs.History.{Body, Deletion, Entry, Intent, SeqRange, is_ignored, without_ignored, entry_at, kept_local}
use Rattle.mvcc_key.proofs.EachLaws.{All-append, All-filter}
use Rattle.mvcc_key.proofs.FindLaws.{last-holds}
use Rattle.mvcc_key.proofs.FilterLaws.{filter-twice, filter-none, filter-map}
use Rattle.mvcc_value.specs.Encoding.{IsEncodable, plain_bytes, header_of, value_bytes, body_of}
use Rattle.mvcc_value.proofs.ValueLaws.{body_of-plain_bytes}
use Rattle.intent_meta.specs.Record.{IntentRecord, is_entry_value, is_next_sequence}
use Rattle.intent_meta.specs.Rules.{IsRecordEntry, AreRecordEntries, IsRecord}
use Rattle.intent_meta.specs.Entries.{entries_with, some_entries}
use Rattle.intent_meta.specs.StoredPairs.{plain_entry, provisional_body, provisional_sequence, intent_record}
use Rattle.intent_meta.specs.KeyHistory.{KeyHistory}
use Rattle.intent_meta.specs.views.WholeKeys.{IsKeyHistory, IsWholeIntent}
use Rattle.intent_meta.specs.views.Lent.{LentIntent, lent_intent}
use Rattle.intent_meta.proofs.LentLaws.{entries_with-plain, entry_at-plain}
use Rattle.write_rule.specs.Write.{entry_below}

-- ---- entries that are seen

-- what holds of all entries holds of the one that is seen
pub entry_at-All : {V : Type 0} (P : Entry V → Type 0) (sequence : ℕ) (ranges : List SeqRange) (es : List (Entry V)) → AllByRecursion P es → IfSome (entry_at sequence ranges es) P
entry_at-All P sequence ranges es all =
    last-holds P (filter (λ e. nat_le e.sequence sequence) (without_ignored ranges es))
    (All-filter P (λ e. nat_le e.sequence sequence) (without_ignored ranges es) (All-filter P (λ e. not (is_ignored ranges e.sequence)) es all))

-- ---- values of a record

-- each entry of a record has a value
values_of : (before : Option ℕ) (limit : ℕ) (es : List (Entry (List ℕ))) → AreRecordEntries before limit es → AllByRecursion (λ e. is_entry_value e.value ≡ true) es
values_of before limit [] are = tt
values_of before limit (e ∷ es) are = ((are.0).value, values_of (Some e.sequence) limit es are.1)

-- so has the one that is seen
pub seen_value : (r : IntentRecord) (provisional : List ℕ) (sequence : ℕ) (ranges : List SeqRange) → IsRecord r → is_entry_value provisional ≡ true
    → IfSome (entry_at sequence ranges (entries_with r provisional)) (λ e. is_entry_value e.value ≡ true)
seen_value r provisional sequence ranges rules plain =
    entry_at-All (λ e. is_entry_value e.value ≡ true) sequence ranges (entries_with r provisional)
    (All-append (λ e. is_entry_value e.value ≡ true) r.history (record { sequence = r.sequence; value = provisional } ∷ []) (values_of None r.sequence r.history rules.entries) (plain, tt))

-- a found value is what holds of the entry
pub found_value : {V : Type 0} (P : V → Type 0) (o : Option (Entry V)) (v : V) → IfSome o (λ e. P e.value) → Some v ≡ option_map (λ e. e.value) o → P v
found_value P None v all is = absurd cc
found_value P (Some e) v all is = let same : e.value ≡ v = cc in subst P same all

-- ---- lent entries

-- what is seen of lent entries is what is seen of the intent's
pub lent_entry : (lent : LentIntent) (i : Intent) → lent ≡ lent_intent i → 0 < length i.entries → (sequence : ℕ) (ranges : List SeqRange)
    → option_map (λ e. e.value) (entry_at sequence ranges (entries_with lent.head lent.provisional)) ≡ option_map (λ e. plain_bytes e.value) (entry_at sequence ranges i.entries)
lent_entry lent i is some sequence ranges =
    ap (λ (l : LentIntent). option_map (λ e. e.value) (entry_at sequence ranges (entries_with l.head l.provisional))) is
    ∙ ap (λ es. option_map (λ e. e.value) (entry_at sequence ranges es)) (entries_with-plain i some)
    ∙ ap (option_map (λ e. e.value)) (entry_at-plain sequence ranges i.entries)
    ∙ by (entry_at sequence ranges i.entries)
  where
    by : (o : Option (Entry Body)) → option_map (λ e. e.value) (option_map plain_entry o) ≡ option_map (λ e. plain_bytes e.value) o
    by None = refl
    by (Some e) = refl

-- where no bytes are seen there is no entry
pub none_seen : (o : Option (Entry Body)) → None ≡ option_map (λ e. plain_bytes e.value) o → None ≡ option_map (λ e. e.value) o
none_seen None h = refl
none_seen (Some e) h = absurd cc

-- where bytes are seen they are read as the entry's value
pub some_seen : (o : Option (Entry Body)) (bytes : List ℕ) (body : Body) → IfSome o (λ e. IsEncodable e.value) → Some bytes ≡ option_map (λ e. plain_bytes e.value) o
    → ((b : Body) → IsEncodable b → bytes ≡ plain_bytes b → body ≡ b) → Some body ≡ option_map (λ e. e.value) o
some_seen None bytes body coded is reads = absurd cc
some_seen (Some e) bytes body coded is reads = let same : bytes ≡ plain_bytes e.value = cc in ap Some (reads e.value coded same)

-- the lent entries that are not ignored are the intent's
pub lent_left : (lent : LentIntent) (i : Intent) → lent ≡ lent_intent i → 0 < length i.entries → (ranges : List SeqRange)
    → without_ignored ranges (entries_with lent.head lent.provisional) ≡ map plain_entry (without_ignored ranges i.entries)
lent_left lent i is some ranges =
    ap (λ (l : LentIntent). without_ignored ranges (entries_with l.head l.provisional)) is
    ∙ ap (without_ignored ranges) (entries_with-plain i some)
    ∙ filter-map (λ e. not (is_ignored ranges e.sequence)) plain_entry i.entries

-- entries, where there are any
pub some_left : (es xs : List (Entry (List ℕ))) → Some es ≡ some_entries xs → es ≡ xs
some_left es [] is = absurd cc
some_left es (x ∷ xs) is = cc

pub none_left : (xs : List (Entry (List ℕ))) → None ≡ some_entries xs → [] ≡ xs
none_left [] is = refl
none_left (x ∷ xs) is = absurd cc

-- a provisional value may stand in the history of the record of a later write
pub provisional_entry : (r : IntentRecord) (provisional : List ℕ) (limit : ℕ) → IsRecord r → is_entry_value provisional ≡ true → length provisional < 2 ^ 32 → nat_le limit r.sequence ≡ false
    → IsRecordEntry None limit (record { sequence = r.sequence; value = provisional })
provisional_entry r provisional limit rules plain short later = record {
  sequence = rules.sequence;
  placed = lt-ltb r.sequence limit (leb-false limit r.sequence later);
  size = short;
  value = plain;
}

-- ---- entries before a write, and of it

-- nothing is below sequence 0
pub none_below_zero : (ranges : List SeqRange) (es : List (Entry Body)) → entry_below 0 ranges es ≡ None
none_below_zero ranges es = ap last (filter-none (λ e. nat_lt e.sequence 0 && not (is_ignored ranges e.sequence)) es (all es))
  where
    never : (n : ℕ) (b : Bool) → (nat_lt n 0 && b) ≡ false
    never n b = rw (le-ltb n 0 (omega arith)) refl

    all : (xs : List (Entry Body)) → AllByRecursion (λ e. (nat_lt e.sequence 0 && not (is_ignored ranges e.sequence)) ≡ false) xs
    all [] = tt
    all (x ∷ xs) = (never x.sequence (not (is_ignored ranges x.sequence)), all xs)

-- a number that is not at least 1 is 0
pub zero_from : (n : ℕ) → (1 ≤ n → ⊥) → n ≡ 0
zero_from zero h = refl
zero_from (suc n) h = absurd (h (omega arith))

-- what is up to one sequence is below the next
up_to-below : (m n s : ℕ) → m + 1 ≡ n → nat_le s m ≡ nat_lt s n
up_to-below m n s is = by (nat_le s m) refl
  where
    by : (b : Bool) → nat_le s m ≡ b → b ≡ nat_lt s n
    by true h = let le : s ≤ m = leb-true s m h in sym (lt-ltb s n (omega arith))
    by false h = let gt : m < s = leb-false s m h in sym (le-ltb s n (omega arith))

-- the entry that is seen at the sequence before is the one below
pub below_is_seen : (m n : ℕ) (ranges : List SeqRange) (es : List (Entry Body)) → m + 1 ≡ n → entry_at m ranges es ≡ entry_below n ranges es
below_is_seen m n ranges es is =
    ap last (filter-twice (λ e. nat_le e.sequence m) (λ e. not (is_ignored ranges e.sequence)) (λ e. nat_lt e.sequence n && not (is_ignored ranges e.sequence)) es
    (λ e. by e (is_ignored ranges e.sequence)))
  where
    by : (e : Entry Body) (b : Bool) → (not b && nat_le e.sequence m) ≡ (nat_lt e.sequence n && not b)
    by e true = sym (falls (nat_lt e.sequence n))
      where
        falls : (b : Bool) → (b && false) ≡ false
        falls true = refl
        falls false = refl
    by e false = up_to-below m n e.sequence is ∙ sym (stays (nat_lt e.sequence n))
      where
        stays : (b : Bool) → (b && true) ≡ b
        stays true = refl
        stays false = refl

-- ---- the entry of a sequence

-- behind a sequence all entries of a record are above it
above : (a limit : ℕ) (es : List (Entry Body)) → AreRecordEntries (Some a) limit (map plain_entry (before_last es)) → a < limit → limit ≡ unwrap_or (option_map (λ e. e.sequence) (last es)) 0
    → AllByRecursion (λ (e : Entry Body). a < e.sequence) es
above a limit [] are lt is = tt
above a limit (x ∷ []) are lt is = (omega arith, tt)
above a limit (x ∷ y ∷ es) are lt is =
    let placed = and_parts (nat_lt a x.sequence) (nat_lt x.sequence limit) (are.0).placed in
    let first : a < x.sequence = ltb-true _ _ placed.0 in
    let next : x.sequence < limit = ltb-true _ _ placed.1 in
    (first, weaker (y ∷ es) (above x.sequence limit (y ∷ es) are.1 next is) first)
  where
    weaker : (ds : List (Entry Body)) → AllByRecursion (λ (e : Entry Body). x.sequence < e.sequence) ds → a < x.sequence → AllByRecursion (λ (e : Entry Body). a < e.sequence) ds
    weaker [] h l = tt
    weaker (d ∷ ds) h l = let one : x.sequence < d.sequence = h.0 in (omega arith, weaker ds h.1 l)

-- of entries that rise the last of one sequence is the first of it
pub last_is_first : (s : ℕ) (before : Option ℕ) (limit : ℕ) (es : List (Entry Body)) → AreRecordEntries before limit (map plain_entry (before_last es))
    → limit ≡ unwrap_or (option_map (λ e. e.sequence) (last es)) 0 → last (filter (λ e. e.sequence == s) es) ≡ find (λ e. e.sequence == s) es
last_is_first s before limit [] are is = refl
last_is_first s before limit (x ∷ []) are is = by (x.sequence == s)
  where
    by : (b : Bool) → last (cond b (x ∷ []) []) ≡ cond b (Some x) None
    by true = refl
    by false = refl
last_is_first s before limit (x ∷ y ∷ es) are is = by (x.sequence == s) refl (last_is_first s (Some x.sequence) limit (y ∷ es) are.1 is)
  where
    next : (b : Option ℕ) → is_next_sequence b limit x.sequence ≡ true → x.sequence < limit
    next None h = ltb-true _ _ h
    next (Some a) h = ltb-true _ _ (and_parts (nat_lt a x.sequence) (nat_lt x.sequence limit) h).1

    others : (xs : List (Entry Body)) → AllByRecursion (λ (e : Entry Body). x.sequence < e.sequence) xs → x.sequence ≡ s → AllByRecursion (λ e. (e.sequence == s) ≡ false) xs
    others [] h same = tt
    others (z ∷ zs) h same = let lt : x.sequence < z.sequence = h.0 in (ne_eqb z.sequence s (λ e. omega arith), others zs h.1 same)

    by : (b : Bool) → (x.sequence == s) ≡ b → last (filter (λ e. e.sequence == s) (y ∷ es)) ≡ find (λ e. e.sequence == s) (y ∷ es)
        → last (cond b (x ∷ filter (λ e. e.sequence == s) (y ∷ es)) (filter (λ e. e.sequence == s) (y ∷ es))) ≡ cond b (Some x) (find (λ e. e.sequence == s) (y ∷ es))
    by true h rest =
        let same : x.sequence ≡ s = eqb-true _ _ h in
        ap (λ l. last (x ∷ l)) (filter-none (λ e. e.sequence == s) (y ∷ es) (others (y ∷ es) (above x.sequence limit (y ∷ es) are.1 (next before (are.0).placed) is) same))
    by false h rest = rest

-- seen at sequence 0 is the entry of sequence 0
pub here_zero : (r : IntentRecord) (i : Intent) → r ≡ intent_record i → IsRecord r → entry_at 0 [] i.entries ≡ find (λ e. e.sequence == 0) i.entries
here_zero r i is rules =
    let own : IsRecord (intent_record i) = subst IsRecord is rules in
    ap last (filter-twice (λ e. nat_le e.sequence 0) (λ e. not (is_ignored [] e.sequence)) (λ e. e.sequence == 0) i.entries (λ e. by e.sequence))
    ∙ last_is_first 0 None (provisional_sequence i) i.entries own.entries refl
  where
    by : (n : ℕ) → nat_le n 0 ≡ (n == 0)
    by n = cases (n == 0) refl
      where
        cases : (b : Bool) → (n == 0) ≡ b → nat_le n 0 ≡ b
        cases true h = let z : n ≡ 0 = eqb-true _ _ h in le-leb n 0 (omega arith)
        cases false h = lt_false n (eqb-false _ _ h)
          where
            lt_false : (k : ℕ) → (k ≡ 0 → ⊥) → nat_le k 0 ≡ false
            lt_false k differs = lt-leb k 0 (omega arith)

-- seen at a sequence, where all below it are ignored, is the entry of the sequence
pub here_some : (m n : ℕ) (r : IntentRecord) (i : Intent) → m + 1 ≡ n → r ≡ intent_record i → IsRecord r
    → entry_at n (record { first = 0; last = m } ∷ []) i.entries ≡ find (λ e. e.sequence == n) i.entries
here_some m n r i next is rules =
    let own : IsRecord (intent_record i) = subst IsRecord is rules in
    ap last (filter-twice (λ e. nat_le e.sequence n) (λ e. not (is_ignored (record { first = 0; last = m } ∷ []) e.sequence)) (λ e. e.sequence == n) i.entries (λ e. by e.sequence))
    ∙ last_is_first n None (provisional_sequence i) i.entries own.entries refl
  where
    by : (s : ℕ) → (not (is_ignored (record { first = 0; last = m } ∷ []) s) && nat_le s n) ≡ (s == n)
    by s = cases (nat_le s m) (s == n) refl refl
      where
        cases : (a b : Bool) → nat_le s m ≡ a → (s == n) ≡ b → (not (is_ignored (record { first = 0; last = m } ∷ []) s) && nat_le s n) ≡ b
        cases true true h k = let one : s ≤ m = leb-true _ _ h in let two : s ≡ n = eqb-true _ _ k in absurd (omega arith)
        cases true false h k = rw (h, le-leb 0 s (omega arith)) refl
        cases false true h k = let two : s ≡ n = eqb-true _ _ k in rw (h, le-leb 0 s (omega arith), le-leb s n (omega arith)) refl
        cases false false h k =
            let one : m < s = leb-false _ _ h in
            let two : s ≡ n → ⊥ = eqb-false _ _ k in
            rw (h, le-leb 0 s (omega arith), lt-leb s n (omega arith)) refl

-- ---- the intent that is lent

-- what is lent is of this intent of the key
pub record IsLentIntent (seen : LentIntent) (key : List ℕ) (o : Option Intent) : Type 0 where
  pub intent : Intent
  pub is : o ≡ Some intent
  pub lent : seen ≡ lent_intent intent
  pub whole : IsWholeIntent key intent

-- what is lent as the key's intent is of it
pub lent_own : (k : KeyHistory) (seen : LentIntent) → IsKeyHistory k → Some seen ≡ option_map lent_intent k.intent → IsLentIntent seen k.key k.intent
lent_own k seen whole is = by k.intent whole.intent is
  where
    by : (o : Option Intent) → IfSome o (IsWholeIntent k.key) → Some seen ≡ option_map lent_intent o → IsLentIntent seen k.key o
    by None all e = absurd cc
    by (Some i) all e = record { intent = i; is = refl; lent = cc; whole = all }

-- its provisional body has bytes
provisional_coded : (i : Intent) (key : List ℕ) → IsWholeIntent key i → IsEncodable (provisional_body i)
provisional_coded i key whole = by (last i.entries) (last-holds (λ (e : Entry Body). IsEncodable e.value) i.entries whole.bodies)
  where
    by : (o : Option (Entry Body)) → IfSome o (λ e. IsEncodable e.value) → IsEncodable (unwrap_or (option_map (λ e. e.value) o) Deletion)
    by None h = tt
    by (Some e) h = h

-- its provisional value is plain
pub plain_value : (seen : LentIntent) (i : Intent) (key : List ℕ) → seen ≡ lent_intent i → IsWholeIntent key i → is_entry_value seen.provisional ≡ true
plain_value seen i key lent whole =
    ap (λ (l : LentIntent). is_ok (body_of l.provisional)) lent ∙ ap is_ok (body_of-plain_bytes (provisional_body i) (provisional_coded i key whole))

-- and no longer than that of its version
pub plain_short : (seen : LentIntent) (i : Intent) → seen ≡ lent_intent i → IsRecord seen.head → length seen.provisional < 2 ^ 32
unfolding value_bytes
plain_short seen i lent rules =
    let head : IsRecord (intent_record i) = subst (λ (l : LentIntent). IsRecord l.head) lent rules in
    let size : length (value_bytes (provisional_body i) i.local i.ts) < 2 ^ 32 = head.value_size in
    let plain : length seen.provisional ≡ length (plain_bytes (provisional_body i)) = ap (λ (l : LentIntent). length l.provisional) lent in
    omega (arith, length-append (header_of (kept_local i.local i.ts)) (plain_bytes (provisional_body i)), size, plain)
