-- Which row an own entry is, and which the newest item is.
use Rattle.std.proofs.Common.{◌≡◌, ℕ, ◌<◌, Bool, true, false, List, [], ◌∷◌, length, filter, Option, Some, None, Ok, Err, refl, sym, ap, subst, ◌∙◌, arith}
use Rattle.std.specs.Prelude.{option_map, IfSome, find, nat_le, not, ◌&&◌, ◌||◌, ◌==◌}
use Rattle.std.specs.List.{AllByRecursion}
use Rattle.std.proofs.lemmas.List.{nil_from_length}
use Rattle.mvcc_key.specs.Order.{Timestamp, is_before, is_up_to, no_time, is_no_time, Key}
use Rattle.mvcc_key.specs.History.{Body, Deletion, Bytes, Int, Entry, Intent, SeqRange, is_ignored, without_ignored, entry_at}
use Rattle.mvcc_key.specs.Items.{Item, newest, newest_at, effective_local}
use Rattle.mvcc_key.specs.Refusal.{Refusal, TooOld, Uncertain}
use Rattle.mvcc_key.proofs.EachLaws.{All-filter, All-weaker, All-every}
use Rattle.mvcc_key.proofs.ItemLaws.{below_first}
use Rattle.mvcc_key.proofs.FindLaws.{find-holds, find-none, last-holds}
use Rattle.mvcc_key.proofs.OrderLaws.{not_up_to-before}
use Rattle.mvcc_key.proofs.TimeLaws.{not_up_to, up_to_along, up_to_not_before}
use Rattle.mvcc_value.specs.Encoding.{plain_bytes, value_bytes, value_of, IsEncodable}
use Rattle.mvcc_value.proofs.PlainLaws.{HasPlain, value_bytes-plain}
use Rattle.intent_meta.specs.KeyHistory.{KeyHistory}
use Rattle.intent_meta.specs.views.WholeKeys.{IsWholeItem, IsWholeIntent, IsKeyHistory}
use Rattle.intent_meta.specs.views.Lent.{LentItem, LentIntent, lent_item, lent_intent, item_times, Stays}
use Rattle.intent_meta.proofs.KeyHistoryLaws.{whole_item-read, plain_value-read}
use Rattle.txn_state.specs.Transaction.{Txn, In, read_time, uncertainty_limit}
use Rattle.read_rule.specs.Read.{ReadRequest, Row, row_of, item_row, stored_entry, own_entry, past_uncertain, past_more_recent, by_items, is_more_recent, is_unsure, decision}
use Rattle.read_rule.proofs.IntentLaws.{Sees, sees}
use Rattle.read_rule.specs.views.Decided.{IsFound, bytes_of}
use Rattle.read_rule.specs.views.Steps.{IsOwn, IsByItem, IsPassed, IsRefused}

-- a body that has plain bytes is a row
record IsRowOf (key : Key) (body : Body) (ts : Timestamp) (stored : ℕ) : Type 0 where
  row : Row
  is : row_of key body ts stored ≡ Some row
  key_is : (row.found).key ≡ key
  body_is : (row.found).body ≡ body
  ts_is : (row.found).ts ≡ ts

some_row : (key : Key) (body : Body) (ts : Timestamp) (stored : ℕ) → 0 < length (plain_bytes body) → IsRowOf key body ts stored
some_row key Deletion ts stored some = absurd (omega arith)
some_row key (Bytes bytes) ts stored some = record { row = record { found = record { key = key; body = Bytes bytes; ts = ts }; stored = stored }; is = refl; key_is = refl; body_is = refl; ts_is = refl }
some_row key (Int number) ts stored some = record { row = record { found = record { key = key; body = Int number; ts = ts }; stored = stored }; is = refl; key_is = refl; body_is = refl; ts_is = refl }

-- and one that has none is no row
no_row : (key : Key) (body : Body) (ts : Timestamp) (stored : ℕ) → plain_bytes body ≡ [] → row_of key body ts stored ≡ None
no_row key Deletion ts stored none = refl
no_row key (Bytes bytes) ts stored none = absurd cc
no_row key (Int number) ts stored none = absurd cc

-- ---- the newest item

-- what is lent is of an item, where there is one
lent_of : (o : Option Item) (l : LentItem) → Some l ≡ option_map lent_item o → (i : Item) × (o ≡ Some i) × (l ≡ lent_item i)
lent_of None l h = absurd cc
lent_of (Some i) l h = (i, refl, cc)

-- an item without plain bytes is no data
pub empty_item : (r : ReadRequest) (k : KeyHistory) (l : LentItem) (plain : List ℕ) → IsByItem r k → Some l ≡ option_map lent_item (newest_at (read_time r.who) k.items)
    → ((body : Body) (local ts : Timestamp) → l.bytes ≡ value_bytes body local ts → plain ≡ plain_bytes body) → length plain ≡ 0 → decision r k ≡ Ok None
empty_item r k l plain by some plain_is none =
    let found = lent_of (newest_at (read_time r.who) k.items) l some in
    let i : Item = found.0 in
    let bytes : l.bytes ≡ value_bytes i.body i.local i.ts = ap (λ (x : LentItem). x.bytes) found.2 in
    let nothing : plain_bytes i.body ≡ [] = nil_from_length _ (ap length (sym (plain_is i.body i.local i.ts bytes)) ∙ none) in
    by.answer ∙ ap (item_row k.key) found.1 ∙ ap Ok (no_row k.key i.body i.ts (length (value_bytes i.body i.local i.ts)) nothing)

-- no bytes have no plain bytes
pub nothing_plain : (body : Body) (local ts : Timestamp) → [] ≡ value_bytes body local ts → [] ≡ plain_bytes body
nothing_plain body local ts is =
    let plain : HasPlain [] body = subst (λ (b : List ℕ). HasPlain b body) (sym is) (value_bytes-plain body local ts) in plain.whole refl

-- an item with plain bytes is the row
pub found_item : (r : ReadRequest) (k : KeyHistory) (l : LentItem) (plain : List ℕ) → IsKeyHistory k → IsByItem r k → Some l ≡ option_map lent_item (newest_at (read_time r.who) k.items)
    → ((body : Body) (local ts : Timestamp) → l.bytes ≡ value_bytes body local ts → plain ≡ plain_bytes body) → 0 < length plain → IsFound r k l.bytes l.ts
found_item r k l plain h by some plain_is long =
    let found = lent_of (newest_at (read_time r.who) k.items) l some in
    let i : Item = found.0 in
    let bytes : l.bytes ≡ value_bytes i.body i.local i.ts = ap (λ (x : LentItem). x.bytes) found.2 in
    let ts : l.ts ≡ i.ts = ap (λ (x : LentItem). x.ts) found.2 in
    let whole : IsWholeItem i = subst (λ o. IfSome o IsWholeItem) found.1 (find-holds IsWholeItem (λ j. is_up_to j.ts (read_time r.who)) k.items h.items) in
    let row = some_row k.key i.body i.ts (length (value_bytes i.body i.local i.ts)) (subst (λ (b : List ℕ). 0 < length b) (plain_is i.body i.local i.ts bytes) long) in
    record {
      row = row.row;
      local = i.local;
      is = by.answer ∙ ap (item_row k.key) found.1 ∙ ap Ok row.is;
      key_is = row.key_is;
      ts_is = row.ts_is ∙ sym ts;
      bytes_are = bytes ∙ sym (ap (λ e. bytes_of e (newest_at (read_time r.who) k.items)) by.no_entry ∙ ap (bytes_of None) found.1);
      read = (λ j. value_of (ts j) (bytes j)) ∙ whole_item-read i whole ∙ ap (λ (b : Body). Ok (record { local = i.local; body = b })) (sym row.body_is);
    }

-- ---- an own entry

-- what holds of all entries holds of the one that is seen
entry_holds : (P : Entry Body → Type 0) (sequence : ℕ) (ranges : List SeqRange) (es : List (Entry Body)) (e : Entry Body) → AllByRecursion P es → entry_at sequence ranges es ≡ Some e → P e
entry_holds P sequence ranges es e all is =
    subst (λ o. IfSome o P) is (last-holds P (filter (λ x. nat_le x.sequence sequence) (without_ignored ranges es))
    (All-filter P (λ x. nat_le x.sequence sequence) (without_ignored ranges es) (All-filter P (λ x. not (is_ignored ranges x.sequence)) es all)))

-- an own entry without plain bytes is no data
pub empty_entry : (r : ReadRequest) (k : KeyHistory) (own : IsOwn r k.intent) (plain : List ℕ) → plain ≡ plain_bytes (own.entry).value → length plain ≡ 0 → decision r k ≡ Ok None
empty_entry r k own plain is none =
    let nothing : plain_bytes (own.entry).value ≡ [] = nil_from_length _ (ap length (sym is) ∙ none) in
    own.answer (by_items k.key r k.items) ∙ ap Ok (no_row (own.head).key (own.entry).value (own.head).ts (stored_entry own.head own.entry) nothing)

-- and one with plain bytes is the row
pub found_entry : (r : ReadRequest) (k : KeyHistory) (own : IsOwn r k.intent) (sequence : ℕ) (ranges : List SeqRange) (plain : List ℕ) (ts : Timestamp) → IsKeyHistory k
    → entry_at sequence ranges (own.head).entries ≡ Some own.entry → plain ≡ plain_bytes (own.entry).value → 0 < length plain → ts ≡ (own.head).ts → IsFound r k plain ts
found_entry r k own sequence ranges plain ts h entry is long ts_is =
    let i : Intent = own.head in
    let e : Entry Body = own.entry in
    let whole : IsWholeIntent k.key i = subst (λ o. IfSome o (IsWholeIntent k.key)) own.intent_is h.intent in
    let coded : IsEncodable e.value = entry_holds (λ x. IsEncodable x.value) sequence ranges i.entries e whole.bodies entry in
    let row = some_row i.key e.value i.ts (stored_entry i e) (subst (λ (b : List ℕ). 0 < length b) is long) in
    record {
      row = row.row;
      local = no_time;
      is = own.answer (by_items k.key r k.items) ∙ ap Ok row.is;
      key_is = row.key_is ∙ whole.key_is;
      ts_is = row.ts_is ∙ sym ts_is;
      bytes_are = is ∙ sym (ap (λ x. bytes_of x (newest_at (read_time r.who) k.items)) own.entry_is);
      read = ap (value_of ts) is ∙ plain_value-read e.value ts coded ∙ ap (λ (b : Body). Ok (record { local = no_time; body = b })) (sym row.body_is);
    }

-- ---- items that refuse

-- a read that does not fail on more recent items refuses none
pub none_fails : (r : ReadRequest) (items : List Item) → (r.options).fail_more_recent ≡ false → find (is_more_recent r) items ≡ None
none_fails r items fails = find-none (is_more_recent r) items (All-every (λ i. is_more_recent r i ≡ false) items (λ i. rw fails refl))

-- where the newest item is below the read timestamp none is at or above it
pub none_recent : (r : ReadRequest) (k : KeyHistory) → IsKeyHistory k → IfSome (newest k.items) (λ i. is_up_to (read_time r.who) i.ts ≡ false) → find (is_more_recent r) k.items ≡ None
none_recent r k h below =
    find-none (is_more_recent r) k.items (All-weaker (λ (i : Item). is_before i.ts (read_time r.who) ≡ true) (λ i. is_more_recent r i ≡ false) k.items each
    (below_first (read_time r.who) k.items h.in_order (first_below (newest k.items) below)))
  where
    each : (i : Item) → is_before i.ts (read_time r.who) ≡ true → is_more_recent r i ≡ false
    each i before = by (r.options).fail_more_recent
      where
        by : (b : Bool) → (b && is_up_to (read_time r.who) i.ts) ≡ false
        by true = not_up_to-before i.ts (read_time r.who) before
        by false = refl

    first_below : (o : Option Item) → IfSome o (λ i. is_up_to (read_time r.who) i.ts ≡ false) → IfSome o (λ i. is_before i.ts (read_time r.who) ≡ true)
    first_below None b = tt
    first_below (Some i) b = not_up_to (read_time r.who) i.ts b

-- what is lent of the newest item tells whether it is below
pub lent_below : (o : Option Item) (l : LentItem) (read : Timestamp) → Some l ≡ option_map lent_item o → is_up_to read l.ts ≡ false → IfSome o (λ i. is_up_to read i.ts ≡ false)
lent_below None l read h below = tt
lent_below (Some i) l read h below = let same : l ≡ lent_item i = cc in subst (λ (x : LentItem). is_up_to read x.ts ≡ false) same below

-- no item is uncertain where the limit is not above the read timestamp
pub none_unsure : (r : ReadRequest) (items : List Item) → is_up_to (uncertainty_limit r.who) (read_time r.who) ≡ true → find (is_unsure r) items ≡ None
none_unsure r items low = find-none (is_unsure r) items (All-every (λ i. is_unsure r i ≡ false) items each)
  where
    by : (i : Item) (above within rest : Bool) → is_before (read_time r.who) i.ts ≡ above → is_up_to i.ts (uncertainty_limit r.who) ≡ within → (above && within && rest) ≡ false
    by i false within rest p q = refl
    by i true false rest p q = refl
    by i true true rest p q = absurd (
        let up = up_to_along i.ts (uncertainty_limit r.who) (read_time r.who) q low in
        let no : is_before (read_time r.who) i.ts ≡ false = up_to_not_before i.ts (read_time r.who) up in cc)

    each : (i : Item) → is_unsure r i ≡ false
    each i = by i (is_before (read_time r.who) i.ts) (is_up_to i.ts (uncertainty_limit r.who)) (is_no_time (r.options).local_limit || is_up_to (effective_local i) (r.options).local_limit) refl refl

-- ---- tests of length

-- no bytes, and some bytes
pub some_bytes : (bytes : List ℕ) → (length bytes == 0) ≡ false → 0 < length bytes
some_bytes [] h = absurd cc
some_bytes (b ∷ bytes) h = omega arith

-- ---- an own entry, as it is lent

-- what is lent of the own intent has the entry that answers
pub record IsSeen (r : ReadRequest) (i : Intent) (e : Entry Body) (t : Txn) (l : LentIntent) (value : List ℕ) : Type 0 where
  pub entry_is : entry_at t.sequence t.ignored i.entries ≡ Some e
  pub value_is : value ≡ plain_bytes e.value
  pub ts_is : (l.head).ts ≡ i.ts

-- a transaction of one who acts
same_txn : (t u : Txn) → In t ≡ In u → t ≡ u
same_txn t u h = cc

pub own_is_seen : (r : ReadRequest) (k : KeyHistory) (own : IsOwn r k.intent) (l : LentIntent) (t : Txn) (value : List ℕ) → IsKeyHistory k → In t ≡ r.who → Some l ≡ option_map lent_intent k.intent
    → ((i : Intent) → l ≡ lent_intent i → 0 < length i.entries → Some value ≡ option_map (λ e. plain_bytes e.value) (entry_at t.sequence t.ignored i.entries))
    → IsSeen r own.head own.entry t l value
own_is_seen r k own l t value h who lent found =
    let i : Intent = own.head in
    let e : Entry Body = own.entry in
    let lent_is : Some l ≡ Some (lent_intent i) = lent ∙ ap (option_map lent_intent) own.intent_is in
    let l_is : l ≡ lent_intent i = cc in
    let whole : IsWholeIntent k.key i = subst (λ o. IfSome o (IsWholeIntent k.key)) own.intent_is h.intent in
    let mine : Sees r i e = sees r i e (sym (ap (own_entry r) own.intent_is) ∙ own.entry_is) in
    let txn : mine.txn ≡ t = same_txn mine.txn t (sym mine.who_is ∙ sym who) in
    let entry : entry_at t.sequence t.ignored i.entries ≡ Some e = subst (λ (u : Txn). entry_at u.sequence u.ignored i.entries ≡ Some e) txn mine.entry_is in
    let value_found : Some value ≡ Some (plain_bytes e.value) = found i l_is whole.some_entry ∙ ap (option_map (λ x. plain_bytes x.value)) entry in
    record { entry_is = entry; value_is = cc; ts_is = ap (λ (x : LentIntent). (x.head).ts) l_is }

-- ---- past the intent

-- an item that refuses
pub too_old_is : (r : ReadRequest) (k : KeyHistory) (listed : Bool) (ts : Timestamp) → IsPassed r k.intent listed → Some ts ≡ option_map (λ (i : Item). i.ts) (find (is_more_recent r) k.items)
    → decision r k ≡ Err (TooOld ts)
too_old_is r k listed ts passed some = passed.past (by_items k.key r k.items) ∙ by (find (is_more_recent r) k.items) some
  where
    by : (o : Option Item) → Some ts ≡ option_map (λ (i : Item). i.ts) o → past_more_recent o (past_uncertain (find (is_unsure r) k.items) (item_row k.key (newest_at (read_time r.who) k.items))) ≡ Err (TooOld ts)
    by None h = absurd cc
    by (Some i) h = let same : ts ≡ i.ts = cc in ap (λ t. Err (TooOld t)) (sym same)

-- none that is more recent
none_of : {A : Type 0} (f : Item → A) (o : Option Item) → None ≡ option_map f o → o ≡ None
none_of f None h = refl
none_of f (Some i) h = absurd cc

pub uncertain_is : (r : ReadRequest) (k : KeyHistory) (listed : Bool) (ts local : Timestamp) → IsPassed r k.intent listed → None ≡ option_map (λ (i : Item). i.ts) (find (is_more_recent r) k.items)
    → Some (ts, local) ≡ option_map item_times (find (is_unsure r) k.items) → decision r k ≡ Err (Uncertain ts local)
uncertain_is r k listed ts local passed none some =
    passed.past (by_items k.key r k.items)
    ∙ ap (λ o. past_more_recent o (past_uncertain (find (is_unsure r) k.items) (item_row k.key (newest_at (read_time r.who) k.items)))) (none_of (λ i. i.ts) (find (is_more_recent r) k.items) none)
    ∙ by (find (is_unsure r) k.items) some
  where
    by : (o : Option Item) → Some (ts, local) ≡ option_map item_times o → past_uncertain o (item_row k.key (newest_at (read_time r.who) k.items)) ≡ Err (Uncertain ts local)
    by None h = absurd cc
    by (Some i) h =
        let times : (ts, local) ≡ item_times i = cc in
        λ j. Err (Uncertain (sym times j).0 (sym times j).1)

-- so the newest item answers
pub by_item_is : (r : ReadRequest) (k : KeyHistory) (listed : Bool) → IsPassed r k.intent listed → None ≡ option_map (λ (i : Item). i.ts) (find (is_more_recent r) k.items)
    → None ≡ option_map item_times (find (is_unsure r) k.items) → IsByItem r k
by_item_is r k listed passed recent unsure = record {
  no_entry = passed.no_entry;
  answer =
      passed.past (by_items k.key r k.items)
      ∙ ap (λ o. past_more_recent o (past_uncertain (find (is_unsure r) k.items) (item_row k.key (newest_at (read_time r.who) k.items)))) (none_of (λ i. i.ts) (find (is_more_recent r) k.items) recent)
      ∙ ap (λ o. past_uncertain o (item_row k.key (newest_at (read_time r.who) k.items))) (none_of item_times (find (is_unsure r) k.items) unsure);
}

-- an intent that refuses
pub refused_is : (r : ReadRequest) (k : KeyHistory) (why : Refusal) → IsRefused r k.intent why → decision r k ≡ Err why
refused_is r k why refused = refused.answer (by_items k.key r k.items)

-- ---- calls that leave what is told

pub stays-trans : {K P : Type 0} (shown : K → KeyHistory) (place : K → P) (a b c : K) → Stays shown place a b → Stays shown place b c → Stays shown place a c
stays-trans shown place a b c p q = record { shown_same = q.shown_same ∙ p.shown_same; place_same = q.place_same ∙ p.place_same }
