-- How many bytes the value of a row has as it is stored.
use Rattle.std.specs.Prelude.{ℕ, ◌<◌, Bool, true, false, ◌&&◌, not, List, [], ◌∷◌, length, filter, find, Option, Some, None, option_map, unwrap_or, Ok, Err, nat_le, nat_lt, ◌==◌, cond}
use Rattle.std.specs.Prelude.{IfSome}
use Rattle.std.proofs.Common.{◌≡◌, refl, sym, ap, ap₂, subst, ◌∙◌, arith}
use Rattle.std.proofs.lemmas.Bool.{eqb-true}
use Rattle.std.proofs.lemmas.Grind.{common_steps}
use Rattle.mvcc_key.specs.Lists.{last}
use Rattle.mvcc_key.specs.Order.{Timestamp, Key}
use Rattle.mvcc_key.specs.History.{Body, Deletion, Bytes, Int, Entry, Intent, SeqRange, is_ignored, without_ignored, entry_at}
use Rattle.mvcc_key.specs.Items.{Item, newest_at}
use Rattle.mvcc_key.specs.Refusal.{Conflict, EpochFault, seen}
use Rattle.mvcc_value.specs.Encoding.{plain_bytes, value_bytes}
use Rattle.intent_meta.specs.StoredPairs.{provisional, provisional_body, provisional_sequence, stored_value}
use Rattle.intent_meta.specs.KeyHistory.{KeyHistory}
use Rattle.txn_state.specs.Transaction.{Txn, own_txn, read_time}
use Rattle.read_rule.specs.Read.{ReadRequest, Row, row_of, item_row, past_uncertain, past_more_recent, past_any_intent, past_intent, by_items, is_unsure, is_more_recent, is_conflict, entry_of, entry_row, own_entry, stored_entry, decision}
use Rattle.read_rule.specs.views.Decided.{found_bytes, bytes_of}
use Rattle.mvcc_key.proofs.FindLaws.{last-holds}
use Rattle.mvcc_key.proofs.EachLaws.{all_pass, All-filter}
use Rattle.intent_meta.specs.views.Lent.{LentIntent, lent_intent}
use Rattle.intent_meta.specs.views.WholeKeys.{IsKeyHistory, IsWholeIntent}
use Rattle.mvcc_scan.specs.views.Kept.{IsLength, stored_len}

-- ---- the last entry that is seen

-- an element in front leaves the last one
last-cons : {X : Type 0} (y : X) (xs : List X) (x : X) → last xs ≡ Some x → last (y ∷ xs) ≡ Some x
last-cons y [] x e = absurd cc
last-cons y (z ∷ xs) x e = e

-- the last element that passes is the last one, where that does
last-passes : {X : Type 0} (p : X → Bool) (xs : List X) (x : X) → last xs ≡ Some x → p x ≡ true → last (filter p xs) ≡ Some x
last-passes p [] x e pass = absurd cc
last-passes p (y ∷ []) x e pass =
    let same : y ≡ x = cc in
    let here : p y ≡ true = ap p same ∙ pass in
    ap (λ b. last (cond b (y ∷ []) [])) here ∙ ap Some same
last-passes p (y ∷ z ∷ xs) x e pass = by (p y) (last-passes p (z ∷ xs) x e pass)
  where
    by : (b : Bool) → last (filter p (z ∷ xs)) ≡ Some x → last (cond b (y ∷ filter p (z ∷ xs)) (filter p (z ∷ xs))) ≡ Some x
    by true h = last-cons y (filter p (z ∷ xs)) x h
    by false h = h

-- a list that is not empty has a last element
last-some : {X : Type 0} (xs : List X) → 0 < length xs → (x : X) × (last xs ≡ Some x)
last-some [] some = absurd (omega arith)
last-some (x ∷ []) some = (x, refl)
last-some (x ∷ y ∷ xs) some = last-some (y ∷ xs) (omega arith)

-- a number is itself
same-number : (n : ℕ) → (n == n) ≡ true
same-number n = grind (arith, common_steps)

-- the parts of a test
and-left : (a b : Bool) → (a && b) ≡ true → a ≡ true
and-left true b h = refl
and-left false b h = h

and-right : (a b : Bool) → (a && b) ≡ true → b ≡ true
and-right true b h = h
and-right false b h = absurd cc

-- what is written at the sequence is seen by the transaction
abbrev pub sees-at : Txn → ℕ → Bool
sees-at t n = nat_le n t.sequence && not (is_ignored t.ignored n)

-- the last entry, where it is seen
last-seen : (sequence : ℕ) (ranges : List SeqRange) (es : List (Entry Body)) (e : Entry Body) → last es ≡ Some e → nat_le e.sequence sequence ≡ true → not (is_ignored ranges e.sequence) ≡ true
    → entry_at sequence ranges es ≡ Some e
last-seen sequence ranges es e is low kept =
    last-passes (λ x. nat_le x.sequence sequence) (without_ignored ranges es) e (last-passes (λ x. not (is_ignored ranges x.sequence)) es e is kept) low

-- an entry that is seen is at or below the sequence
seen_low : (sequence : ℕ) (ranges : List SeqRange) (es : List (Entry Body)) (e : Entry Body) → entry_at sequence ranges es ≡ Some e → nat_le e.sequence sequence ≡ true
seen_low sequence ranges es e is =
    subst (λ o. IfSome o (λ x. nat_le x.sequence sequence ≡ true)) is
    (last-holds (λ x. nat_le x.sequence sequence ≡ true) (filter (λ x. nat_le x.sequence sequence) (without_ignored ranges es)) (all_pass (λ x. nat_le x.sequence sequence) (without_ignored ranges es)))

-- and is not ignored
seen_kept : (sequence : ℕ) (ranges : List SeqRange) (es : List (Entry Body)) (e : Entry Body) → entry_at sequence ranges es ≡ Some e → not (is_ignored ranges e.sequence) ≡ true
seen_kept sequence ranges es e is =
    subst (λ o. IfSome o (λ x. not (is_ignored ranges x.sequence) ≡ true)) is
    (last-holds (λ x. not (is_ignored ranges x.sequence) ≡ true) (filter (λ x. nat_le x.sequence sequence) (without_ignored ranges es))
    (All-filter (λ x. not (is_ignored ranges x.sequence) ≡ true) (λ x. nat_le x.sequence sequence) (without_ignored ranges es) (all_pass (λ x. not (is_ignored ranges x.sequence)) es)))

-- ---- rows

-- a row has the length that it is given
row-stored : (key : Key) (body : Body) (ts : Timestamp) (stored : ℕ) (row : Row) → row_of key body ts stored ≡ Some row → row.stored ≡ stored
row-stored key Deletion ts stored row e = absurd cc
row-stored key (Bytes bytes) ts stored row e = cc
row-stored key (Int number) ts stored row e = cc

-- where items answer, the newest one does, and its bytes are those found
by_items-stored : (key : Key) (m u n : Option Item) (row : Row) → past_more_recent m (past_uncertain u (item_row key n)) ≡ Ok (Some row) → row.stored ≡ length (bytes_of None n)
by_items-stored key (Some i) u n row e = absurd cc
by_items-stored key None (Some i) n row e = absurd cc
by_items-stored key None None None row e = absurd cc
by_items-stored key None None (Some i) row e =
    let some : row_of key i.body i.ts (length (value_bytes i.body i.local i.ts)) ≡ Some row = cc in
    row-stored key i.body i.ts (length (value_bytes i.body i.local i.ts)) row some

-- where the intent neither refuses nor answers, so it is
past-length : (r : ReadRequest) (k : KeyHistory) → own_entry r k.intent ≡ None → decision r k ≡ by_items k.key r k.items → IsLength r k None
past-length r k unseen is = λ row e.
    by_items-stored k.key (find (is_more_recent r) k.items) (find (is_unsure r) k.items) (newest_at (read_time r.who) k.items) row (sym is ∙ e)
    ∙ ap (λ o. length (bytes_of o (newest_at (read_time r.who) k.items))) (sym unseen)

-- a key with no intent
pub no_intent-length : (r : ReadRequest) (k : KeyHistory) → k.intent ≡ None → IsLength r k None
no_intent-length r k none = past-length r k (ap (own_entry r) none) (ap (λ o. past_any_intent r o (by_items k.key r k.items)) none)

module _ (r : ReadRequest) (k : KeyHistory) (i : Intent) (is : k.intent ≡ Some i) where
  -- the decision, by whose the intent is
  decision-by : (o : Option Txn) → own_txn i.id r.who ≡ o → decision r k ≡ past_intent r i o (by_items k.key r k.items)
  decision-by o own = ap (λ x. past_any_intent r x (by_items k.key r k.items)) is ∙ ap (λ x. past_intent r i x (by_items k.key r k.items)) own

  -- the own entry, by whose the intent is
  entry-by : (o : Option Txn) → own_txn i.id r.who ≡ o → own_entry r k.intent ≡ entry_of i o
  entry-by o own = ap (own_entry r) is ∙ ap (entry_of i) own

  -- another's intent
  pub foreign-length : own_txn i.id r.who ≡ None → IsLength r k None
  foreign-length own = λ row e. by (is_conflict r i) row (sym (decision-by None own) ∙ e)
    where
      by : (c : Bool) (row : Row) → cond c (Err (Conflict (seen i ∷ []))) (by_items k.key r k.items) ≡ Ok (Some row) → row.stored ≡ length (found_bytes r k)
      by true row e = absurd cc
      by false row e =
          by_items-stored k.key (find (is_more_recent r) k.items) (find (is_unsure r) k.items) (newest_at (read_time r.who) k.items) row e
          ∙ ap (λ o. length (bytes_of o (newest_at (read_time r.who) k.items))) (sym (entry-by None own))

  -- an own intent, by the entry that is seen
  own-length : (t : Txn) → own_txn i.id r.who ≡ Some t → (len : Option ℕ) (o : Option (Entry Body)) → entry_of i (Some t) ≡ o
      → ((e : Entry Body) → o ≡ Some e → stored_entry i e ≡ stored_len len (plain_bytes e.value)) → (o ≡ None → len ≡ None) → IsLength r k len
  own-length t own len o entry some none = λ row e. by (nat_lt t.epoch i.epoch) row (sym (decision-by (Some t) own) ∙ e)
    where
      bytes_are : found_bytes r k ≡ bytes_of o (newest_at (read_time r.who) k.items)
      bytes_are = ap (λ x. bytes_of x (newest_at (read_time r.who) k.items)) (entry-by (Some t) own ∙ entry)

      at : (x : Option (Entry Body)) → o ≡ x → (row : Row) → entry_row i x (by_items k.key r k.items) ≡ Ok (Some row) → row.stored ≡ stored_len len (bytes_of x (newest_at (read_time r.who) k.items))
      at None is row e =
          by_items-stored k.key (find (is_more_recent r) k.items) (find (is_unsure r) k.items) (newest_at (read_time r.who) k.items) row e
          ∙ ap (λ l. stored_len l (bytes_of None (newest_at (read_time r.who) k.items))) (sym (none is))
      at (Some x) is row e =
          let found : row_of i.key x.value i.ts (stored_entry i x) ≡ Some row = cc in
          row-stored i.key x.value i.ts (stored_entry i x) row found ∙ some x is

      by : (c : Bool) (row : Row) → cond c (Err (EpochFault t.epoch i.epoch)) (entry_row i (entry_of i (Some t)) (by_items k.key r k.items)) ≡ Ok (Some row) → row.stored ≡ stored_len len (found_bytes r k)
      by true row e = absurd cc
      by false row e =
          at o refl row (ap (λ x. entry_row i x (by_items k.key r k.items)) (sym entry) ∙ e) ∙ ap (stored_len len) (sym bytes_are)

  -- where it is not, the entry that is seen is another one
  pub unseen-length : (t : Txn) → own_txn i.id r.who ≡ Some t → ((t.epoch == i.epoch) && sees-at t (provisional_sequence i)) ≡ false → IsLength r k None
  unseen-length t own unseen = own-length t own None (entry_of i (Some t)) refl (by (t.epoch == i.epoch) unseen) (λ _. refl)
    where
      other : (e : Entry Body) → nat_le e.sequence t.sequence ≡ true → not (is_ignored t.ignored e.sequence) ≡ true → sees-at t (provisional_sequence i) ≡ false → (b : Bool) → (e.sequence == provisional_sequence i) ≡ b
          → cond b (length (value_bytes e.value i.local i.ts)) (length (plain_bytes e.value)) ≡ length (plain_bytes e.value)
      other e low kept missed false same = refl
      other e low kept missed true same =
          let is : e.sequence ≡ provisional_sequence i = eqb-true _ _ same in
          let yes : sees-at t (provisional_sequence i) ≡ true = subst (λ n. sees-at t n ≡ true) is (ap₂ ◌&&◌ low kept) in
          absurd cc

      by : (b : Bool) → (b && sees-at t (provisional_sequence i)) ≡ false → (e : Entry Body) → cond b (entry_at t.sequence t.ignored i.entries) None ≡ Some e → stored_entry i e ≡ length (plain_bytes e.value)
      by false missed e is = absurd cc
      by true missed e is =
          other e (seen_low t.sequence t.ignored i.entries e is) (seen_kept t.sequence t.ignored i.entries e is) missed (e.sequence == provisional_sequence i) refl

  -- where it is, it is the one that is seen, and its value is that of the provisional version
  pub seen-length : (t : Txn) → own_txn i.id r.who ≡ Some t → 0 < length i.entries → (t.epoch == i.epoch) ≡ true → sees-at t (provisional_sequence i) ≡ true → (len : ℕ) → len ≡ length (stored_value (provisional i)) → IsLength r k (Some len)
  seen-length t own some epoch sees len len_is =
      let x = last-some i.entries some in
      let e : Entry Body = x.0 in
      let seq : provisional_sequence i ≡ e.sequence = ap (λ o. unwrap_or (option_map (λ (y : Entry Body). y.sequence) o) 0) x.1 in
      let body : provisional_body i ≡ e.value = ap (λ o. unwrap_or (option_map (λ (y : Entry Body). y.value) o) Deletion) x.1 in
      let test : sees-at t e.sequence ≡ true = subst (λ n. sees-at t n ≡ true) seq sees in
      let at : entry_at t.sequence t.ignored i.entries ≡ Some e = last-seen t.sequence t.ignored i.entries e x.1 (and-left _ _ test) (and-right _ _ test) in
      own-length t own (Some len) (Some e) (ap (λ b. cond b (entry_at t.sequence t.ignored i.entries) None) epoch ∙ at)
      (λ y is. subst (λ z. stored_entry i z ≡ len) (some_is e y is)
      (ap (λ b. cond b (length (value_bytes e.value i.local i.ts)) (length (plain_bytes e.value))) (ap (λ n. e.sequence == n) seq ∙ same-number e.sequence)
      ∙ ap (λ b. length (value_bytes b i.local i.ts)) (sym body) ∙ sym len_is))
      (λ none. absurd (some_is_none e none))
    where
      some_is_none : (a : Entry Body) → Some a ≡ None → ⊥
      some_is_none a is = absurd cc

      some_is : (a b : Entry Body) → Some a ≡ Some b → a ≡ b
      some_is a b is = cc

-- ---- an intent that is lent

-- what is lent is of an intent
pub lent-is : (o : Option Intent) (l : LentIntent) → Some l ≡ option_map lent_intent o → (i : Intent) × (o ≡ Some i) × (l ≡ lent_intent i)
lent-is None l h = absurd cc
lent-is (Some i) l h = (i, refl, cc)

-- nothing is lent of none
lent-none : (o : Option Intent) → None ≡ option_map lent_intent o → o ≡ None
lent-none None h = refl
lent-none (Some i) h = absurd cc

pub lent_none-length : (r : ReadRequest) (k : KeyHistory) → None ≡ option_map lent_intent k.intent → IsLength r k None
lent_none-length r k lent = no_intent-length r k (lent-none k.intent lent)

pub lent_foreign-length : (r : ReadRequest) (k : KeyHistory) (l : LentIntent) → Some l ≡ option_map lent_intent k.intent → own_txn (l.head).id r.who ≡ None → IsLength r k None
lent_foreign-length r k l lent own =
    let i = lent-is k.intent l lent in
    foreign-length r k i.0 i.1 (ap (λ (x : LentIntent). own_txn (x.head).id r.who) (sym i.2) ∙ own)

-- the test of the code
abbrev pub sees_last : Txn → ℕ → ℕ → Bool
sees_last t epoch sequence = (t.epoch == epoch) && sees-at t sequence

pub lent_unseen-length : (r : ReadRequest) (k : KeyHistory) (l : LentIntent) (t : Txn) → Some l ≡ option_map lent_intent k.intent → own_txn (l.head).id r.who ≡ Some t
    → sees_last t (l.head).epoch (l.head).sequence ≡ false → IsLength r k None
lent_unseen-length r k l t lent own unseen =
    let i = lent-is k.intent l lent in
    unseen-length r k i.0 i.1 t (ap (λ (x : LentIntent). own_txn (x.head).id r.who) (sym i.2) ∙ own) (ap (λ (x : LentIntent). sees_last t (x.head).epoch (x.head).sequence) (sym i.2) ∙ unseen)

pub lent_seen-length : (r : ReadRequest) (k : KeyHistory) (l : LentIntent) (t : Txn) → IsKeyHistory k → Some l ≡ option_map lent_intent k.intent → own_txn (l.head).id r.who ≡ Some t
    → sees_last t (l.head).epoch (l.head).sequence ≡ true → (len : ℕ) → len ≡ (l.head).value_length → IsLength r k (Some len)
lent_seen-length r k l t whole lent own seen len len_is =
    let i = lent-is k.intent l lent in
    let entries : IsWholeIntent k.key i.0 = subst (λ o. IfSome o (IsWholeIntent k.key)) i.1 whole.intent in
    let test : sees_last t (i.0).epoch (provisional_sequence i.0) ≡ true = ap (λ (x : LentIntent). sees_last t (x.head).epoch (x.head).sequence) (sym i.2) ∙ seen in
    seen-length r k i.0 i.1 t (ap (λ (x : LentIntent). own_txn (x.head).id r.who) (sym i.2) ∙ own) entries.some_entry
    (and-left _ _ test) (and-right _ _ test) len (len_is ∙ ap (λ (x : LentIntent). (x.head).value_length) i.2)
