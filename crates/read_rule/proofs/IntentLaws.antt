-- What a key's intent says of a read.
use Rattle.std.proofs.Common.{◌≡◌, ℕ, ◌<◌, Bool, true, false, cond, List, length, Option, Some, None, refl, sym, ap, ◌∙◌}
use Rattle.std.specs.Prelude.{option_map, nat_lt, ◌==◌, is_some, bytes_eq}
use Rattle.mvcc_key.specs.History.{Body, Entry, Intent, SeqRange, entry_at}
use Rattle.mvcc_value.specs.Encoding.{plain_bytes}
use Rattle.intent_meta.specs.Entries.{entries_with}
use Rattle.intent_meta.specs.StoredPairs.{plain_entry}
use Rattle.intent_meta.specs.views.Lent.{LentIntent, lent_intent}
use Rattle.intent_meta.proofs.LentLaws.{entries_with-plain, entry_at-plain}
use Rattle.txn_state.specs.Transaction.{Txn, Actor, At, In, own_txn}
use Rattle.read_rule.specs.Read.{ReadRequest, entry_of, entry_row}
use Rattle.read_rule.specs.views.Steps.{IsOwn}

-- the value of a plain entry
plain_of : (o : Option (Entry Body)) → option_map (λ (e : Entry (List ℕ)). e.value) (option_map plain_entry o) ≡ option_map (λ e. plain_bytes e.value) o
plain_of None = refl
plain_of (Some e) = refl

-- the entry that is seen in what is lent of an intent is the intent's
pub own_value-is : (i : Intent) (l : LentIntent) (sequence : ℕ) (ranges : List SeqRange) → l ≡ lent_intent i → 0 < length i.entries
    → option_map (λ (e : Entry (List ℕ)). e.value) (entry_at sequence ranges (entries_with l.head l.provisional)) ≡ option_map (λ e. plain_bytes e.value) (entry_at sequence ranges i.entries)
own_value-is i l sequence ranges is some =
    ap (λ (x : LentIntent). option_map (λ (e : Entry (List ℕ)). e.value) (entry_at sequence ranges (entries_with x.head x.provisional))) is
    ∙ ap (λ (es : List (Entry (List ℕ))). option_map (λ (e : Entry (List ℕ)). e.value) (entry_at sequence ranges es)) (entries_with-plain i some)
    ∙ ap (option_map (λ (e : Entry (List ℕ)). e.value)) (entry_at-plain sequence ranges i.entries)
    ∙ plain_of (entry_at sequence ranges i.entries)

-- an own intent of the reader's epoch with an entry that is seen
pub own_answers : (r : ReadRequest) (i : Intent) (t : Txn) (o : Option (Entry Body)) → own_txn i.id r.who ≡ Some t → nat_lt t.epoch i.epoch ≡ false → (t.epoch == i.epoch) ≡ true
    → entry_at t.sequence t.ignored i.entries ≡ o → is_some (option_map (λ (e : Entry Body). plain_bytes e.value) o) ≡ true → IsOwn r (Some i)
own_answers r i t None own later same entry some = absurd cc
own_answers r i t (Some e) own later same entry some =
    let seen : entry_of i (Some t) ≡ Some e = rw same entry in
    record {
      head = i;
      entry = e;
      intent_is = refl;
      entry_is = ap (entry_of i) own ∙ seen;
      answer = λ others. rw own (rw later (ap (λ x. entry_row i x others) seen));
      unlisted = rw own refl;
    }

-- who has an own entry is a transaction, and sees that entry
pub record Sees (r : ReadRequest) (i : Intent) (e : Entry Body) : Type 0 where
  pub txn : Txn
  pub who_is : r.who ≡ In txn
  pub entry_is : entry_at txn.sequence txn.ignored i.entries ≡ Some e

pub sees : (r : ReadRequest) (i : Intent) (e : Entry Body) → entry_of i (own_txn i.id r.who) ≡ Some e → Sees r i e
sees r i e h = by r.who refl h
  where
    seen_by : (t : Txn) (mine same : Bool) → entry_of i (cond mine (Some t) None) ≡ Some e → (t.epoch == i.epoch) ≡ same → entry_at t.sequence t.ignored i.entries ≡ Some e
    seen_by t false same h s = absurd cc
    seen_by t true false h s = absurd (let none : entry_of i (Some t) ≡ None = rw s refl in cc)
    seen_by t true true h s = (let whole : entry_of i (Some t) ≡ entry_at t.sequence t.ignored i.entries = rw s refl in sym whole) ∙ h

    by : (who : Actor) → r.who ≡ who → entry_of i (own_txn i.id who) ≡ Some e → Sees r i e
    by (At ts) is h = absurd cc
    by (In t) is h = record { txn = t; who_is = is; entry_is = seen_by t (bytes_eq t.id i.id) (t.epoch == i.epoch) h refl }

-- a value is there exactly where its bytes are
pub is_some-map : {X Y : Type 0} (f : X → Y) (o : Option X) → is_some (option_map f o) ≡ is_some o
is_some-map f None = refl
is_some-map f (Some x) = refl
