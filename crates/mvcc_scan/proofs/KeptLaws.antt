-- What is kept of a decision.
use Rattle.std.specs.Prelude.{ℕ, Bool, true, false, List, [], ◌∷◌, length, find, Option, Some, None, Result, Ok, Err, IsOk, IfOk, IfSome, nat_lt, cond}
use Rattle.std.specs.Option.{option_map}
use Rattle.std.proofs.Common.{◌≡◌, refl, sym, ap, subst, ◌∙◌, rules}
use Rattle.mvcc_key.specs.Order.{Timestamp, Key}
use Rattle.mvcc_key.specs.History.{Body, Deletion, Bytes, Int, Entry, Intent}
use Rattle.mvcc_key.specs.Items.{Item, newest_at}
use Rattle.mvcc_key.specs.Refusal.{Conflict, EpochFault, seen}
use Rattle.mvcc_key.specs.views.Seen.{time_of}
use Rattle.mvcc_key.specs.declared.timestamp.Timestamp.{Timestamp as Declared}
use Rattle.mvcc_key.specs.declared.memory.OutOfMemory.{OutOfMemory}
use Rattle.mvcc_value.specs.Encoding.{value_bytes}
use Rattle.intent_meta.specs.KeyHistory.{KeyHistory}
use Rattle.txn_state.specs.Transaction.{Txn, own_txn, read_time}
use Rattle.read_rule.specs.Read.{ReadRequest, Row, row_of, item_row, past_uncertain, past_more_recent, past_any_intent, past_intent, by_items, is_unsure, is_more_recent, is_conflict, entry_of, entry_row, stored_entry, decision}
use Rattle.read_rule.specs.views.Decided.{IsDecision, IsFound}
use Rattle.read_rule.specs.declared.decision.Decision.{Decision}
use Rattle.read_rule.specs.declared.decision.Decision.TheVariants as decided
use Rattle.mvcc_scan.specs.declared.kept.Kept.{Kept}
use Rattle.mvcc_scan.specs.declared.kept.Kept.TheVariants as code
use Rattle.intent_meta.specs.views.Lent.{LentIntent, lent_intent}
use Rattle.intent_meta.specs.views.WholeKeys.{IsKeyHistory, IsWholeIntent}
use Rattle.read_rule.specs.Read.{lists, listed_of}
use Rattle.mvcc_scan.specs.declared.met.Met.{Met}
use Rattle.mvcc_scan.specs.views.Kept.{IsReadable, IsLength, stored_len, IsValueKept, IsKept, met_as, met_of, listed_as}

-- a value that was decided can be read
pub decided-readable : (r : ReadRequest) (k : KeyHistory) (d : Decision) → IsDecision r k d → IsReadable d
decided-readable r k (decided.Value bytes ts) f = subst IsOk (sym f.read) (search rules)
decided-readable r k decided.Nothing f = tt
decided-readable r k (decided.Conflict id ts) f = tt
decided-readable r k (decided.Uncertain ts local) f = tt
decided-readable r k (decided.TooOld ts) f = tt
decided-readable r k (decided.EpochFault own other) f = tt

-- ---- a row is that of a body

record IsOf (row : Row) : Type 0 where
  key : Key
  body : Body
  ts : Timestamp
  stored : ℕ
  is : row_of key body ts stored ≡ Some row

items-row : (key : Key) (m u n : Option Item) (row : Row) → past_more_recent m (past_uncertain u (item_row key n)) ≡ Ok (Some row) → IsOf row
items-row key (Some i) u n row e = absurd cc
items-row key None (Some i) n row e = absurd cc
items-row key None None None row e = absurd cc
items-row key None None (Some i) row e = record { key = key; body = i.body; ts = i.ts; stored = length (value_bytes i.body i.local i.ts); is = cc }

decision-row : (r : ReadRequest) (k : KeyHistory) (row : Row) → decision r k ≡ Ok (Some row) → IsOf row
decision-row r k row e = by k.intent e
  where
    items_of : by_items k.key r k.items ≡ Ok (Some row) → IsOf row
    items_of = items-row k.key (find (is_more_recent r) k.items) (find (is_unsure r) k.items) (newest_at (read_time r.who) k.items) row

    by_entry : (i : Intent) (o : Option (Entry Body)) → entry_row i o (by_items k.key r k.items) ≡ Ok (Some row) → IsOf row
    by_entry i None f = items_of f
    by_entry i (Some x) f = record { key = i.key; body = x.value; ts = i.ts; stored = stored_entry i x; is = cc }

    by_conflict : (i : Intent) (c : Bool) → cond c (Err (Conflict (seen i ∷ []))) (by_items k.key r k.items) ≡ Ok (Some row) → IsOf row
    by_conflict i true f = absurd cc
    by_conflict i false f = items_of f

    by_epoch : (i : Intent) (t : Txn) (c : Bool) → cond c (Err (EpochFault t.epoch i.epoch)) (entry_row i (entry_of i (Some t)) (by_items k.key r k.items)) ≡ Ok (Some row) → IsOf row
    by_epoch i t true f = absurd cc
    by_epoch i t false f = by_entry i (entry_of i (Some t)) f

    by_txn : (i : Intent) (o : Option Txn) → past_intent r i o (by_items k.key r k.items) ≡ Ok (Some row) → IsOf row
    by_txn i None f = by_conflict i (is_conflict r i) f
    by_txn i (Some t) f = by_epoch i t (nat_lt t.epoch i.epoch) f

    by : (o : Option Intent) → past_any_intent r o (by_items k.key r k.items) ≡ Ok (Some row) → IsOf row
    by None f = items_of f
    by (Some i) f = by_txn i (own_txn i.id r.who) f

-- the body of a row, where there is one
abbrev body_in : Option Row → Body
body_in None = Deletion
body_in (Some row) = (row.found).body

-- no row is a deletion
row-no_deletion : (key : Key) (body : Body) (ts : Timestamp) (stored : ℕ) (row : Row) → row_of key body ts stored ≡ Some row → (row.found).body ≡ Deletion → ⊥
row-no_deletion key Deletion ts stored row e d = absurd cc
row-no_deletion key (Bytes bytes) ts stored row e d = let same : Bytes bytes ≡ (row.found).body = ap body_in e in absurd cc
row-no_deletion key (Int number) ts stored row e d = let same : Int number ≡ (row.found).body = ap body_in e in absurd cc

-- ---- the value of a row

-- a value that is found is kept as the row
pub kept-found : (r : ReadRequest) (k : KeyHistory) (len : Option ℕ) (bytes : List ℕ) (ts : Declared) (stored : ℕ) (kept : Kept) (f : IsFound r k bytes (time_of ts)) → IsLength r k len → stored ≡ stored_len len bytes
    → IsValueKept ((f.row).found).body ts stored kept → IsKept r k kept
kept-found r k len bytes ts stored (code.Row value at n) f length_is stored_is v =
    f.is ∙ (λ j. Ok (Some (record {
      found = record { key = f.key_is j; body = sym v.0 j; ts = (f.ts_is ∙ ap time_of (sym v.1)) j };
      stored = (length_is f.row f.is ∙ ap (stored_len len) (sym f.bytes_are) ∙ sym stored_is ∙ sym v.2) j;
    })))
kept-found r k len bytes ts stored code.Nothing f length_is stored_is v =
    let of : IsOf f.row = decision-row r k f.row f.is in absurd (row-no_deletion of.key of.body of.ts of.stored f.row of.is v)
kept-found r k len bytes ts stored (code.Conflict met) f length_is stored_is v = absurd v
kept-found r k len bytes ts stored (code.Uncertain at local) f length_is stored_is v = absurd v
kept-found r k len bytes ts stored (code.TooOld at) f length_is stored_is v = absurd v
kept-found r k len bytes ts stored (code.EpochFault own other) f length_is stored_is v = absurd v

-- unless memory is wanting
pub kept-result : (r : ReadRequest) (k : KeyHistory) (len : Option ℕ) (bytes : List ℕ) (ts : Declared) (stored : ℕ) (f : IsFound r k bytes (time_of ts)) → IsLength r k len → stored ≡ stored_len len bytes
    → (o : Result Kept OutOfMemory) → IfOk o (IsValueKept ((f.row).found).body ts stored) → IfOk o (IsKept r k)
kept-result r k len bytes ts stored f length_is stored_is (Ok kept) v = kept-found r k len bytes ts stored kept f length_is stored_is v
kept-result r k len bytes ts stored f length_is stored_is (Err e) v = tt

-- ---- the intent that is listed

-- an id and a timestamp
abbrev pub paired : List ℕ → Timestamp → List ℕ × Timestamp
paired id ts = (id, ts)

-- those of an intent
abbrev pub told_of : Intent → List ℕ × Timestamp
told_of i = paired i.id i.ts

-- what is told of an intent that is lent
pub met-some : (o : Option Intent) (l : LentIntent) (id : List ℕ) (ts : Timestamp) → Some l ≡ option_map lent_intent o → id ≡ (l.head).id → ts ≡ (l.head).ts → Some (paired id ts) ≡ option_map told_of o
met-some None l id ts h e f = absurd cc
met-some (Some i) l id ts h e f =
    let same : l ≡ lent_intent i = cc in
    let ids : id ≡ i.id = e ∙ ap (λ (x : LentIntent). (x.head).id) same in
    let times : ts ≡ i.ts = f ∙ ap (λ (x : LentIntent). (x.head).ts) same in
    λ j. Some (paired (ids j) (times j))

-- the intent that was met is listed with its key
pub listed-is : (r : ReadRequest) (k : KeyHistory) → IsKeyHistory k → (met : Option Met) → option_map met_of met ≡ option_map told_of k.intent
    → (listed : Bool) → listed ≡ lists r k.intent → (o : Option Met) → o ≡ cond listed met None → listed_as k.key o ≡ listed_of r k.intent
listed-is r k whole met met_is listed listed_is o o_is =
    ap (listed_as k.key) o_is ∙ ap (λ b. listed_as k.key (cond b met None)) listed_is ∙ by k.intent refl met met_is
  where
    seen-is : (i : Intent) (m : Met) → i.key ≡ k.key → met_of m ≡ told_of i → met_as k.key m ≡ seen i
    seen-is i m key e = λ j. record { key = sym key j; id = (e j).0; ts = (e j).1 }

    if-listed : (b : Bool) (i : Intent) (m : Met) → met_as k.key m ≡ seen i → listed_as k.key (cond b (Some m) None) ≡ cond b (seen i ∷ []) []
    if-listed true i m e = ap (λ s. s ∷ []) e
    if-listed false i m e = refl

    by : (i : Option Intent) → k.intent ≡ i → (n : Option Met) → option_map met_of n ≡ option_map told_of i → listed_as k.key (cond (lists r i) n None) ≡ listed_of r i
    by None is n e = refl
    by (Some i) is None e = absurd cc
    by (Some i) is (Some m) e =
        let of : IsWholeIntent k.key i = subst (λ x. IfSome x (IsWholeIntent k.key)) is whole.intent in
        let same : met_of m ≡ told_of i = cc in
        if-listed (lists r (Some i)) i m (seen-is i m of.key_is same)
