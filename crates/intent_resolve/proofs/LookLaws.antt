-- What a cursor tells of the intent of the key at which it stands.
use Rattle.std.specs.Prelude.{◌≡◌, ◌≤◌, Bool, true, false, not, cond, List, ◌∷◌, map, is_some, Option, Some, None, option_map, unwrap_or, bytes_eq, IfSome, Result, Ok, Err}
use Rattle.std.proofs.Common.{refl, sym, ap, ◌∙◌, subst, arith}
use Rattle.mvcc_key.specs.Lists.{first, last}
use Rattle.mvcc_key.specs.Order.{is_no_time, Key}
use Rattle.mvcc_key.specs.History.{Body, Deletion, Entry, Intent, History, intent_of, versions_of}
use Rattle.mvcc_key.proofs.FindLaws.{last-holds}
use Rattle.mvcc_value.specs.Encoding.{IsEncodable, value_of}
use Rattle.intent_meta.specs.KeyPairs.{key_pairs}
use Rattle.intent_meta.specs.PointPairs.{set_point}
use Rattle.intent_meta.specs.Record.{IntentRecord}
use Rattle.intent_meta.specs.StoredPairs.{RecordOf, VersionOf, provisional, provisional_body, stored_pair, intent_record}
use Rattle.intent_meta.specs.Valid.{IsValid}
use Rattle.intent_meta.specs.views.WholeKeys.{IsWholeIntent}
use Rattle.intent_meta.proofs.ChangedLaws.{intent_of-stored}
use Rattle.intent_meta.proofs.KeyHistoryLaws.{whole_item-read}
use Rattle.intent_meta.proofs.ReadBackLaws.{stored_timed}
use Rattle.intent_meta.proofs.WholeKeyLaws.{keys_are_whole}
use Rattle.run_block.specs.RunFormat.{Run}
use Rattle.lsm_store.specs.Shown.{shown, fragments_in}
use Rattle.mvcc_cursor.specs.KeyPoints.{points_of, versions_in, key_in}
use Rattle.mvcc_cursor.specs.Standing.{Standing, AtKey, anew, here, points_at, stored, one_seek}
use Rattle.mvcc_cursor.specs.WellFormed.{IsWellFormed, history_in}
use Rattle.mvcc_cursor.specs.views.Lent.{LentVersion, lent_version, version_in}
use Rattle.mvcc_cursor.specs.views.Under.{begin_looks}
use Rattle.mvcc_cursor.proofs.HistoryLaws.{points-key}
use Rattle.mvcc_cursor.proofs.StoreLaws.{shown-set}
use Rattle.intent_resolve.specs.Resolve.{Update, is_of, of_update}

-- ---- whose intent it is

-- an intent is kept where a test holds
kept_some : (b : Bool) (i : Intent) → is_some (cond b (Some i) None) ≡ b
kept_some true i = refl
kept_some false i = refl

-- the record of the key's intent tells whether it is of the transaction
pub own-some : (u : Update) (r : IntentRecord) (o : Option Intent) (b : Bool) → Some r ≡ option_map intent_record o → b ≡ bytes_eq r.id u.id → b ≡ is_some (of_update u o)
own-some u r None b is e = absurd cc
own-some u r (Some i) b is e =
    let same : r ≡ intent_record i = cc in
    e ∙ ap (λ (q : IntentRecord). bytes_eq q.id u.id) same ∙ sym (kept_some (is_of u i) i)

-- where no record is lent there is none
pub own-none : (u : Update) (o : Option Intent) → None ≡ option_map intent_record o → false ≡ is_some (of_update u o)
own-none u None is = refl
own-none u (Some i) is = absurd cc

-- an own intent
pub record IsOwnOf (u : Update) (o : Option Intent) : Type 0 where
  pub intent : Intent
  pub is : o ≡ Some intent
  pub own : is_of u intent ≡ true

-- it is there
pub own_of : (u : Update) (o : Option Intent) → is_some (of_update u o) ≡ true → IsOwnOf u o
own_of u None e = absurd cc
own_of u (Some i) e = record { intent = i; is = refl; own = sym (kept_some (is_of u i) i) ∙ e }

-- or none is
pub none_of : (u : Update) (o : Option Intent) → is_some (of_update u o) ≡ false → of_update u o ≡ None
none_of u None e = refl
none_of u (Some i) e = by (is_of u i) e
  where
    by : (b : Bool) → is_some (cond b (Some i) None) ≡ false → cond b (Some i) None ≡ None
    by true p = absurd cc
    by false p = refl

-- ---- the points of the key

-- the points of a key with an intent are its record first
pub key-points : (store : List Run) (key : Key) (i : Intent) → IsWellFormed (history_in store) store → intent_of key (history_in store) ≡ Some i
    → points_of key (shown store) ≡ set_point (stored_pair (RecordOf i)) ∷ set_point (stored_pair (VersionOf (provisional i))) ∷ map set_point (map (λ v. stored_pair (VersionOf v)) (versions_of key (history_in store)))
key-points store key i formed was =
    points-key (history_in store) (shown store) (fragments_in store) formed (shown-set store) key
    ∙ ap (λ o. map set_point (key_pairs o (versions_of key (history_in store)))) was

-- the key of the cursor is that of the intent
pub key-here : (s : Standing) (key : Key) (i : Intent) → s.at ≡ AtKey key → IsWellFormed (history_in s.store) s.store → intent_of key (history_in s.store) ≡ Some i
    → key_in (first (here s)) ≡ Some i.key
key-here s key i at formed was =
    ap (λ p. key_in (first (points_at p (stored s)))) at ∙ ap (λ ps. key_in (first ps)) (key-points s.store key i formed was)

-- the first version of the key is the intent's provisional one
pub first-version : (s : Standing) (key : Key) (i : Intent) → s ≡ anew s → s.at ≡ AtKey key → IsWellFormed (history_in s.store) s.store → intent_of key (history_in s.store) ≡ Some i
    → option_map version_in (first s.left) ≡ Some (lent_version (provisional i))
unfolding versions_in
first-version s key i fresh at formed was =
    let timed : is_no_time i.ts ≡ false = stored_timed i.ts (intent_of-stored key (history_in s.store) i formed.valid was).ts in
    ap (λ (t : Standing). option_map version_in (first t.left)) fresh
    ∙ ap (λ p. option_map version_in (first (versions_in (points_at p (stored s))))) at
    ∙ ap (λ ps. option_map version_in (first (versions_in ps))) (key-points s.store key i formed was)
    ∙ rw timed refl

-- its provisional body has bytes
provisional_coded : (i : Intent) → IsWholeIntent i.key i → IsEncodable (provisional_body i)
provisional_coded i whole = by (last i.entries) (last-holds (λ (e : Entry Body). IsEncodable e.value) i.entries whole.bodies)
  where
    by : (o : Option (Entry Body)) → IfSome o (λ e. IsEncodable e.value) → IsEncodable (unwrap_or (option_map (λ e. e.value) o) Deletion)
    by None h = tt
    by (Some e) h = h

-- what is read of it is the intent's local timestamp
pub local-read : (i : Intent) (v : LentVersion) → IsWholeIntent i.key i → v ≡ lent_version (provisional i) → value_of v.ts v.value ≡ Ok (record { local = i.local; body = provisional_body i })
local-read i v whole is =
    ap (λ (w : LentVersion). value_of w.ts w.value) is ∙ whole_item-read (record { ts = i.ts; local = i.local; body = provisional_body i }) (record { local = whole.local; body = provisional_coded i whole })

-- what is read once is read again
pub same_value : {A E : Type 0} (r : Result A E) (a b : A) → r ≡ Ok a → r ≡ Ok b → a ≡ b
same_value r a b e f = cc

-- and is no fault
pub no_value : {A E : Type 0} (r : Result A E) (e : E) (b : A) → r ≡ Err e → r ≡ Ok b → ⊥
no_value r e b f g = cc

-- the intent of a key of a valid history is whole
pub whole-here : (h : History) (key : Key) (i : Intent) → IsValid h → intent_of key h ≡ Some i → IsWholeIntent i.key i
whole-here h key i valid was =
    let w : IsWholeIntent key i = subst (λ o. IfSome o (IsWholeIntent key)) was (keys_are_whole h key valid).intent in
    record { key_is = refl; local = w.local; some_entry = w.some_entry; bodies = w.bodies }

-- what is lent of one version is what is to be lent of it
pub same_version : {A : Type 0} (v w : A) (o : Option A) → Some v ≡ o → o ≡ Some w → v ≡ w
same_version v w o e f = cc

-- nothing is lent of none
pub no_version : {A : Type 0} (w : A) (o : Option A) → None ≡ o → o ≡ Some w → ⊥
no_version w o e f = cc

-- what there is
pub some_there : {A : Type 0} (o : Option A) → is_some o ≡ true → (x : A) × (o ≡ Some x)
some_there None e = absurd cc
some_there (Some x) e = (x, refl)

-- what is made of something is something
pub mapped_some : {A B : Type 0} (f : A → B) (o : Option A) (y : B) → option_map f o ≡ Some y → is_some o ≡ true
mapped_some f None y e = absurd cc
mapped_some f (Some x) y e = refl

-- and is made of what there is
pub mapped_is : {A B : Type 0} (f : A → B) (o : Option A) (x : A) (y : B) → o ≡ Some x → option_map f o ≡ Some y → f x ≡ y
mapped_is f o x y is e = let there : Some (f x) ≡ Some y = ap (option_map f) (sym is) ∙ e in cc

-- a test that fails where another holds
pub from_not : (a b : Bool) → a ≡ not b → a ≡ false → b ≡ true
from_not a true e f = refl
from_not a false e f = absurd cc

-- and holds where it fails
pub from_not_true : (a b : Bool) → a ≡ not b → a ≡ true → b ≡ false
from_not_true a true e f = absurd cc
from_not_true a false e f = refl

-- the first version takes one seek at most
pub begin-within : (given : Bool) (store : List Run) → begin_looks given store ≤ one_seek store
begin-within true store = omega arith
begin-within false store = omega arith
