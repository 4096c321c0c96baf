-- What a walk takes stands in the order of its keys.
use Rattle.std.specs.Prelude.{Bool, true, false, List, [], ◌∷◌, ◌++◌, filter, find, reverse, Option, Some, None, Result, Ok, Err, cond}
use Rattle.std.specs.declared.cmp.Ordering.{Ordering}
use Rattle.std.specs.declared.cmp.Ordering.TheVariants.{Less}
use Rattle.std.specs.Ordering.{on, ordering_reverse}
use Rattle.std.specs.List.{AllByRecursion}
use Rattle.std.specs.List.Sorted.{IsStrictlySortedBy}
use Rattle.std.proofs.Common.{◌≡◌, refl, sym, ap, subst, ◌∙◌, ◌⊎◌, inl, inr}
use Rattle.mvcc_key.specs.Steps.{◌>>=◌, unless_fault}
use Rattle.mvcc_key.specs.Order.{Key, key_cmp}
use Rattle.mvcc_key.specs.History.{Entry, Body, Intent, History, intent_of}
use Rattle.mvcc_key.specs.Items.{items, newest_at}
use Rattle.mvcc_key.specs.Refusal as refusal
use Rattle.mvcc_key.specs.Refusal.{IntentSeen, Refusal, seen}
use Rattle.mvcc_key.proofs.OrderLaws.{key_cmp-total}
use Rattle.mvcc_key.proofs.SortedLaws.{in_order-same}
use Rattle.mvcc_key.proofs.EachLaws.{All-weaker, All-append, All-filter}
use Rattle.mvcc_key.proofs.HistoryLaws.{intent_of-key}
use Rattle.txn_state.specs.Transaction.{Txn, own_txn, read_time}
use Rattle.read_rule.specs.Read.{ReadRequest, Decision, by_items, past_intent, past_any_intent, is_conflict, entry_of, entry_row, is_more_recent, is_unsure, decide, lists, listed_of, listed}
use Rattle.read_rule.specs.Scan.{ScanLimits, Taken, Stop, Before, nothing_taken, is_full, is_over, take_decision, take_key, go_on, walk, walked_keys, ascending}
use Rattle.mvcc_scan.specs.views.Walking.{Bounds, way_cmp, all_keys}
use Rattle.mvcc_scan.specs.views.Ascending.{IsAllInWay, IsInWay}
use Rattle.mvcc_scan.proofs.GetLaws.{no_conflict}
use Rattle.mvcc_scan.proofs.ListLaws.{sorted-behind, in_order-reverse}
use Rattle.mvcc_scan.proofs.WalkLaws.{within_bounds, walked-all, all_keys-sorted}

-- ---- one key

-- at most an intent of the key is added
abbrev pub Adds : Key → List IntentSeen → List IntentSeen → Type 0
Adds key xs ys = (ys ≡ xs) ⊎ ((s : IntentSeen) × (s.key ≡ key) × (ys ≡ xs ++ s ∷ []))

-- nothing behind a list
nothing : (xs : List IntentSeen) → xs ++ [] ≡ xs
nothing [] = refl
nothing (x ∷ xs) = ap (λ ys. x ∷ ys) (nothing xs)

-- what a read of the key lists
listed-adds : (h : History) (r : ReadRequest) (key : Key) (xs : List IntentSeen) → Adds key xs (xs ++ listed h r key)
unfolding listed
listed-adds h r key xs = by (intent_of key h) refl
  where
    by : (o : Option Intent) → intent_of key h ≡ o → Adds key xs (xs ++ listed_of r o)
    by None e = inl (nothing xs)
    by (Some i) e = shown (lists r (Some i))
      where
        shown : (b : Bool) → Adds key xs (xs ++ cond b (seen i ∷ []) [])
        shown true = inr (seen i, intent_of-key key h i e, refl)
        shown false = inl (nothing xs)

-- one intent of the key, and no other
abbrev pub IsOne : Key → List IntentSeen → Type 0
IsOne key xs = (s : IntentSeen) × (s.key ≡ key) × (xs ≡ s ∷ [])

-- a conflict is with the key's intent
conflict-one : (h : History) (r : ReadRequest) (key : Key) (xs : List IntentSeen) → decide h r key ≡ Err (refusal.Conflict xs) → IsOne key xs
unfolding decide
conflict-one h r key xs e = by (intent_of key h) refl e
  where
    others : Decision
    others = by_items key r (items h key)

    none : others ≡ Err (refusal.Conflict xs) → ⊥
    none f = no_conflict key (find (is_more_recent r) (items h key)) (find (is_unsure r) (items h key)) (newest_at (read_time r.who) (items h key)) xs f

    own : (i : Intent) (o : Option (Entry Body)) → entry_row i o others ≡ Err (refusal.Conflict xs) → ⊥
    own i None f = none f
    own i (Some x) f = absurd cc

    epoch : (i : Intent) (t : Txn) (b : Bool) → cond b (Err (refusal.EpochFault t.epoch i.epoch)) (entry_row i (entry_of i (Some t)) others) ≡ Err (refusal.Conflict xs) → ⊥
    epoch i t true f = absurd cc
    epoch i t false f = own i (entry_of i (Some t)) f

    foreign : (i : Intent) (b : Bool) → i.key ≡ key → cond b (Err (refusal.Conflict (seen i ∷ []))) others ≡ Err (refusal.Conflict xs) → IsOne key xs
    foreign i true is f = let same : seen i ∷ [] ≡ xs = cc in (seen i, is, sym same)
    foreign i false is f = absurd (none f)

    whose : (i : Intent) (o : Option Txn) → i.key ≡ key → past_intent r i o others ≡ Err (refusal.Conflict xs) → IsOne key xs
    whose i None is f = foreign i (is_conflict r i) is f
    whose i (Some t) is f = absurd (epoch i t _ f)

    by : (o : Option Intent) → intent_of key h ≡ o → past_any_intent r o others ≡ Err (refusal.Conflict xs) → IsOne key xs
    by None is f = absurd (none f)
    by (Some i) is f = whose i (own_txn i.id r.who) (intent_of-key key h i is) f

-- what one key adds to what is taken
record Grows (key : Key) (t u : Taken) : Type 0 where
  listed : Adds key t.listed u.listed
  conflicts : Adds key t.conflicts u.conflicts

-- a step that takes this
abbrev takes : Taken → Result Taken Stop
takes t = Ok t

grown : (key : Key) (t u v : Taken) → Grows key t u → takes u ≡ Ok v → Grows key t v
grown key t u v g e = let same : u ≡ v = cc in subst (Grows key t) same g

-- a refusal that ends the walk takes nothing
refused : {T : Type 0} (stop : Stop) (u : Taken) → Err stop ≡ Ok u → T
refused stop u e = absurd cc

taken-grows : (l : ScanLimits) (key : Key) (d : Decision) (xs : List IntentSeen) (t u : Taken) → ((ys : List IntentSeen) → d ≡ Err (refusal.Conflict ys) → IsOne key ys)
    → Adds key t.listed (t.listed ++ xs) → take_decision l key d xs t ≡ Ok u → Grows key t u
taken-grows l key (Ok None) xs t u one adds e = grown key t _ u (record { listed = adds; conflicts = inl refl }) e
taken-grows l key (Ok (Some row)) xs t u one adds e = by (is_over l t.rows row) e
  where
    by : (b : Bool) → unless_fault b (Before key) (record t { rows = t.rows ++ row ∷ []; listed = t.listed ++ xs }) ≡ Ok u → Grows key t u
    by true f = refused (Before key) u f
    by false f = grown key t _ u (record { listed = adds; conflicts = inl refl }) f
taken-grows l key (Err (refusal.Conflict ys)) xs t u one adds e =
    let o = one ys refl in
    grown key t _ u (record { listed = inl refl; conflicts = inr (o.0, o.1, ap (λ zs. t.conflicts ++ zs) o.2) }) e
taken-grows l key (Err (refusal.TooOld ts)) xs t u one adds e = grown key t _ u (record { listed = inl refl; conflicts = inl refl }) e
taken-grows l key (Err refusal.EmptyKey) xs t u one adds e = refused _ u e
taken-grows l key (Err (refusal.KeyTooLong n)) xs t u one adds e = refused _ u e
taken-grows l key (Err (refusal.ValueTooLong n)) xs t u one adds e = refused _ u e
taken-grows l key (Err refusal.BadTimestamp) xs t u one adds e = refused _ u e
taken-grows l key (Err refusal.BadSpan) xs t u one adds e = refused _ u e
taken-grows l key (Err refusal.BadWindow) xs t u one adds e = refused _ u e
taken-grows l key (Err refusal.BadOptions) xs t u one adds e = refused _ u e
taken-grows l key (Err (refusal.EpochFault a b)) xs t u one adds e = refused _ u e
taken-grows l key (Err (refusal.ReplayMissing n)) xs t u one adds e = refused _ u e
taken-grows l key (Err (refusal.ReplayMismatch b)) xs t u one adds e = refused _ u e
taken-grows l key (Err (refusal.Uncertain a b)) xs t u one adds e = refused _ u e
taken-grows l key (Err (refusal.ConditionFailed a)) xs t u one adds e = refused _ u e
taken-grows l key (Err (refusal.NotInteger a)) xs t u one adds e = refused _ u e
taken-grows l key (Err (refusal.IntegerOverflow a b)) xs t u one adds e = refused _ u e
taken-grows l key (Err (refusal.IntentTooLong n)) xs t u one adds e = refused _ u e
taken-grows l key (Err (refusal.CommitBelowIntent ts)) xs t u one adds e = refused _ u e
taken-grows l key (Err (refusal.GcIntent k ts)) xs t u one adds e = refused _ u e
taken-grows l key (Err (refusal.GcLive k ts)) xs t u one adds e = refused _ u e
taken-grows l key (Err (refusal.GcHides k ts)) xs t u one adds e = refused _ u e
taken-grows l key (Err (refusal.BadFile k n)) xs t u one adds e = refused _ u e
taken-grows l key (Err (refusal.MomentTooEarly n)) xs t u one adds e = refused _ u e
taken-grows l key (Err (refusal.CountOverflow f)) xs t u one adds e = refused _ u e

key-grows : (h : History) (r : ReadRequest) (l : ScanLimits) (key : Key) (t u : Taken) → take_key h r l key t ≡ Ok u → Grows key t u
key-grows h r l key t u e = by (is_full l t.rows) e
  where
    by : (b : Bool) → (unless_fault b (Before key) t >>= (λ room. take_decision l key (decide h r key) (listed h r key) room)) ≡ Ok u → Grows key t u
    by true f = refused (Before key) u f
    by false f = taken-grows l key (decide h r key) (listed h r key) t u (conflict-one h r key) (listed-adds h r key t.listed) f

-- ---- all keys

module _ (d : Bool) where
  -- in the order of the walk, and before all keys that are still to be met
  record IsBefore (keys : List Key) (xs : List IntentSeen) : Type 0 where
    way : IsInWay d xs
    before : AllByRecursion (λ i. AllByRecursion (λ k. way_cmp d i.key k ≡ Less) keys) xs

  on-stays : (key : Key) (keys : List Key) → AllByRecursion (λ k. way_cmp d key k ≡ Less) keys → (xs ys : List IntentSeen) → IsBefore (key ∷ keys) xs → Adds key xs ys → IsBefore keys ys
  on-stays key keys below xs ys b (inl e) =
      subst (IsBefore keys) (sym e) (record {
        way = b.way;
        before = All-weaker (λ i. AllByRecursion (λ k. way_cmp d i.key k ≡ Less) (key ∷ keys)) (λ i. AllByRecursion (λ k. way_cmp d i.key k ≡ Less) keys) xs (λ i f. f.1) b.before;
      })
  on-stays key keys below xs ys b (inr a) =
      let s : IntentSeen = a.0 in
      let is : s.key ≡ key = a.1 in
      subst (IsBefore keys) (sym a.2) (record {
        way = sorted-behind (λ i j. way_cmp d i.key j.key) xs s b.way
            (All-weaker (λ i. AllByRecursion (λ k. way_cmp d i.key k ≡ Less) (key ∷ keys)) (λ i. way_cmp d i.key s.key ≡ Less) xs (λ i f. subst (λ k. way_cmp d i.key k ≡ Less) (sym is) f.0) b.before);
        before = All-append (λ i. AllByRecursion (λ k. way_cmp d i.key k ≡ Less) keys) xs (s ∷ [])
            (All-weaker (λ i. AllByRecursion (λ k. way_cmp d i.key k ≡ Less) (key ∷ keys)) (λ i. AllByRecursion (λ k. way_cmp d i.key k ≡ Less) keys) xs (λ i f. f.1) b.before)
            (subst (λ x. AllByRecursion (λ k. way_cmp d x k ≡ Less) keys) (sym is) below, tt);
      })

  module _ (h : History) (r : ReadRequest) (l : ScanLimits) where
    walk-stays : (keys : List Key) → IsStrictlySortedBy (way_cmp d) keys → (t : Taken) → IsBefore keys t.listed → IsBefore keys t.conflicts → IsAllInWay d (walk h r l keys t)
    unfolding walk IsStrictlySortedBy
    walk-stays [] sorted t listed_ok conflicts_ok = record { listed = listed_ok.way; conflicts = conflicts_ok.way }
    walk-stays (key ∷ keys) sorted t listed_ok conflicts_ok = by (walk-stays keys sorted.1) (take_key h r l key t) refl
      where
        by : ((u : Taken) → IsBefore keys u.listed → IsBefore keys u.conflicts → IsAllInWay d (walk h r l keys u))
            → (o : Result Taken Stop) → take_key h r l key t ≡ o → IsAllInWay d (go_on t o (walk h r l keys))
        by rest (Ok u) e =
            let g = key-grows h r l key t u e in
            rest u (on-stays key keys sorted.0 t.listed u.listed listed_ok g.listed) (on-stays key keys sorted.0 t.conflicts u.conflicts conflicts_ok g.conflicts)
        by rest (Err stop) e = record { listed = listed_ok.way; conflicts = conflicts_ok.way }

-- a sorted list that is sifted is sorted
sorted-sifted : {X : Type 0} (cmp : X → X → Ordering) (test : X → Bool) (xs : List X) → IsStrictlySortedBy cmp xs → IsStrictlySortedBy cmp (filter test xs)
unfolding IsStrictlySortedBy
sorted-sifted cmp test [] s = tt
sorted-sifted cmp test (x ∷ xs) s = by (test x) (sorted-sifted cmp test xs s.1)
  where
    by : (b : Bool) → IsStrictlySortedBy cmp (filter test xs) → IsStrictlySortedBy cmp (cond b (x ∷ filter test xs) (filter test xs))
    by true rest = (All-filter (λ y. cmp x y ≡ Less) test xs s.0, rest)
    by false rest = rest

no_intents : (d : Bool) (keys : List Key) → IsBefore d keys []
unfolding IsStrictlySortedBy
no_intents d keys = record { way = tt; before = tt }

-- of a scan too
pub scan-in_way : (h : History) (r : ReadRequest) (l : ScanLimits) (b : Bounds) → IsAllInWay b.backwards (walk h r l (walked_keys h b.start b.end b.backwards) nothing_taken)
scan-in_way h r l b =
    walk-stays b.backwards h r l (walked_keys h b.start b.end b.backwards)
    (subst (IsStrictlySortedBy (way_cmp b.backwards)) (sym (walked-all b h)) (sorted-sifted (way_cmp b.backwards) (within_bounds b) (all_keys b.backwards h) (all_keys-sorted b.backwards h)))
    nothing_taken (no_intents b.backwards _) (no_intents b.backwards _)

-- ---- upwards

-- turned round where the walk goes downwards, they ascend
pub upwards-ascending : (d : Bool) (xs : List IntentSeen) → IsInWay d xs → cond d (reverse xs) xs ≡ ascending xs
upwards-ascending false xs way = sym (in_order-same (on (λ (i : IntentSeen). i.key) key_cmp) xs way)
upwards-ascending true xs way =
    sym (in_order-reverse (on (λ (i : IntentSeen). i.key) key_cmp) (λ i j. way_cmp true i.key j.key) (λ i j less. key_cmp-total.antisymm i.key j.key ∙ ap ordering_reverse less) xs way)
