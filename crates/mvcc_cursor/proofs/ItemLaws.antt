-- The items of a key, by its committed versions and the tombstones over it.
use Rattle.std.proofs.Common.{◌≡◌, Bool, true, false, cond, List, [], ◌∷◌, refl, sym, ap, subst, ◌∙◌}
use Rattle.std.specs.Prelude.{map, filter, find, Some, None}
use Rattle.std.specs.declared.option.Option.{Option}
use Rattle.std.specs.Option.{option_map}
use Rattle.std.specs.List.{AllByRecursion}
use Rattle.std.specs.List.Sorted.{IsStrictlySortedBy}
use Rattle.std.specs.declared.cmp.Ordering.{Ordering}
use Rattle.std.specs.declared.cmp.Ordering.TheVariants.{Less, Equal, Greater}
use Rattle.std.specs.Ordering.{is_eq}
use Rattle.std.proofs.lemmas.List.Kept.{IsStrictlySortedBy-filter}
use Rattle.mvcc_key.specs.Lists.{first}
use Rattle.mvcc_key.specs.Order.{Timestamp, newer_first, is_before, is_same_time, is_no_time, Key, is_same_key}
use Rattle.mvcc_key.specs.History.{Version, version_cmp, History, versions_of}
use Rattle.mvcc_key.specs.Items.{Item, item_cmp, version_item, tombstone_item, tombstones_over, items, covers}
use Rattle.mvcc_key.specs.Fragments.{Fragment, stack_at}
use Rattle.mvcc_key.proofs.EachLaws.{All-map, All-passing}
use Rattle.mvcc_key.proofs.HistoryLaws.{first_is_newer}
use Rattle.mvcc_key.proofs.OrderLaws.{newer_first-total}
use Rattle.mvcc_key.proofs.SortedLaws.{in_order-sorted}
use Rattle.mvcc_key.proofs.StackChangeLaws.{newer_first-IsAntisymmetric}
use Rattle.mvcc_key.proofs.StackLaws.{stack_at-fragments, same_key_is}
use Rattle.mvcc_key.proofs.FragmentLaws.{is_same_time-equiv}
use Rattle.intent_meta.specs.Valid.{HasOwnTime}
use Rattle.intent_meta.specs.views.Lent.{lent_item, item_times}
use Rattle.intent_meta.proofs.ChangedLaws.{own_times-stack}
use Rattle.intent_meta.proofs.KeyPairsLaws.{own_versions}
use Rattle.mvcc_cursor.specs.WellFormed.{IsOfHistory}
use Rattle.mvcc_cursor.specs.Standing.{Place, BeforeFirst, AtKey, PastLast, told_at, committed_at, stack_over}
use Rattle.mvcc_cursor.specs.views.Newer.{newer_item, newer_times}
use Rattle.mvcc_cursor.proofs.MergeLaws.{newer, IsApart, find-together}

-- a timestamp is its own
same-itself : (t : Timestamp) → is_same_time t t ≡ true
same-itself t = is_same_time-equiv.refl t

-- versions of one key in order are items in order
sorted-versions : (key : Key) (vs : List Version) → IsStrictlySortedBy version_cmp vs → AllByRecursion (λ v. (is_same_key v.key key ≡ true) × (is_no_time v.ts ≡ false)) vs
    → IsStrictlySortedBy item_cmp (map version_item vs)
unfolding IsStrictlySortedBy
sorted-versions key [] sorted own = tt
sorted-versions key (v ∷ vs) sorted own = (each vs sorted.0 own.1, sorted-versions key vs sorted.1 own.1)
  where
    each : (ws : List Version) → AllByRecursion (λ w. version_cmp v w ≡ Less) ws → AllByRecursion (λ w. (is_same_key w.key key ≡ true) × (is_no_time w.ts ≡ false)) ws
        → AllByRecursion (λ j. item_cmp (version_item v) j ≡ Less) (map version_item ws)
    each [] less same = tt
    each (w ∷ ws) less same = (first_is_newer v w key own.0.0 same.0.0 own.0.1 same.0.1 less.0, each ws less.1 same.1)

-- timestamps in order are tombstones in order
sorted-tombstones : (ts : List Timestamp) → IsStrictlySortedBy newer_first ts → IsStrictlySortedBy item_cmp (map tombstone_item ts)
unfolding IsStrictlySortedBy
sorted-tombstones [] sorted = tt
sorted-tombstones (t ∷ ts) sorted = (All-map (λ j. item_cmp (tombstone_item t) j ≡ Less) tombstone_item ts sorted.0, sorted-tombstones ts sorted.1)

-- a version has a timestamp of its own
apart-version : (v : Version) (ts : List Timestamp) → AllByRecursion (λ t. is_same_time t v.ts ≡ false) ts → IsApart (version_item v) (map tombstone_item ts)
apart-version v [] own = tt
apart-version v (t ∷ ts) own = (by (newer_first v.ts t) refl, apart-version v ts own.1)
  where
    by : (o : Ordering) → newer_first v.ts t ≡ o → is_eq (newer_first v.ts t) ≡ false
    by Less e = ap is_eq e
    by Greater e = ap is_eq e
    by Equal e =
        (let same : v.ts ≡ t = newer_first-IsAntisymmetric v.ts t e in
        let f : is_same_time t v.ts ≡ true = ap (is_same_time t) same ∙ same-itself t in
        let none = own.0 in
        absurd cc)

-- so the items of a key that pass a test begin with the newer of the first version and the first tombstone that do
module _ (h : History) (points : List _) (fs : List Fragment) (of : IsOfHistory h points fs) where
  over-is : (key : Key) → stack_at fs key ≡ tombstones_over h.tombstones key
  over-is key = ap (λ l. stack_at l key) of.fragments ∙ stack_at-fragments h.tombstones key

  pub items-found : (at : Place) (test : Item → Bool) → find test (told_at at h).items ≡ newer (find test (map version_item (committed_at at h))) (find test (map tombstone_item (stack_over at fs)))
  unfolding items
  items-found BeforeFirst test = refl
  items-found PastLast test = refl
  items-found (AtKey key) test =
      find-together test (map version_item (versions_of key h)) (map tombstone_item (tombstones_over h.tombstones key))
      (sorted-versions key (versions_of key h) (IsStrictlySortedBy-filter version_cmp (λ v. is_same_key v.key key) h.versions of.valid.versions_in_order) (own_versions h key of.valid))
      (sorted-tombstones (tombstones_over h.tombstones key) (in_order-sorted newer_first-total (map (λ t. t.ts) (filter (covers key) h.tombstones))))
      (All-map (λ x. IsApart x (map tombstone_item (tombstones_over h.tombstones key))) version_item (versions_of key h)
      (each (versions_of key h) (All-passing (HasOwnTime h.tombstones) (λ v. is_same_key v.key key) h.versions of.valid.own_times)))
      ∙ ap (λ st. newer (find test (map version_item (versions_of key h))) (find test (map tombstone_item st))) (sym (over-is key))
    where
      each : (vs : List Version) → AllByRecursion (λ v. (is_same_key v.key key ≡ true) × HasOwnTime h.tombstones v) vs
          → AllByRecursion (λ v. IsApart (version_item v) (map tombstone_item (tombstones_over h.tombstones key))) vs
      each [] all = tt
      each (v ∷ vs) all = (
        apart-version v (tombstones_over h.tombstones key)
            (subst (λ (k : Key). AllByRecursion (λ t. is_same_time t v.ts ≡ false) (tombstones_over h.tombstones k)) (same_key_is v.key key all.0.0) (own_times-stack h.tombstones v all.0.1)),
        each vs all.1,
      )

  -- the stack at a place is in order
  pub stack-sorted : (at : Place) → IsStrictlySortedBy newer_first (stack_over at fs)
  unfolding IsStrictlySortedBy
  stack-sorted BeforeFirst = tt
  stack-sorted PastLast = tt
  stack-sorted (AtKey key) = subst (IsStrictlySortedBy newer_first) (sym (over-is key)) (in_order-sorted newer_first-total (map (λ t. t.ts) (filter (covers key) h.tombstones)))

-- the newer of two items, as they are lent
pub newer-lent : (a b : Option Item) → option_map lent_item (newer a b) ≡ newer_item (option_map lent_item a) (option_map lent_item b)
newer-lent None b = refl
newer-lent (Some a) None = refl
newer-lent (Some a) (Some b) = by (is_before a.ts b.ts)
  where
    by : (c : Bool) → option_map lent_item (cond c (Some b) (Some a)) ≡ cond c (Some (lent_item b)) (Some (lent_item a))
    by true = refl
    by false = refl

pub newer-timed : (a b : Option Item) → option_map item_times (newer a b) ≡ newer_times (option_map item_times a) (option_map item_times b)
newer-timed None b = refl
newer-timed (Some a) None = refl
newer-timed (Some a) (Some b) = by (is_before a.ts b.ts)
  where
    by : (c : Bool) → option_map item_times (cond c (Some b) (Some a)) ≡ cond c (Some (item_times b)) (Some (item_times a))
    by true = refl
    by false = refl

-- the tombstones among their timestamps
pub find-tombstones : (test : Item → Bool) (ts : List Timestamp) → find test (map tombstone_item ts) ≡ option_map tombstone_item (find (λ t. test (tombstone_item t)) ts)
find-tombstones test [] = refl
find-tombstones test (t ∷ ts) = by (test (tombstone_item t)) (find-tombstones test ts)
  where
    by : (b : Bool) → find test (map tombstone_item ts) ≡ option_map tombstone_item (find (λ u. test (tombstone_item u)) ts)
        → cond b (Some (tombstone_item t)) (find test (map tombstone_item ts)) ≡ option_map tombstone_item (cond b (Some t) (find (λ u. test (tombstone_item u)) ts))
    by true rest = refl
    by false rest = rest

pub lent-tombstone : (o : Option Timestamp) → option_map lent_item (option_map tombstone_item o) ≡ option_map (λ t. lent_item (tombstone_item t)) o
lent-tombstone None = refl
lent-tombstone (Some t) = refl

-- the first is the first that passes a test that all pass
pub first-any : {X : Type 0} (xs : List X) → first xs ≡ find (λ _. true) xs
first-any [] = refl
first-any (x ∷ xs) = refl
