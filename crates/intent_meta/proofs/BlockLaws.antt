-- What is stored of a valid history is its blocks, one after another.
use Rattle.std.proofs.Common.{◌≡◌, true, false, List, [], ◌∷◌, ◌++◌, refl, sym, ap, ◌∙◌, append_assoc, inl, inr}
use Rattle.std.specs.Prelude.{map}
use Rattle.std.specs.List.{AllByRecursion, flat_map}
use Rattle.std.specs.List.Sorted.{IsStrictlySortedBy}
use Rattle.std.specs.declared.cmp.Ordering.{Ordering}
use Rattle.std.specs.declared.cmp.Ordering.TheVariants.{Less, Equal, Greater}
use Rattle.std.proofs.lemmas.Slice.Eq.{bytes_eq-Decides}
use Rattle.mvcc_key.specs.Lists.{put_in_order, in_order}
use Rattle.mvcc_key.specs.Order.{no_time, is_no_time, is_before, time_cmp, key_cmp, is_same_key}
use Rattle.mvcc_key.specs.History.{Version, version_cmp, Intent, intent_cmp, History}
use Rattle.mvcc_key.specs.Items.{Item, items}
use Rattle.mvcc_key.proofs.OrderLaws.{key_cmp-IsAntisymmetric}
use Rattle.mvcc_key.proofs.SortedLaws.{IsBelowAll}
use Rattle.mvcc_key.proofs.PlaceLaws.{in_order-pull}
use Rattle.mvcc_key.proofs.EachLaws.{All-in_order, All-append, All-map, All-weaker}
use Rattle.mvcc_key.proofs.TimeLaws.{less_from}
use Rattle.mvcc_key.proofs.ItemLaws.{items-parts}
use Rattle.intent_meta.specs.StoredPairs.{provisional, Stored, RecordOf, VersionOf, stored_cmp}
use Rattle.intent_meta.proofs.StoredLaws.{OfIntent, OfVersion, block_cmp, expand, blocks, in_order-versions, below_key, IsPlaced, stored_cmp-total, put_both}

-- ---- where the versions of the intent's key stand

-- a version is of another key, or stands behind the intent
version_placed : (i : Intent) (v : Version) → is_no_time i.ts ≡ false → is_no_time v.ts ≡ false → (is_same_key v.key i.key ≡ true → is_before v.ts i.ts ≡ true)
    → IsPlaced i (OfVersion v)
version_placed i v timed timed' before = by (key_cmp i.key v.key) refl
  where
    by : (o : Ordering) → key_cmp i.key v.key ≡ o → IsPlaced i (OfVersion v)
    by Less e = inr (below_key i.key v.key i.ts v.ts e)
    by Greater e = inl e
    by Equal e =
        let same : i.key ≡ v.key = key_cmp-IsAntisymmetric i.key v.key e in
        let older : time_cmp v.ts i.ts ≡ Less = less_from (time_cmp v.ts i.ts) (before ((bytes_eq-Decides v.key i.key).1 (sym same))) in
        inr (rw (e, timed, timed', older) refl)

-- so is each version where the intent is above every item of its key
pub versions_placed : (h : History) (i : Intent) → is_no_time i.ts ≡ false → AllByRecursion (λ v. is_no_time v.ts ≡ false) h.versions
    → AllByRecursion (λ (item : Item). is_before item.ts i.ts ≡ true) (items h i.key) → AllByRecursion (λ v. IsPlaced i (OfVersion v)) h.versions
versions_placed h i timed versions above = placed h.versions versions (items-parts (λ t. is_before t i.ts ≡ true) h i.key above).versions
  where
    placed : (vs : List Version) → AllByRecursion (λ v. is_no_time v.ts ≡ false) vs → AllByRecursion (λ v. is_same_key v.key i.key ≡ true → is_before v.ts i.ts ≡ true) vs
        → AllByRecursion (λ v. IsPlaced i (OfVersion v)) vs
    placed [] a b = tt
    placed (v ∷ vs) a b = (version_placed i v timed a.0 b.0, placed vs a.1 b.1)

-- ---- what is stored

-- an intent that has a timestamp and stands above the versions of its key
pub record IsAbove (vs : List Version) (i : Intent) : Type 0 where
  pub timed : is_no_time i.ts ≡ false
  pub placed : AllByRecursion (λ v. IsPlaced i (OfVersion v)) vs

-- the records, the provisional versions and the versions, in order
abbrev pub stored_of : List Intent → List Version → List Stored
stored_of is vs = in_order stored_cmp (map RecordOf is ++ map (λ i. VersionOf (provisional i)) is ++ map VersionOf vs)

expand-versions : (vs : List Version) → flat_map expand (map OfVersion vs) ≡ map VersionOf vs
expand-versions [] = refl
expand-versions (v ∷ vs) = ap (λ xs. VersionOf v ∷ xs) (expand-versions vs)

-- the blocks that come behind those of an intent
all_placed : (i : Intent) (is : List Intent) (vs : List Version) → IsBelowAll intent_cmp i is → AllByRecursion (λ v. IsPlaced i (OfVersion v)) vs
    → AllByRecursion (IsPlaced i) (blocks is vs)
all_placed i is vs below placed =
    All-in_order block_cmp (IsPlaced i) (map OfIntent is ++ map OfVersion vs)
    (All-append (IsPlaced i) (map OfIntent is) (map OfVersion vs)
    (All-map (IsPlaced i) OfIntent is (All-weaker (λ j. intent_cmp i j ≡ Less) (λ j. IsPlaced i (OfIntent j)) is (λ j h. inr (below_key i.key j.key i.ts no_time h)) below))
    (All-map (IsPlaced i) OfVersion vs placed))

-- what is stored is the blocks
pub stored_of-blocks : (is : List Intent) (vs : List Version) → IsStrictlySortedBy intent_cmp is → IsStrictlySortedBy version_cmp vs → AllByRecursion (IsAbove vs) is
    → stored_of is vs ≡ flat_map expand (blocks is vs)
unfolding IsStrictlySortedBy
stored_of-blocks [] vs ordered sorted above =
    in_order-versions stored_cmp VersionOf (λ v w. refl) vs sorted ∙ sym (expand-versions vs)
    ∙ sym (ap (flat_map expand) (in_order-versions block_cmp OfVersion (λ v w. refl) vs sorted))
stored_of-blocks (i ∷ is) vs ordered sorted above =
    let records : List Stored = map RecordOf is in
    let provisionals : List Stored = map (λ j. VersionOf (provisional j)) is in
    let versions : List Stored = map VersionOf vs in
    let p : Stored = VersionOf (provisional i) in
    let lower : AllByRecursion (λ x. stored_cmp p x ≡ Less) records =
    All-map (λ x. stored_cmp p x ≡ Less) RecordOf is (All-weaker (λ j. intent_cmp i j ≡ Less) (λ j. stored_cmp p (RecordOf j) ≡ Less) is (λ j h. below_key i.key j.key i.ts no_time h) ordered.0) in
    ap (λ xs. in_order stored_cmp (RecordOf i ∷ xs)) (append_assoc records (p ∷ provisionals) versions)
    ∙ ap (λ xs. put_in_order stored_cmp (RecordOf i) xs) (
    in_order-pull stored_cmp-total records (provisionals ++ versions) p lower
    ∙ ap (λ xs. put_in_order stored_cmp p (in_order stored_cmp xs)) (sym (append_assoc records provisionals versions))
    ∙ ap (put_in_order stored_cmp p) (stored_of-blocks is vs ordered.1 sorted above.1)
    )
    ∙ put_both i (blocks is vs) (above.0).timed (all_placed i is vs ordered.0 (above.0).placed)
