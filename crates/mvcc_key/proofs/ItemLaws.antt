-- What holds of the items of a key, told by its versions and the tombstones over it.
use Rattle.std.proofs.Common.{◌≡◌, true, List, [], ◌∷◌, ◌++◌, ap, subst}
use Rattle.std.proofs.lemmas.Cmp.{on_total}
use Rattle.std.specs.Prelude.{map, filter, IfSome}
use Rattle.std.specs.List.{AllByRecursion}
use Rattle.std.specs.List.Sorted.{IsStrictlySortedBy}
use Rattle.std.specs.declared.cmp.Ordering.TheVariants.{Less, Equal}
use Rattle.std.specs.Ordering.{is_lt}
use Rattle.std.specs.Cmp.{IsTotalOrder}
use Rattle.mvcc_key.specs.Lists.{first}
use Rattle.mvcc_key.specs.Order.{Timestamp, time_cmp, newer_first, is_before, Key, is_same_key}
use Rattle.mvcc_key.specs.History.{History, versions_of, RangeTombstone}
use Rattle.mvcc_key.specs.Items.{Item, item_cmp, version_item, tombstone_item, covers, tombstones_over, items, newest}
use Rattle.mvcc_key.proofs.OrderLaws.{time_cmp-total, newer_first-total}
use Rattle.mvcc_key.proofs.SortedLaws.{in_order-sorted}
use Rattle.mvcc_key.proofs.StackChangeLaws.{newer_first-IsAntisymmetric}
use Rattle.mvcc_key.proofs.EachLaws.{All-in_order, All-from_in_order, All-append, All-split, All-map, All-unmap, All-filtered, unfiltered}
use Rattle.mvcc_key.proofs.TimeLaws.{less_from}

-- the newer first, of all items
pub item_cmp-total : IsTotalOrder item_cmp
item_cmp-total = on_total (λ i. i.ts) newer_first-total

-- items are in strict order
pub items-sorted : (h : History) (key : Key) → IsStrictlySortedBy item_cmp (items h key)
unfolding items
items-sorted h key = in_order-sorted item_cmp-total (map version_item (versions_of key h) ++ map tombstone_item (tombstones_over h.tombstones key))

-- P holds of the timestamps of the key's versions, and of those of the tombstones over it
pub record HoldOfTimes (P : Timestamp → Type 0) (h : History) (key : Key) : Type 0 where
  pub versions : AllByRecursion (λ v. is_same_key v.key key ≡ true → P v.ts) h.versions
  pub tombstones : AllByRecursion (λ t. covers key t ≡ true → P t.ts) h.tombstones

module _ (P : Timestamp → Type 0) where
  -- items that tie have one timestamp
  tied_items : (x y : Item) → item_cmp x y ≡ Equal → P x.ts → P y.ts
  tied_items x y e p = subst P (newer_first-IsAntisymmetric x.ts y.ts e) p

  -- what holds of the timestamps of the tombstones over a key
  pub times_over-whole : (tombstones : List RangeTombstone) (key : Key) → AllByRecursion (λ t. covers key t ≡ true → P t.ts) tombstones
      → AllByRecursion P (tombstones_over tombstones key)
  times_over-whole ts key a =
      All-in_order newer_first P (map (λ t. t.ts) (filter (covers key) ts))
      (All-map P (λ t. t.ts) (filter (covers key) ts) (All-filtered (λ t. P t.ts) (covers key) ts a))

  -- and of each tombstone that covers the key
  pub times_over-parts : (tombstones : List RangeTombstone) (key : Key) → AllByRecursion P (tombstones_over tombstones key)
      → AllByRecursion (λ t. covers key t ≡ true → P t.ts) tombstones
  times_over-parts ts key a =
      unfiltered (λ t. P t.ts) (covers key) ts
      (All-unmap P (λ t. t.ts) (filter (covers key) ts)
      (All-from_in_order newer_first P (λ s t e p. subst P (newer_first-IsAntisymmetric s t e) p) (map (λ t. t.ts) (filter (covers key) ts)) a))

  -- what holds of the timestamps of the versions and the tombstones of a key holds of its items
  pub items-whole : (h : History) (key : Key) → HoldOfTimes P h key → AllByRecursion (λ (item : Item). P item.ts) (items h key)
  unfolding items
  items-whole h key a =
      All-in_order item_cmp (λ (item : Item). P item.ts) (map version_item (versions_of key h) ++ map tombstone_item (tombstones_over h.tombstones key))
      (All-append (λ (item : Item). P item.ts) (map version_item (versions_of key h)) (map tombstone_item (tombstones_over h.tombstones key))
      (All-map (λ (item : Item). P item.ts) version_item (versions_of key h) (All-filtered (λ v. P v.ts) (λ v. is_same_key v.key key) h.versions a.versions))
      (All-map (λ (item : Item). P item.ts) tombstone_item (tombstones_over h.tombstones key) (times_over-whole h.tombstones key a.tombstones)))

  -- and the other way round
  pub items-parts : (h : History) (key : Key) → AllByRecursion (λ (item : Item). P item.ts) (items h key) → HoldOfTimes P h key
  unfolding items
  items-parts h key a =
      let parts = All-split (λ (item : Item). P item.ts) (map version_item (versions_of key h)) (map tombstone_item (tombstones_over h.tombstones key))
      (All-from_in_order item_cmp (λ (item : Item). P item.ts) tied_items (map version_item (versions_of key h) ++ map tombstone_item (tombstones_over h.tombstones key)) a) in
      record {
        versions =
            unfiltered (λ v. P v.ts) (λ v. is_same_key v.key key) h.versions
            (All-unmap (λ (item : Item). P item.ts) version_item (versions_of key h) parts.0);
        tombstones =
            times_over-parts h.tombstones key
            (All-unmap (λ (item : Item). P item.ts) tombstone_item (tombstones_over h.tombstones key) parts.1);
      }

  -- so it holds of the versions of the key
  pub items-versions : (h : History) (key : Key) → AllByRecursion (λ (item : Item). P item.ts) (items h key) → AllByRecursion (λ v. P v.ts) (versions_of key h)
  items-versions h key a = All-filtered (λ v. P v.ts) (λ v. is_same_key v.key key) h.versions (items-parts h key a).versions

  -- and of the timestamps of the tombstones over it
  pub items-stack : (h : History) (key : Key) → AllByRecursion (λ (item : Item). P item.ts) (items h key) → AllByRecursion P (tombstones_over h.tombstones key)
  items-stack h key a = times_over-whole h.tombstones key (items-parts h key a).tombstones

-- where the first of items in order is below a timestamp, all are
pub below_first : (ts : Timestamp) (is : List Item) → IsStrictlySortedBy item_cmp is → IfSome (first is) (λ i. is_before i.ts ts ≡ true) → AllByRecursion (λ (i : Item). is_before i.ts ts ≡ true) is
unfolding IsStrictlySortedBy
below_first ts [] sorted h = tt
below_first ts (i ∷ is) sorted h = (h, behind is sorted.0)
  where
    less : time_cmp i.ts ts ≡ Less
    less = less_from (time_cmp i.ts ts) h

    behind : (js : List Item) → AllByRecursion (λ j. item_cmp i j ≡ Less) js → AllByRecursion (λ (i : Item). is_before i.ts ts ≡ true) js
    behind [] older = tt
    behind (j ∷ js) older = (ap is_lt (time_cmp-total.trans j.ts i.ts ts older.0 less), behind js older.1)

-- where the newest item of a key is below a timestamp, all are
pub below_newest : (h : History) (key : Key) (ts : Timestamp) → IfSome (newest (items h key)) (λ i. is_before i.ts ts ≡ true) → AllByRecursion (λ (i : Item). is_before i.ts ts ≡ true) (items h key)
below_newest h key ts newest_below = below_first ts (items h key) (items-sorted h key) newest_below
