-- The least timestamp above another in a stack that is newest first, found by halving.
use Rattle.std.specs.Prelude.{◌≡◌, ℕ, ◌-◌, ◌<◌, ◌≤◌, true, false, List, [], ◌∷◌, length, map, filter, take, slice_get}
use Rattle.std.specs.List.{AllByRecursion}
use Rattle.std.specs.List.Sorted.{IsStrictlySortedBy, IsPartitionedBy, IsPartitionPoint}
use Rattle.std.specs.Option.{option_map}
use Rattle.std.proofs.Common.{refl, sym, ap, ◌∙◌, arith, suc, zero, get_or}
use Rattle.std.specs.declared.cmp.Ordering.TheVariants.{Less}
use Rattle.std.specs.Ordering.{is_lt}
use Rattle.mvcc_key.specs.Lists.{last}
use Rattle.mvcc_key.specs.Order.{Timestamp, newer_first, is_before}
use Rattle.mvcc_key.proofs.TimeLaws.{before_along, before_up_to}
use Rattle.stat_core.specs.DeadSince.{least_above}

module _ {D : Type 0} (h : D → Timestamp) where
  -- each of the timestamps behind one is before it
  behind : (t : Timestamp) (ts : List D) (j : ℕ) (d : D) → AllByRecursion (λ u. newer_first t u ≡ Less) (map h ts) → j < length ts → is_before (h (get_or ts j d)) t ≡ true
  behind t [] j d all within = absurd (omega arith)
  behind t (u ∷ us) zero d all within = ap is_lt all.0
  behind t (u ∷ us) (suc j) d all within = behind t us j d all.1 (omega arith)

  -- what is above a timestamp stands in front of what is not
  pub above-parted : (x : Timestamp) (ts : List D) → IsStrictlySortedBy newer_first (map h ts) → IsPartitionedBy (λ t. is_before x (h t)) ts
  unfolding IsStrictlySortedBy
  above-parted x ts sorted i j d le within passes = by ts i j sorted le within passes
    where
      by : (ts : List D) (i j : ℕ) → IsStrictlySortedBy newer_first (map h ts) → i ≤ j → j < length ts → is_before x (h (get_or ts j d)) ≡ true → is_before x (h (get_or ts i d)) ≡ true
      by [] i j s le within passes = absurd (omega arith)
      by (t ∷ ts) zero zero s le within passes = passes
      by (t ∷ ts) zero (suc j) s le within passes =
          before_along x (h (get_or ts j d)) (h t) passes (before_up_to (h (get_or ts j d)) (h t) (behind (h t) ts j d s.0 (omega arith)))
      by (t ∷ ts) (suc i) zero s le within passes = absurd (omega arith)
      by (t ∷ ts) (suc i) (suc j) s le within passes = by ts i j s.1 (omega arith) (omega arith) passes

  -- what is above it is what stands in front of the place
  above-front : (x : Timestamp) (ts : List D) (n : ℕ) → IsPartitionPoint (λ t. is_before x (h t) ≡ true) (λ t. is_before x (h t) ≡ false) ts n
      → filter (is_before x) (map h ts) ≡ map h (take n ts)
  above-front x [] zero point = refl
  above-front x [] (suc n) point = refl
  above-front x (t ∷ ts) zero point =
      rw (point.1 0 t (omega arith) (omega arith)) (above-front x ts zero ((λ k d le lt. absurd (omega arith)), (λ k d le lt. point.1 (suc k) d (omega arith) (omega arith))))
  above-front x (t ∷ ts) (suc n) point =
      rw (point.0 0 t (omega arith) (omega arith))
      (ap (λ us. h t ∷ us) (above-front x ts n ((λ k d le lt. point.0 (suc k) d (omega arith) (omega arith)), (λ k d le lt. point.1 (suc k) d (omega arith) (omega arith)))))

  -- the last of some timestamps
  last-map : (ts : List D) → option_map h (slice_get ts (length ts - 1)) ≡ last (map h ts)
  last-map [] = refl
  last-map (t ∷ []) = refl
  last-map (t ∷ u ∷ us) =
      let long : suc (suc (length us)) - 1 ≡ suc (length us) = omega arith in
      let short : suc (length us) - 1 ≡ length us = omega arith in
      ap (λ i. option_map h (slice_get (t ∷ u ∷ us) i)) long ∙ ap (λ i. option_map h (slice_get (u ∷ us) i)) (sym short) ∙ last-map (u ∷ us)

  -- so the least above it is the last of these
  pub least_above-is : (x : Timestamp) (ts : List D) (n : ℕ) → IsPartitionPoint (λ t. is_before x (h t) ≡ true) (λ t. is_before x (h t) ≡ false) ts n
      → option_map h (slice_get (take n ts) (length (take n ts) - 1)) ≡ least_above x (map h ts)
  least_above-is x ts n point = last-map (take n ts) ∙ ap last (sym (above-front x ts n point))
