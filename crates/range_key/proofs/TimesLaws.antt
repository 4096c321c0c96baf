-- Timestamps in descending order, one more among them, and some of them taken out.
use Rattle.std.specs.Prelude.{◌≡◌, ℕ, ◌<◌, ◌≤◌, List, [], ◌∷◌, length, map}
use Rattle.std.specs.declared.cmp.Ordering.{Ordering}
use Rattle.std.specs.declared.cmp.Ordering.TheVariants.{Less, Equal, Greater}
use Rattle.std.specs.Ordering.{match_ordering, ordering_reverse, ordering_index}
use Rattle.std.specs.List.{AllByRecursion, AllWithin, HoldsAt, insert}
use Rattle.std.specs.List.Sorted.{IsStrictlySortedBy, IsNonDecreasingBy}
use Rattle.std.proofs.Common.{refl, ◌∙◌, ap, arith, suc, zero, get_or}
use Rattle.mvcc_key.specs.Lists.{put_in_order}
use Rattle.mvcc_key.specs.Order.{Timestamp, time_cmp, newer_first}
use Rattle.mvcc_key.proofs.OrderLaws.{time_cmp-total, time_cmp-IsAntisymmetric}

-- one timestamp is in strict order
pub one-sorted : (t : Timestamp) → IsStrictlySortedBy newer_first (t ∷ [])
unfolding IsStrictlySortedBy
one-sorted t = (tt, tt)

-- two timestamps the other way round
turned : (s t : Timestamp) (o : Ordering) → time_cmp s t ≡ o → time_cmp t s ≡ ordering_reverse o
turned s t o h = (time_cmp-total).antisymm t s ∙ ap ordering_reverse h

-- a timestamp ties with itself
itself : (t : Timestamp) → time_cmp t t ≡ Equal
itself t = by (time_cmp t t) refl
  where
    by : (o : Ordering) → time_cmp t t ≡ o → o ≡ Equal
    by Less h = let g : time_cmp t t ≡ Greater = turned t t Less h in cc
    by Equal h = refl
    by Greater h = let g : time_cmp t t ≡ Less = turned t t Greater h in cc

module _ {D : Type 0} (h : D → Timestamp) where
  -- what holds of all holds of each
  each : (P : Timestamp → Type 0) (ts : List D) (i : ℕ) (d : D) → AllByRecursion P (map h ts) → i < length ts → P (h (get_or ts i d))
  each P [] i d a within = absurd (omega arith)
  each P (t ∷ ts) zero d a within = a.0
  each P (t ∷ ts) (suc i) d a within = each P ts i d a.1 (omega arith)

  -- a timestamp that is there already changes nothing
  pub put-found : (x : D) (ts : List D) (i : ℕ) → i < length ts → HoldsAt (λ t. time_cmp (h x) (h t) ≡ Equal) ts i → IsStrictlySortedBy newer_first (map h ts)
      → put_in_order newer_first (h x) (map h ts) ≡ map h ts
  unfolding IsStrictlySortedBy
  put-found x [] i within at s = absurd (omega arith)
  put-found x (t ∷ ts) zero within at s =
      let same : h x ≡ h t = time_cmp-IsAntisymmetric (h x) (h t) (at t) in
      ap (λ u. put_in_order newer_first u (h t ∷ map h ts)) same
      ∙ ap (λ o. match_ordering o (h t ∷ h t ∷ map h ts) (h t ∷ map h ts) (h t ∷ put_in_order newer_first (h t) (map h ts))) (itself (h t))
  put-found x (t ∷ ts) (suc i) within at s =
      let same : h x ≡ h (get_or ts i t) = time_cmp-IsAntisymmetric (h x) (h (get_or ts i t)) (at t) in
      let below : time_cmp (h (get_or ts i t)) (h t) ≡ Less = each (λ u. newer_first (h t) u ≡ Less) ts i t s.0 (omega arith) in
      let less : time_cmp (h x) (h t) ≡ Less = ap (λ u. time_cmp u (h t)) same ∙ below in
      ap (λ o. match_ordering o (h x ∷ h t ∷ map h ts) (h x ∷ map h ts) (h t ∷ put_in_order newer_first (h x) (map h ts))) (turned (h x) (h t) Less less)
      ∙ ap (λ us. h t ∷ us) (put-found x ts i (omega arith) at s.1)

  -- a timestamp that is not there is put where the older ones begin
  pub put-insert : (x : D) (ts : List D) (i : ℕ) → i ≤ length ts → AllWithin (λ t. time_cmp (h x) (h t) ≡ Less) ts 0 i
      → AllWithin (λ t. time_cmp (h x) (h t) ≡ Greater) ts i (length ts) → put_in_order newer_first (h x) (map h ts) ≡ map h (insert ts i x)
  put-insert x [] zero within newer older = refl
  put-insert x [] (suc i) within newer older = absurd (omega arith)
  put-insert x (t ∷ ts) zero within newer older =
      ap (λ o. match_ordering o (h x ∷ h t ∷ map h ts) (h x ∷ map h ts) (h t ∷ put_in_order newer_first (h x) (map h ts)))
      (turned (h x) (h t) Greater (older 0 t (omega arith) (omega arith)))
  put-insert x (t ∷ ts) (suc i) within newer older =
      ap (λ o. match_ordering o (h x ∷ h t ∷ map h ts) (h x ∷ map h ts) (h t ∷ put_in_order newer_first (h x) (map h ts)))
      (turned (h x) (h t) Less (newer 0 t (omega arith) (omega arith)))
      ∙ ap (λ us. h t ∷ us)
      (put-insert x ts i (omega arith) (λ k d le lt. newer (suc k) d (omega arith) (omega arith)) (λ k d le lt. older (suc k) d (omega arith) (omega arith)))

  -- along timestamps in order the answers of a search do not fall
  pub answers-rise : (x : D) (ts : List D) → IsStrictlySortedBy newer_first (map h ts) → IsNonDecreasingBy (λ t. ordering_index (time_cmp (h x) (h t))) ts
  unfolding IsStrictlySortedBy
  answers-rise x ts s i j d le within = by ts i j s le within
    where
      -- an older one does not answer less
      step : (t u : Timestamp) (o : Ordering) → time_cmp (h x) t ≡ o → time_cmp u t ≡ Less → ordering_index (time_cmp (h x) t) ≤ ordering_index (time_cmp (h x) u)
      step t u Less e below = rw e (omega arith)
      step t u Equal e below =
          let same : h x ≡ t = time_cmp-IsAntisymmetric (h x) t e in
          let after : time_cmp (h x) u ≡ Greater = ap (λ v. time_cmp v u) same ∙ turned u t Less below in
          rw (e, after) (omega arith)
      step t u Greater e below =
          let after : time_cmp (h x) u ≡ Greater = turned u (h x) Less ((time_cmp-total).trans u t (h x) below (turned (h x) t Greater e)) in
          rw (e, after) (omega arith)

      by : (ts : List D) (i j : ℕ) → IsStrictlySortedBy newer_first (map h ts) → i ≤ j → j < length ts
          → ordering_index (time_cmp (h x) (h (get_or ts i d))) ≤ ordering_index (time_cmp (h x) (h (get_or ts j d)))
      by [] i j s le within = absurd (omega arith)
      by (t ∷ ts) zero zero s le within = omega arith
      by (t ∷ ts) zero (suc j) s le within =
          step (h t) (h (get_or ts j d)) (time_cmp (h x) (h t)) refl (each (λ u. newer_first (h t) u ≡ Less) ts j d s.0 (omega arith))
      by (t ∷ ts) (suc i) zero s le within = absurd (omega arith)
      by (t ∷ ts) (suc i) (suc j) s le within = by ts i j s.1 (omega arith) (omega arith)
