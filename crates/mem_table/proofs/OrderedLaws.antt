-- Lists in strict order, and an element put in its place.
use Rattle.std.proofs.Common.{◌≡◌, ℕ, zero, suc, ◌+◌, ◌<◌, ◌≤◌, List, [], ◌∷◌, ◌++◌, length, take, drop, refl, ap, ◌∙◌, arith}
use Rattle.std.specs.Prelude.{slice_get, Some}
use Rattle.std.specs.List.{AllByRecursion}
use Rattle.std.specs.List.Sorted.{IsStrictlySortedBy}
use Rattle.std.specs.declared.cmp.Ordering.{Ordering}
use Rattle.std.specs.declared.cmp.Ordering.TheVariants.{Less, Equal, Greater}
use Rattle.std.specs.Ordering.{ordering_reverse}
use Rattle.std.specs.Cmp.{IsTotalOrder}
use Rattle.mvcc_key.specs.Lists.{put_in_order}
use Rattle.mvcc_key.proofs.SortedLaws.{put_in_order-first}

-- ---- parts of a list

-- what holds of the whole holds of the front
pub each-front : {X : Type 0} (P : X → Type 0) (xs ys : List X) → AllByRecursion P (xs ++ ys) → AllByRecursion P xs
each-front P [] ys h = tt
each-front P (x ∷ xs) ys h = (h.0, each-front P xs ys h.1)

-- it holds of the last
pub each-last : {X : Type 0} (P : X → Type 0) (xs : List X) (y : X) → AllByRecursion P (xs ++ y ∷ []) → P y
each-last P [] y h = h.0
each-last P (x ∷ xs) y h = each-last P xs y h.1

-- the element at a place
pub each-at : {X : Type 0} (P : X → Type 0) (xs : List X) (i : ℕ) (x : X) → AllByRecursion P xs → slice_get xs i ≡ Some x → P x
each-at P [] i x h is = absurd cc
each-at P (y ∷ ys) zero x h is = (let same : y ≡ x = cc in rw (← same) h.0)
each-at P (y ∷ ys) (suc i) x h is = each-at P ys i x h.1 is

module _ {X : Type 0} (cmp : X → X → Ordering) where
  -- without its end a list in order is in order
  pub sorted_front : (xs ys : List X) → IsStrictlySortedBy cmp (xs ++ ys) → IsStrictlySortedBy cmp xs
  unfolding IsStrictlySortedBy
  sorted_front [] ys s = tt
  sorted_front (x ∷ xs) ys s = (each-front _ xs ys s.0, sorted_front xs ys s.1)

module _ {X : Type 0} {cmp : X → X → Ordering} (total : IsTotalOrder cmp) where
  -- the other way round
  greater_back : (x y : X) → cmp x y ≡ Less → cmp y x ≡ Greater
  greater_back x y h = total.antisymm y x ∙ ap ordering_reverse h

  -- what is below the first is below all
  pub below_all : (x y : X) (ys : List X) → cmp x y ≡ Less → AllByRecursion (λ z. cmp y z ≡ Less) ys → AllByRecursion (λ z. cmp x z ≡ Less) ys
  below_all x y [] h a = tt
  below_all x y (z ∷ zs) h a = (total.trans x y z h a.0, below_all x y zs h a.1)

  -- what ties with the first is below what the first is below
  pub tied_all : (x y : X) (ys : List X) → cmp x y ≡ Equal → AllByRecursion (λ z. cmp y z ≡ Less) ys → AllByRecursion (λ z. cmp x z ≡ Less) ys
  tied_all x y [] h a = tt
  tied_all x y (z ∷ zs) h a = (total.congr x y z h ∙ a.0, tied_all x y zs h a.1)

  -- ---- one element put in its place

  -- the elements from `low` up to `high`, one or none, tie with x: those before are below it, those behind above
  pub record IsRange (x : X) (xs : List X) (low high : ℕ) : Type 0 where
    pub ordered : low ≤ high
    pub one : high ≤ low + 1
    pub within : high ≤ length xs
    pub below : AllByRecursion (λ y. cmp y x ≡ Less) (take low xs)
    pub tied : low < high → (y : X) → slice_get xs low ≡ Some y → cmp x y ≡ Equal
    pub above : AllByRecursion (λ y. cmp x y ≡ Less) (drop high xs)

  -- the place of one element
  pub put-range : (x : X) (xs : List X) (low high : ℕ) → IsRange x xs low high → put_in_order cmp x xs ≡ take low xs ++ x ∷ drop high xs
  put-range x xs zero zero r = put_in_order-first cmp x xs r.above
  put-range x [] zero (suc high) r = absurd (omega (arith, r.within))
  put-range x (y ∷ ys) zero (suc zero) r = (let tied : cmp x y ≡ Equal = r.tied (omega arith) y refl in rw tied refl)
  put-range x (y ∷ ys) zero (suc (suc high)) r = absurd (omega (arith, r.one))
  put-range x xs (suc low) zero r = absurd (omega (arith, r.ordered))
  put-range x [] (suc low) (suc high) r = absurd (omega (arith, r.within))
  put-range x (y ∷ ys) (suc low) (suc high) r =
      let greater : cmp x y ≡ Greater = greater_back y x r.below.0 in
      rw greater (ap (λ (ws : List X). y ∷ ws) (put-range x ys low high (record {
        ordered = omega (arith, r.ordered);
        one = omega (arith, r.one);
        within = omega (arith, r.within);
        below = r.below.1;
        tied = λ lt z is. r.tied (omega arith) z is;
        above = r.above;
      })))
