-- Lists of which one has no element that the other lacks, told by what holds of all elements; in order they are the same.
use Rattle.std.specs.Prelude.{◌≡◌, Bool, true, List, [], ◌∷◌, ◌++◌, filter}
use Rattle.std.specs.declared.cmp.Ordering.{Ordering}
use Rattle.std.specs.declared.cmp.Ordering.TheVariants.{Less, Equal, Greater}
use Rattle.std.specs.Ordering.{ordering_reverse}
use Rattle.std.specs.Cmp.{IsTotalOrder, tied_itself}
use Rattle.std.specs.FinMap.{IsAntisymmetric}
use Rattle.std.specs.List.{AllByRecursion}
use Rattle.std.specs.List.Sorted.{IsStrictlySortedBy}
use Rattle.std.proofs.Common.{refl, sym, ap, subst, ◌∙◌, ◌⊎◌, inl, inr}
use Rattle.mvcc_key.specs.Lists.{in_order}
use Rattle.mvcc_key.proofs.SortedLaws.{IsBelowAll, in_order-sorted}
use Rattle.mvcc_key.proofs.EachLaws.{All-filtered, unfiltered, All-in_order, All-from_in_order, All-append, All-split, All-weaker}

-- what holds of all of the first list holds of all of the second, which so has no other elements
abbrev pub Covers : {X : Type 0} → List X → List X → Type 1
Covers {X} xs ys = (P : X → Type 0) → AllByRecursion P xs → AllByRecursion P ys

module _ {X : Type 0} where
  -- one list behind another
  pub Covers-append : (xs xs' ys ys' : List X) → Covers xs xs' → Covers ys ys' → Covers (xs ++ ys) (xs' ++ ys')
  Covers-append xs xs' ys ys' f g P a =
      let parts = All-split P xs ys a in All-append P xs' ys' (f P parts.0) (g P parts.1)

  -- those that pass a test
  pub Covers-filter : (test : X → Bool) (xs ys : List X) → Covers xs ys → Covers (filter test xs) (filter test ys)
  Covers-filter test xs ys f P a = All-filtered P test ys (f (λ x. test x ≡ true → P x) (unfiltered P test xs a))

module _ {X : Type 0} {cmp : X → X → Ordering} (total : IsTotalOrder cmp) (tied : IsAntisymmetric cmp) where
  -- the first or above it
  abbrev IsFrom : X → X → Type 0
  IsFrom x y = (x ≡ y) ⊎ (cmp x y ≡ Less)

  -- all of a list in strict order are from the first on
  from_first : (x : X) (xs : List X) → IsBelowAll cmp x xs → AllByRecursion (IsFrom x) (x ∷ xs)
  from_first x xs below = (inl refl, All-weaker (λ y. cmp x y ≡ Less) (IsFrom x) xs (λ y h. inr h) below)

  -- two of which each is from the other on are one
  both_from : (x y : X) → IsFrom x y → IsFrom y x → x ≡ y
  both_from x y (inl e) k = e
  both_from x y (inr h) (inl e) = sym e
  both_from x y (inr h) (inr k) = let g : Less ≡ Greater = sym h ∙ total.antisymm x y ∙ ap ordering_reverse k in cc

  -- what is above the first is not the first
  not_first : (P : X → Type 0) (x y z : X) → x ≡ y → cmp x z ≡ Less → (y ≡ z) ⊎ P z → P z
  not_first P x y z e h (inl k) = let g : Less ≡ Equal = sym h ∙ ap (cmp x) (sym k ∙ sym e) ∙ tied_itself total x in cc
  not_first P x y z e h (inr p) = p

  -- behind the same first element the rest has no other elements either
  Covers-rest : (x y : X) (xs ys : List X) → x ≡ y → IsBelowAll cmp x xs → Covers (y ∷ ys) (x ∷ xs) → Covers ys xs
  Covers-rest x y xs ys e below f P a = rest xs below (f Q (inl refl, All-weaker P Q ys (λ z p. inr p) a)).1
    where
      Q : X → Type 0
      Q z = (y ≡ z) ⊎ P z

      rest : (zs : List X) → IsBelowAll cmp x zs → AllByRecursion Q zs → AllByRecursion P zs
      rest [] b q = tt
      rest (z ∷ zs) b q = (not_first P x y z e b.0 q.0, rest zs b.1 q.1)

  -- lists in strict order with the same elements are the same
  sorted-same : (xs ys : List X) → IsStrictlySortedBy cmp xs → IsStrictlySortedBy cmp ys → Covers ys xs → Covers xs ys → xs ≡ ys
  unfolding IsStrictlySortedBy
  sorted-same [] [] s t f g = refl
  sorted-same [] (y ∷ ys) s t f g = absurd (g (λ z. ⊥) tt).0
  sorted-same (x ∷ xs) [] s t f g = absurd (f (λ z. ⊥) tt).0
  sorted-same (x ∷ xs) (y ∷ ys) s t f g =
      let e : x ≡ y = both_from x y (g (IsFrom x) (from_first x xs s.0)).0 (f (IsFrom y) (from_first y ys t.0)).0 in
      let rest : xs ≡ ys = sorted-same xs ys s.1 t.1 (Covers-rest x y xs ys e s.0 f) (Covers-rest y x ys xs (sym e) t.0 g) in
      λ i. e i ∷ rest i

  -- so lists with the same elements are in order the same
  pub in_order-same_elements : (xs ys : List X) → Covers xs ys → Covers ys xs → in_order cmp xs ≡ in_order cmp ys
  in_order-same_elements xs ys f g =
      sorted-same (in_order cmp xs) (in_order cmp ys) (in_order-sorted total xs) (in_order-sorted total ys)
      (λ P a. All-in_order cmp P xs (g P (All-from_in_order cmp P (λ x y e. subst P (tied x y e)) ys a)))
      (λ P a. All-in_order cmp P ys (f P (All-from_in_order cmp P (λ x y e. subst P (tied x y e)) xs a)))
