-- Lists in order that have the same elements of each key are the same.
use Rattle.std.specs.Prelude.{◌≡◌, Bool, true, false, ◌&&◌, not, cond, List, [], ◌∷◌, filter}
use Rattle.std.specs.List.{AllByRecursion}
use Rattle.std.specs.List.Sorted.{IsStrictlySortedBy}
use Rattle.std.specs.declared.cmp.Ordering.{Ordering}
use Rattle.std.specs.declared.cmp.Ordering.TheVariants.{Less, Greater}
use Rattle.std.specs.Ordering.{ordering_reverse}
use Rattle.std.specs.Cmp.{IsTotalOrder}
use Rattle.std.proofs.Common.{refl, sym, ap, subst, ◌∙◌}
use Rattle.std.proofs.lemmas.List.Kept.{IsStrictlySortedBy-filter}
use Rattle.mvcc_key.specs.Order.{Key, is_same_key}
use Rattle.mvcc_key.proofs.FragmentLaws.{same_key}
use Rattle.mvcc_key.proofs.SortedLaws.{IsBelowAll}
use Rattle.mvcc_key.proofs.StackLaws.{same_key_is}
use Rattle.mvcc_key.proofs.EachLaws.{All-passing}
use Rattle.mvcc_key.proofs.FilterLaws.{filter-twice, filter-fails}
use Rattle.mvcc_key.proofs.SameKeyLaws.{differs_back}

module _ {X : Type 0} (key_of : X → Key) {cmp : X → X → Ordering} (total : IsTotalOrder cmp) where
  -- those of a key
  abbrev of_key : Key → List X → List X
  of_key k = filter (λ x. is_same_key (key_of x) k)

  -- one that stands before others, of which the first of a key is another, stands before that
  before_first : (y x : X) (ys rest : List X) (k : Key) → IsBelowAll cmp y ys → x ∷ rest ≡ of_key k ys → cmp y x ≡ Less
  before_first y x ys rest k below is =
      let all : AllByRecursion (λ z. (is_same_key (key_of z) k ≡ true) × (cmp y z ≡ Less)) (x ∷ rest) =
      subst (AllByRecursion (λ z. (is_same_key (key_of z) k ≡ true) × (cmp y z ≡ Less))) (sym is) (All-passing (λ z. cmp y z ≡ Less) (λ z. is_same_key (key_of z) k) ys below) in
      (all.0).1

  -- what stands first of a list in order stands first of each that has the same of each key
  same_first : (x y : X) (xs ys : List X) → IsBelowAll cmp x xs → IsBelowAll cmp y ys → ((k : Key) → of_key k (x ∷ xs) ≡ of_key k (y ∷ ys)) → x ≡ y
  same_first x y xs ys below below' agree = by (is_same_key (key_of y) (key_of x)) refl
    where
      of_x : x ∷ of_key (key_of x) xs ≡ of_key (key_of x) (y ∷ ys)
      of_x = ap (λ t. cond t (x ∷ of_key (key_of x) xs) (of_key (key_of x) xs)) (sym (same_key (key_of x))) ∙ agree (key_of x)

      of_y : y ∷ of_key (key_of y) ys ≡ of_key (key_of y) (x ∷ xs)
      of_y = ap (λ t. cond t (y ∷ of_key (key_of y) ys) (of_key (key_of y) ys)) (sym (same_key (key_of y))) ∙ sym (agree (key_of y))

      by : (t : Bool) → is_same_key (key_of y) (key_of x) ≡ t → x ≡ y
      by true e =
          let same : x ∷ of_key (key_of x) xs ≡ y ∷ of_key (key_of x) ys = of_x ∙ ap (λ t. cond t (y ∷ of_key (key_of x) ys) (of_key (key_of x) ys)) e in
          cc
      by false e =
          let less : cmp y x ≡ Less = before_first y x ys (of_key (key_of x) xs) (key_of x) below' (of_x ∙ ap (λ t. cond t (y ∷ of_key (key_of x) ys) (of_key (key_of x) ys)) e) in
          let less' : cmp x y ≡ Less = before_first x y xs (of_key (key_of y) ys) (key_of y) below
          (of_y ∙ ap (λ t. cond t (x ∷ of_key (key_of y) xs) (of_key (key_of y) xs)) (differs_back (key_of y) (key_of x) e)) in
          let greater : cmp x y ≡ Greater = total.antisymm x y ∙ ap ordering_reverse less in
          cc

  -- lists in order that have the same of each key are the same
  pub same_by_keys : (xs ys : List X) → IsStrictlySortedBy cmp xs → IsStrictlySortedBy cmp ys → ((k : Key) → of_key k xs ≡ of_key k ys) → xs ≡ ys
  unfolding IsStrictlySortedBy
  same_by_keys [] [] sorted sorted' agree = refl
  same_by_keys [] (y ∷ ys) sorted sorted' agree =
      let none : [] ≡ y ∷ of_key (key_of y) ys = agree (key_of y) ∙ ap (λ t. cond t (y ∷ of_key (key_of y) ys) (of_key (key_of y) ys)) (same_key (key_of y)) in cc
  same_by_keys (x ∷ xs) [] sorted sorted' agree =
      let none : [] ≡ x ∷ of_key (key_of x) xs = sym (agree (key_of x)) ∙ ap (λ t. cond t (x ∷ of_key (key_of x) xs) (of_key (key_of x) xs)) (same_key (key_of x)) in cc
  same_by_keys (x ∷ xs) (y ∷ ys) sorted sorted' agree =
      let same : x ≡ y = same_first x y xs ys sorted.0 sorted'.0 agree in
      let rest : xs ≡ ys = same_by_keys xs ys sorted.1 sorted'.1 (λ k. tails k same (agree k)) in
      λ i. same i ∷ rest i
    where
      tails : (k : Key) → x ≡ y → of_key k (x ∷ xs) ≡ of_key k (y ∷ ys) → of_key k xs ≡ of_key k ys
      tails k same heads = by (is_same_key (key_of x) k) refl
        where
          by : (t : Bool) → is_same_key (key_of x) k ≡ t → of_key k xs ≡ of_key k ys
          by true e =
              let e' : is_same_key (key_of y) k ≡ true = subst (λ z. is_same_key (key_of z) k ≡ true) same e in
              let conses : x ∷ of_key k xs ≡ y ∷ of_key k ys = rw (e, e') at heads in cc
          by false e =
              let e' : is_same_key (key_of y) k ≡ false = subst (λ z. is_same_key (key_of z) k ≡ false) same e in
              rw (e, e') at heads

  -- those of the other keys
  abbrev others : Key → List X → List X
  others key = filter (λ x. not (is_same_key (key_of x) key))

  -- a key's are among those of the other keys than another
  of_key-others : (k key : Key) (xs : List X) → is_same_key k key ≡ false → of_key k (others key xs) ≡ of_key k xs
  of_key-others k key xs other = filter-twice (λ x. is_same_key (key_of x) k) (λ x. not (is_same_key (key_of x) key)) (λ x. is_same_key (key_of x) k) xs (λ x. by x (is_same_key (key_of x) k) refl)
    where
      by : (x : X) (t : Bool) → is_same_key (key_of x) k ≡ t → (not (is_same_key (key_of x) key) && t) ≡ t
      by x true e = ap (λ s. not s && true) (ap (λ z. is_same_key z key) (same_key_is (key_of x) k e) ∙ other)
      by x false e = all_false (not (is_same_key (key_of x) key))
        where
          all_false : (s : Bool) → (s && false) ≡ false
          all_false true = refl
          all_false false = refl

  -- lists in order that have the same of each key but one have the same of the other keys
  pub same_others : (key : Key) (xs ys : List X) → IsStrictlySortedBy cmp xs → IsStrictlySortedBy cmp ys
      → ((k : Key) → is_same_key k key ≡ false → of_key k xs ≡ of_key k ys) → others key xs ≡ others key ys
  same_others key xs ys sorted sorted' agree =
      same_by_keys (others key xs) (others key ys)
      (IsStrictlySortedBy-filter cmp (λ x. not (is_same_key (key_of x) key)) xs sorted) (IsStrictlySortedBy-filter cmp (λ x. not (is_same_key (key_of x) key)) ys sorted')
      (λ k. by k (is_same_key k key) refl)
    where
      by : (k : Key) (t : Bool) → is_same_key k key ≡ t → of_key k (others key xs) ≡ of_key k (others key ys)
      by k true e =
          ap (λ z. of_key z (others key xs)) (same_key_is k key e) ∙ filter-fails (λ x. is_same_key (key_of x) key) xs
          ∙ sym (ap (λ z. of_key z (others key ys)) (same_key_is k key e) ∙ filter-fails (λ x. is_same_key (key_of x) key) ys)
      by k false e = of_key-others k key xs e ∙ agree k e ∙ sym (of_key-others k key ys e)
