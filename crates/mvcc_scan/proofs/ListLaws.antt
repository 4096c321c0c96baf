-- Lists in strict order from one element on, and lists turned round.
use Rattle.std.specs.Prelude.{Bool, true, false, List, [], ◌∷◌, ◌++◌, map, filter, find, reverse, Option, Some, None, IfSome, unwrap_or, cond}
use Rattle.std.specs.Option.{option_map}
use Rattle.std.specs.declared.cmp.Ordering.{Ordering}
use Rattle.std.specs.declared.cmp.Ordering.TheVariants.{Less, Greater}
use Rattle.std.specs.Ordering.{is_lt, is_le, match_ordering, ordering_reverse}
use Rattle.std.specs.Cmp.{IsTotalOrder, tied_itself}
use Rattle.std.specs.List.{AllByRecursion}
use Rattle.std.specs.List.Sorted.{IsStrictlySortedBy}
use Rattle.std.proofs.Common.{◌≡◌, refl, sym, ap, subst, ◌∙◌}
use Rattle.std.proofs.lemmas.List.{reverse-append}
use Rattle.mvcc_key.specs.Lists.{put_in_order, in_order, last}
use Rattle.mvcc_key.proofs.SortedLaws.{IsBelowAll}
use Rattle.mvcc_key.proofs.EachLaws.{All-weaker, All-append}
use Rattle.mvcc_key.proofs.FilterLaws.{filter-all}
use Rattle.mvcc_key.proofs.FindLaws.{find-holds}

-- ---- the last element

-- behind one element stands the last of the others, or it stands alone
pub last-or : {X : Type 0} (x : X) (xs : List X) → last (x ∷ xs) ≡ Some (unwrap_or (last xs) x)
last-or x [] = refl
last-or x (y ∷ ys) = last-or y ys ∙ ap (λ o. Some (unwrap_or o x)) (sym (last-or y ys))

pub last-map : {X Y : Type 0} (f : X → Y) (xs : List X) → last (map f xs) ≡ option_map f (last xs)
last-map f [] = refl
last-map f (x ∷ []) = refl
last-map f (x ∷ y ∷ xs) = last-map f (y ∷ xs)

-- ---- what is found

pub find-map : {X Y : Type 0} (test : Y → Bool) (f : X → Y) (xs : List X) → find test (map f xs) ≡ option_map f (find (λ x. test (f x)) xs)
find-map test f [] = refl
find-map test f (x ∷ xs) = by (test (f x)) (find-map test f xs)
  where
    by : (b : Bool) → find test (map f xs) ≡ option_map f (find (λ y. test (f y)) xs) → cond b (Some (f x)) (find test (map f xs)) ≡ option_map f (cond b (Some x) (find (λ y. test (f y)) xs))
    by true e = refl
    by false e = e

-- the first, or else the second
abbrev or_else : {X : Type 0} → Option X → Option X → Option X
or_else None other = other
or_else (Some x) other = Some x

-- an element behind a list is found where none is before it
find-behind : {X : Type 0} (test : X → Bool) (xs : List X) (x : X) → find test (xs ++ x ∷ []) ≡ or_else (find test xs) (cond (test x) (Some x) None)
find-behind test [] x = refl
find-behind test (y ∷ ys) x = by (test y) (find-behind test ys x)
  where
    by : (b : Bool) → find test (ys ++ x ∷ []) ≡ or_else (find test ys) (cond (test x) (Some x) None)
        → cond b (Some y) (find test (ys ++ x ∷ [])) ≡ or_else (cond b (Some y) (find test ys)) (cond (test x) (Some x) None)
    by true e = refl
    by false e = e

-- the first of a list turned round stands last
pub reverse-first : {X : Type 0} (x : X) (xs : List X) → reverse (x ∷ xs) ≡ reverse xs ++ x ∷ []
reverse-first x xs = reverse-append (x ∷ []) xs

-- the first that passes of a list turned round is the last that passes
pub find-reverse : {X : Type 0} (test : X → Bool) (xs : List X) → find test (reverse xs) ≡ last (filter test xs)
find-reverse test [] = refl
find-reverse {X = X} test (x ∷ xs) =
    ap (find test) (reverse-first x xs) ∙ find-behind test (reverse xs) x ∙ ap (λ o. or_else o (cond (test x) (Some x) None)) (find-reverse test xs) ∙ by (test x)
  where
    whole : (o : Option X) → or_else o (Some x) ≡ Some (unwrap_or o x)
    whole None = refl
    whole (Some y) = refl

    same : (o : Option X) → or_else o None ≡ o
    same None = refl
    same (Some y) = refl

    by : (b : Bool) → or_else (last (filter test xs)) (cond b (Some x) None) ≡ last (cond b (x ∷ filter test xs) (filter test xs))
    by true = whole (last (filter test xs)) ∙ sym (last-or x (filter test xs))
    by false = same (last (filter test xs))

-- ---- lists turned round

filter-behind : {X : Type 0} (test : X → Bool) (xs : List X) (x : X) → filter test (xs ++ x ∷ []) ≡ filter test xs ++ cond (test x) (x ∷ []) []
filter-behind test [] x = refl
filter-behind test (y ∷ ys) x = by (test y) (filter-behind test ys x)
  where
    by : (b : Bool) → filter test (ys ++ x ∷ []) ≡ filter test ys ++ cond (test x) (x ∷ []) []
        → cond b (y ∷ filter test (ys ++ x ∷ [])) (filter test (ys ++ x ∷ [])) ≡ cond b (y ∷ filter test ys) (filter test ys) ++ cond (test x) (x ∷ []) []
    by true e = ap (λ zs. y ∷ zs) e
    by false e = e

nothing-behind : {X : Type 0} (ys : List X) → ys ++ [] ≡ ys
nothing-behind [] = refl
nothing-behind (y ∷ ys) = ap (λ zs. y ∷ zs) (nothing-behind ys)

pub filter-reverse : {X : Type 0} (test : X → Bool) (xs : List X) → filter test (reverse xs) ≡ reverse (filter test xs)
filter-reverse test [] = refl
filter-reverse {X = X} test (x ∷ xs) =
    ap (filter test) (reverse-first x xs) ∙ filter-behind test (reverse xs) x ∙ ap (λ ys. ys ++ cond (test x) (x ∷ []) []) (filter-reverse test xs) ∙ by (test x)
  where
    by : (b : Bool) → reverse (filter test xs) ++ cond b (x ∷ []) [] ≡ reverse (cond b (x ∷ filter test xs) (filter test xs))
    by true = sym (reverse-first x (filter test xs))
    by false = nothing-behind (reverse (filter test xs))

pub All-reverse : {X : Type 0} (P : X → Type 0) (xs : List X) → AllByRecursion P xs → AllByRecursion P (reverse xs)
All-reverse P [] all = tt
All-reverse P (x ∷ xs) all = subst (AllByRecursion P) (sym (reverse-first x xs)) (All-append P (reverse xs) (x ∷ []) (All-reverse P xs all.1) (all.0, tt))

-- an element above all stands last
pub sorted-behind : {X : Type 0} (cmp : X → X → Ordering) (xs : List X) (x : X) → IsStrictlySortedBy cmp xs → AllByRecursion (λ y. cmp y x ≡ Less) xs → IsStrictlySortedBy cmp (xs ++ x ∷ [])
unfolding IsStrictlySortedBy
sorted-behind cmp [] x s above = (tt, tt)
sorted-behind cmp (y ∷ ys) x s above = (All-append (λ z. cmp y z ≡ Less) ys (x ∷ []) s.0 (above.0, tt), sorted-behind cmp ys x s.1 above.1)

-- turned round the order is turned round
pub sorted-reverse : {X : Type 0} (cmp cmp' : X → X → Ordering) → ((x y : X) → cmp' x y ≡ cmp y x) → (xs : List X) → IsStrictlySortedBy cmp xs → IsStrictlySortedBy cmp' (reverse xs)
unfolding IsStrictlySortedBy
sorted-reverse cmp cmp' back [] s = tt
sorted-reverse cmp cmp' back (x ∷ xs) s =
    subst (IsStrictlySortedBy cmp') (sym (reverse-first x xs))
    (sorted-behind cmp' (reverse xs) x (sorted-reverse cmp cmp' back xs s.1)
    (All-weaker (λ y. cmp x y ≡ Less) (λ y. cmp' y x ≡ Less) (reverse xs) (λ y h. back y x ∙ h) (All-reverse (λ y. cmp x y ≡ Less) xs s.0)))

-- an element above all is put last
put-behind : {X : Type 0} (cmp : X → X → Ordering) (x : X) (xs : List X) → AllByRecursion (λ y. cmp x y ≡ Greater) xs → put_in_order cmp x xs ≡ xs ++ x ∷ []
put-behind cmp x [] above = refl
put-behind cmp x (y ∷ ys) above = ap (λ o. match_ordering o (x ∷ y ∷ ys) (x ∷ ys) (y ∷ put_in_order cmp x ys)) above.0 ∙ ap (λ zs. y ∷ zs) (put-behind cmp x ys above.1)

-- a list in the order turned round is put in order by turning it round
pub in_order-reverse : {X : Type 0} (cmp cmp' : X → X → Ordering) → ((x y : X) → cmp' x y ≡ Less → cmp x y ≡ Greater) → (xs : List X) → IsStrictlySortedBy cmp' xs → in_order cmp xs ≡ reverse xs
unfolding IsStrictlySortedBy
in_order-reverse cmp cmp' back [] s = refl
in_order-reverse cmp cmp' back (x ∷ xs) s =
    ap (put_in_order cmp x) (in_order-reverse cmp cmp' back xs s.1)
    ∙ put-behind cmp x (reverse xs) (All-reverse (λ y. cmp x y ≡ Greater) xs (All-weaker (λ y. cmp' x y ≡ Less) (λ y. cmp x y ≡ Greater) xs (λ y h. back x y h) s.0))
    ∙ sym (reverse-first x xs)

-- ---- from an element on

module _ {X : Type 0} (cmp : X → X → Ordering) where
  -- those that are not before an element
  abbrev pub from : X → List X → List X
  from k xs = filter (λ x. is_le (cmp k x)) xs

  -- those that are behind it
  abbrev pub beyond : X → List X → List X
  beyond k xs = filter (λ x. is_lt (cmp k x)) xs

  -- from an element on, where there is one
  abbrev pub from_option : Option X → List X → List X
  from_option None xs = []
  from_option (Some k) xs = from k xs

module _ {X : Type 0} {cmp : X → X → Ordering} (total : IsTotalOrder cmp) where
  -- behind the first element stand the others
  first-beyond : (x : X) (xs : List X) → IsBelowAll cmp x xs → beyond cmp x (x ∷ xs) ≡ xs
  first-beyond x xs below =
      ap (λ o. cond (is_lt o) (x ∷ beyond cmp x xs) (beyond cmp x xs)) (tied_itself total x)
      ∙ filter-all (λ y. is_lt (cmp x y)) xs (All-weaker (λ y. cmp x y ≡ Less) (λ y. is_lt (cmp x y) ≡ true) xs (λ y h. ap is_lt h) below)

  -- from the first element on stands all
  first-from : (x : X) (xs : List X) → IsBelowAll cmp x xs → from cmp x (x ∷ xs) ≡ x ∷ xs
  first-from x xs below =
      ap (λ o. cond (is_le o) (x ∷ from cmp x xs) (from cmp x xs)) (tied_itself total x)
      ∙ ap (λ ys. x ∷ ys) (filter-all (λ y. is_le (cmp x y)) xs (All-weaker (λ y. cmp x y ≡ Less) (λ y. is_le (cmp x y) ≡ true) xs (λ y h. ap is_le h) below))

  -- an element before is left out
  back : (k x : X) → cmp x k ≡ Less → cmp k x ≡ Greater
  back k x h = total.antisymm k x ∙ ap ordering_reverse h

  skip-from : (k x : X) (xs : List X) → cmp x k ≡ Less → from cmp k (x ∷ xs) ≡ from cmp k xs
  skip-from k x xs h = ap (λ o. cond (is_le o) (x ∷ from cmp k xs) (from cmp k xs)) (back k x h)

  skip-beyond : (k x : X) (xs : List X) → cmp x k ≡ Less → beyond cmp k (x ∷ xs) ≡ beyond cmp k xs
  skip-beyond k x xs h = ap (λ o. cond (is_lt o) (x ∷ beyond cmp k xs) (beyond cmp k xs)) (back k x h)

  -- an element that is found is the first from it on
  pub found-from : (test : X → Bool) (xs : List X) → IsStrictlySortedBy cmp xs → (k : X) → find test xs ≡ Some k → from cmp k xs ≡ k ∷ beyond cmp k xs
  unfolding IsStrictlySortedBy
  found-from test [] s k e = absurd cc
  found-from test (x ∷ xs) s k e = by (test x) (found-from test xs s.1 k) e
    where
      by : (b : Bool) → (find test xs ≡ Some k → from cmp k xs ≡ k ∷ beyond cmp k xs) → cond b (Some x) (find test xs) ≡ Some k → from cmp k (x ∷ xs) ≡ k ∷ beyond cmp k (x ∷ xs)
      by true rest f =
          let same : x ≡ k = cc in
          subst (λ y. from cmp y (x ∷ xs) ≡ y ∷ beyond cmp y (x ∷ xs)) same (first-from x xs s.0 ∙ ap (λ ys. x ∷ ys) (sym (first-beyond x xs s.0)))
      by false rest f =
          let less : cmp x k ≡ Less = subst (λ o. IfSome o (λ y. cmp x y ≡ Less)) f (find-holds (λ y. cmp x y ≡ Less) test xs s.0) in
          skip-from k x xs less ∙ rest f ∙ ap (λ ys. k ∷ ys) (sym (skip-beyond k x xs less))

  -- those that pass a test that holds from an element on are those from the first that passes on
  pub passing-from : (test : X → Bool) → ((x y : X) → cmp x y ≡ Less → test x ≡ true → test y ≡ true) → (xs : List X) → IsStrictlySortedBy cmp xs → filter test xs ≡ from_option cmp (find test xs) xs
  unfolding IsStrictlySortedBy
  passing-from test on [] s = refl
  passing-from test on (x ∷ xs) s = by (test x) refl (passing-from test on xs s.1)
    where
      skip : (o : Option X) → find test xs ≡ o → from_option cmp o xs ≡ from_option cmp o (x ∷ xs)
      skip None e = refl
      skip (Some k) e = sym (skip-from k x xs (subst (λ o. IfSome o (λ y. cmp x y ≡ Less)) e (find-holds (λ y. cmp x y ≡ Less) test xs s.0)))

      by : (b : Bool) → test x ≡ b → filter test xs ≡ from_option cmp (find test xs) xs → cond b (x ∷ filter test xs) (filter test xs) ≡ from_option cmp (cond b (Some x) (find test xs)) (x ∷ xs)
      by true e rest =
          ap (λ ys. x ∷ ys) (filter-all test xs (All-weaker (λ y. cmp x y ≡ Less) (λ y. test y ≡ true) xs (λ y h. on x y h e) s.0)) ∙ sym (first-from x xs s.0)
      by false e rest = rest ∙ skip (find test xs) refl
