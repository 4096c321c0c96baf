-- What holds of each element of a list, and of those that pass a test.
use Rattle.std.proofs.Common.{◌≡◌, false, List, [], ◌∷◌, ◌++◌, refl, subst, Bool, true, cond, Some, None, ℕ, zero, suc, sym, ap, ◌∙◌}
use Rattle.std.proofs.lemmas.List.Elements.{filter_passes, recursion_from_All}
use Rattle.std.specs.Prelude.{map, ⊤, ◌||◌, filter, find, IfSome, is_some, slice_get}
use Rattle.std.specs.List.{AllByRecursion, flat_map, list_any}
use Rattle.std.specs.declared.cmp.Ordering.{Ordering}
use Rattle.std.specs.declared.cmp.Ordering.TheVariants.{Less, Equal, Greater}
use Rattle.std.specs.Ordering.{match_ordering}
use Rattle.mvcc_key.specs.Lists.{put_in_order, in_order, is_empty, first}
use Rattle.mvcc_key.proofs.FindLaws.{find-any}

module _ {X : Type 0} (cmp : X → X → Ordering) (P : X → Type 0) where
  -- what holds of all holds of them in order
  pub All-put : (x : X) (ys : List X) → P x → AllByRecursion P ys → AllByRecursion P (put_in_order cmp x ys)
  All-put x [] h a = (h, tt)
  All-put x (y ∷ ys) h a = by (cmp x y) (All-put x ys h a.1)
    where
      by : (o : Ordering) → AllByRecursion P (put_in_order cmp x ys) → AllByRecursion P (match_ordering o (x ∷ y ∷ ys) (x ∷ ys) (y ∷ put_in_order cmp x ys))
      by Less rest = (h, a)
      by Equal rest = (h, a.1)
      by Greater rest = (a.0, rest)

  pub All-in_order : (xs : List X) → AllByRecursion P xs → AllByRecursion P (in_order cmp xs)
  All-in_order [] a = tt
  All-in_order (x ∷ xs) a = All-put x (in_order cmp xs) a.0 (All-in_order xs a.1)

  -- what holds of a list in order holds of all, where it holds of those that tie
  module _ (tied : (x y : X) → cmp x y ≡ Equal → P x → P y) where
    All-from_put : (x : X) (ys : List X) → AllByRecursion P (put_in_order cmp x ys) → P x × AllByRecursion P ys
    All-from_put x [] a = (a.0, tt)
    All-from_put x (y ∷ ys) a = by (cmp x y) refl a (All-from_put x ys)
      where
        by : (o : Ordering) → cmp x y ≡ o → AllByRecursion P (match_ordering o (x ∷ y ∷ ys) (x ∷ ys) (y ∷ put_in_order cmp x ys))
            → (AllByRecursion P (put_in_order cmp x ys) → P x × AllByRecursion P ys) → P x × AllByRecursion P (y ∷ ys)
        by Less e b rest = (b.0, b.1)
        by Equal e b rest = (b.0, (tied x y e b.0, b.1))
        by Greater e b rest = let r = rest b.1 in (r.0, (b.0, r.1))

    pub All-from_in_order : (xs : List X) → AllByRecursion P (in_order cmp xs) → AllByRecursion P xs
    All-from_in_order [] a = tt
    All-from_in_order (x ∷ xs) a = let r = All-from_put x (in_order cmp xs) a in (r.0, All-from_in_order xs r.1)

-- what holds of two lists holds of one behind the other
pub All-append : {X : Type 0} (P : X → Type 0) (xs ys : List X) → AllByRecursion P xs → AllByRecursion P ys → AllByRecursion P (xs ++ ys)
All-append P [] ys a b = b
All-append P (x ∷ xs) ys a b = (a.0, All-append P xs ys a.1 b)

-- and of both where it holds of the whole
pub All-split : {X : Type 0} (P : X → Type 0) (xs ys : List X) → AllByRecursion P (xs ++ ys) → AllByRecursion P xs × AllByRecursion P ys
All-split P [] ys a = (tt, a)
All-split P (x ∷ xs) ys a = let r = All-split P xs ys a.1 in ((a.0, r.0), r.1)

-- what holds of mapped elements
pub All-map : {X Y : Type 0} (P : Y → Type 0) (f : X → Y) (xs : List X) → AllByRecursion (λ x. P (f x)) xs → AllByRecursion P (map f xs)
All-map P f [] a = tt
All-map P f (x ∷ xs) a = (a.0, All-map P f xs a.1)

pub All-unmap : {X Y : Type 0} (P : Y → Type 0) (f : X → Y) (xs : List X) → AllByRecursion P (map f xs) → AllByRecursion (λ x. P (f x)) xs
All-unmap P f [] a = tt
All-unmap P f (x ∷ xs) a = (a.0, All-unmap P f xs a.1)

-- what holds of all holds of the one at a place
pub All-at : {X : Type 0} (P : X → Type 0) (xs : List X) (i : ℕ) (x : X) → AllByRecursion P xs → slice_get xs i ≡ Some x → P x
All-at P [] i x a is = absurd cc
All-at P (y ∷ ys) zero x a is = (let same : y ≡ x = cc in rw (← same) a.0)
All-at P (y ∷ ys) (suc i) x a is = All-at P ys i x a.1 is

-- what holds at each place holds of all
pub All-from_places : {X : Type 0} (P : X → Type 0) (xs : List X) → ((i : ℕ) (x : X) → slice_get xs i ≡ Some x → P x) → AllByRecursion P xs
All-from_places P [] h = tt
All-from_places P (x ∷ xs) h = (h 0 x refl, All-from_places P xs (λ i y is. h (suc i) y is))

-- what follows of each
pub All-weaker : {X : Type 0} (P Q : X → Type 0) (xs : List X) → ((x : X) → P x → Q x) → AllByRecursion P xs → AllByRecursion Q xs
All-weaker P Q [] f a = tt
All-weaker P Q (x ∷ xs) f a = (f x a.0, All-weaker P Q xs f a.1)

-- what follows of each from two facts on it
pub All-both : {X : Type 0} (P Q R : X → Type 0) (xs : List X) → ((x : X) → P x → Q x → R x) → AllByRecursion P xs → AllByRecursion Q xs → AllByRecursion R xs
All-both P Q R [] f a b = tt
All-both P Q R (x ∷ xs) f a b = (f x a.0 b.0, All-both P Q R xs f a.1 b.1)

-- what holds of every element holds of each of a list
pub All-every : {X : Type 0} (P : X → Type 0) (xs : List X) → ((x : X) → P x) → AllByRecursion P xs
All-every P [] f = tt
All-every P (x ∷ xs) f = (f x, All-every P xs f)

-- what holds of each pair of elements of two lists, either list first
pub All-swap : {X Y : Type 0} (R : X → Y → Type 0) (xs : List X) (ys : List Y) → AllByRecursion (λ x. AllByRecursion (R x) ys) xs
    → AllByRecursion (λ y. AllByRecursion (λ x. R x y) xs) ys
All-swap R [] ys a = All-every (λ y. ⊤) ys (λ y. tt)
All-swap R (x ∷ xs) ys a = All-both (R x) (λ y. AllByRecursion (λ z. R z y) xs) (λ y. AllByRecursion (λ z. R z y) (x ∷ xs)) ys (λ y p q. (p, q)) a.0 (All-swap R xs ys a.1)

-- what holds of the lists of each element, one behind the other, holds of each of the lists
pub All-flat_map : {X Y : Type 0} (P : Y → Type 0) (f : X → List Y) (xs : List X) → AllByRecursion P (flat_map f xs) → AllByRecursion (λ x. AllByRecursion P (f x)) xs
All-flat_map P f [] a = tt
All-flat_map P f (x ∷ xs) a = let parts = All-split P (f x) (flat_map f xs) a in (parts.0, All-flat_map P f xs parts.1)

-- ---- elements that pass a test

-- what holds of all holds of those that pass a test
pub All-filter : {X : Type 0} (P : X → Type 0) (test : X → Bool) (xs : List X) → AllByRecursion P xs → AllByRecursion P (filter test xs)
All-filter P test [] a = tt
All-filter P test (x ∷ xs) a = by (test x) (All-filter P test xs a.1)
  where
    by : (b : Bool) → AllByRecursion P (filter test xs) → AllByRecursion P (cond b (x ∷ filter test xs) (filter test xs))
    by true rest = (a.0, rest)
    by false rest = rest

-- what holds of those that pass a test holds of the list of them
pub All-filtered : {X : Type 0} (P : X → Type 0) (test : X → Bool) (xs : List X) → AllByRecursion (λ x. test x ≡ true → P x) xs → AllByRecursion P (filter test xs)
All-filtered P test [] a = tt
All-filtered P test (x ∷ xs) a = by (test x) refl (All-filtered P test xs a.1)
  where
    by : (b : Bool) → test x ≡ b → AllByRecursion P (filter test xs) → AllByRecursion P (cond b (x ∷ filter test xs) (filter test xs))
    by true e rest = (a.0 e, rest)
    by false e rest = rest

-- what holds of those that pass a test
pub unfiltered : {X : Type 0} (P : X → Type 0) (test : X → Bool) (xs : List X) → AllByRecursion P (filter test xs) → AllByRecursion (λ x. test x ≡ true → P x) xs
unfiltered P test [] a = tt
unfiltered P test (x ∷ xs) a = by (test x) refl a (unfiltered P test xs)
  where
    by : (b : Bool) → test x ≡ b → AllByRecursion P (cond b (x ∷ filter test xs) (filter test xs))
        → (AllByRecursion P (filter test xs) → AllByRecursion (λ y. test y ≡ true → P y) xs) → (test x ≡ true → P x) × AllByRecursion (λ y. test y ≡ true → P y) xs
    by true e a rest = ((λ h. a.0), rest a.1)
    by false e a rest = ((λ h. absurd cc), rest a)

-- those that pass a test pass it, and what holds of all holds of them
pub All-passing : {X : Type 0} (P : X → Type 0) (test : X → Bool) (xs : List X) → AllByRecursion P xs → AllByRecursion (λ x. (test x ≡ true) × P x) (filter test xs)
All-passing P test [] all = tt
All-passing P test (x ∷ xs) all = by (test x) refl (All-passing P test xs all.1)
  where
    by : (t : Bool) → test x ≡ t → AllByRecursion (λ y. (test y ≡ true) × P y) (filter test xs)
        → AllByRecursion (λ y. (test y ≡ true) × P y) (cond t (x ∷ filter test xs) (filter test xs))
    by true e rest = ((e, all.0), rest)
    by false e rest = rest

-- the test passes what it leaves
pub all_pass : {X : Type 0} (test : X → Bool) (xs : List X) → AllByRecursion (λ x. test x ≡ true) (filter test xs)
all_pass test xs = recursion_from_All (λ x. test x ≡ true) (filter test xs) (filter_passes test xs)

module _ {X : Type 0} (test : X → Bool) where
  -- where none is left of those that pass, each fails
  pub none_left : (xs : List X) → is_empty (filter test xs) ≡ true → AllByRecursion (λ x. test x ≡ false) xs
  none_left [] h = tt
  none_left (x ∷ xs) h = by (test x) refl h (none_left xs)
    where
      by : (b : Bool) → test x ≡ b → is_empty (cond b (x ∷ filter test xs) (filter test xs)) ≡ true → (is_empty (filter test xs) ≡ true → AllByRecursion (λ y. test y ≡ false) xs)
          → (test x ≡ false) × AllByRecursion (λ y. test y ≡ false) xs
      by true e h rest = absurd cc
      by false e h rest = (e, rest h)

  -- where not any passes, each fails
  pub not_any : (xs : List X) → list_any test xs ≡ false → AllByRecursion (λ x. test x ≡ false) xs
  not_any [] h = tt
  not_any (x ∷ xs) h = by (test x) refl h (not_any xs)
    where
      by : (b : Bool) → test x ≡ b → (b || list_any test xs) ≡ false → (list_any test xs ≡ false → AllByRecursion (λ y. test y ≡ false) xs)
          → (test x ≡ false) × AllByRecursion (λ y. test y ≡ false) xs
      by true e h rest = absurd cc
      by false e h rest = (e, rest h)

  -- where none is found, each fails
  pub none_found : (xs : List X) → find test xs ≡ None → AllByRecursion (λ x. test x ≡ false) xs
  none_found xs h = not_any xs (sym (find-any test xs) ∙ ap is_some h)

-- ---- the first element

-- what holds of all holds of the first, if there is one
pub first-some : {X : Type 0} (P : X → Type 0) (xs : List X) → AllByRecursion P xs → IfSome (first xs) P
first-some P [] all = tt
first-some P (x ∷ xs) all = all.0

-- what holds of all holds of the first
pub All-at_first : {X : Type 0} (P : X → Type 0) (xs : List X) (x : X) → AllByRecursion P xs → first xs ≡ Some x → P x
All-at_first P [] x h e = absurd cc
All-at_first P (y ∷ ys) x h e = let same : y ≡ x = cc in subst P same h.0

-- where none is found that passes a test, all fail it
pub none_first : {X : Type 0} (test : X → Bool) (xs : List X) → first (filter test xs) ≡ None → AllByRecursion (λ x. test x ≡ false) xs
none_first test [] none = tt
none_first test (x ∷ xs) none = by (test x) refl none (none_first test xs)
  where
    by : (b : Bool) → test x ≡ b → first (cond b (x ∷ filter test xs) (filter test xs)) ≡ None
        → (first (filter test xs) ≡ None → AllByRecursion (λ y. test y ≡ false) xs) → (test x ≡ false) × AllByRecursion (λ y. test y ≡ false) xs
    by true e found rest = absurd cc
    by false e found rest = (e, rest found)

-- what is found among elements passes the test, and what holds of all holds of it
pub found_passes : {X : Type 0} (P : X → Type 0) (test : X → Bool) (xs : List X) → AllByRecursion P xs → IfSome (first (filter test xs)) (λ x. P x × (test x ≡ true))
found_passes P test [] all = tt
found_passes P test (x ∷ xs) all = by (test x) refl (found_passes P test xs all.1)
  where
    by : (b : Bool) → test x ≡ b → IfSome (first (filter test xs)) (λ y. P y × (test y ≡ true)) → IfSome (first (cond b (x ∷ filter test xs) (filter test xs))) (λ y. P y × (test y ≡ true))
    by true e rest = (all.0, e)
    by false e rest = rest
