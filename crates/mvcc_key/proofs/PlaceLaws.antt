-- Elements that are put in their places, before or after others are put in order.
use Rattle.std.proofs.Common.{◌≡◌, false, List, [], ◌∷◌, ◌++◌, refl, sym, ap, subst, ◌∙◌, Bool, true, cond}
use Rattle.std.specs.Prelude.{map, filter, Some, IfSome}
use Rattle.std.specs.List.{AllByRecursion}
use Rattle.std.specs.List.Sorted.{IsStrictlySortedBy}
use Rattle.std.specs.declared.cmp.Ordering.{Ordering}
use Rattle.std.specs.declared.cmp.Ordering.TheVariants.{Less, Equal, Greater}
use Rattle.std.specs.Ordering.{match_ordering, ordering_reverse}
use Rattle.std.specs.Cmp.{IsTotalOrder, tied_itself}
use Rattle.mvcc_key.specs.Lists.{put_in_order, in_order, first}
use Rattle.mvcc_key.proofs.SortedLaws.{IsBelowAll, put_in_order-first, below_more, in_order-sorted, filter-put_in_order_other}
use Rattle.mvcc_key.proofs.EachLaws.{found_passes, All-weaker, All-filter}
use Rattle.mvcc_key.proofs.FilterLaws.{filter-all}

module _ {X : Type 0} {cmp : X → X → Ordering} (total : IsTotalOrder cmp) where
  -- what is below another has it above
  reversed : (x y : X) → cmp x y ≡ Less → cmp y x ≡ Greater
  reversed x y h = total.antisymm y x ∙ ap ordering_reverse h

  -- what is below another is below what ties with it
  pub below_tied : (x y z : X) → cmp x y ≡ Less → cmp y z ≡ Equal → cmp x z ≡ Less
  below_tied x y z h e = total.antisymm x z ∙ ap ordering_reverse (sym (total.congr y z x e) ∙ reversed x y h)

  -- two elements of which the first is the lower, put in either order
  pub put_lower : (x y : X) (zs : List X) → cmp x y ≡ Less → put_in_order cmp x (put_in_order cmp y zs) ≡ put_in_order cmp y (put_in_order cmp x zs)
  put_lower x y [] h = let g : cmp y x ≡ Greater = reversed x y h in rw (h, g) refl
  put_lower x y (z ∷ zs) h = by (cmp y z) (cmp x z) refl refl (put_lower x y zs h)
    where
      by : (o p : Ordering) → cmp y z ≡ o → cmp x z ≡ p → put_in_order cmp x (put_in_order cmp y zs) ≡ put_in_order cmp y (put_in_order cmp x zs)
          → put_in_order cmp x (match_ordering o (y ∷ z ∷ zs) (y ∷ zs) (z ∷ put_in_order cmp y zs))
          ≡ put_in_order cmp y (match_ordering p (x ∷ z ∷ zs) (x ∷ zs) (z ∷ put_in_order cmp x zs))
      by Less Less e f rest = let g : cmp y x ≡ Greater = reversed x y h in rw (h, g, e) refl
      by Less Equal e f rest = let k : cmp x z ≡ Less = total.trans x y z h e in cc
      by Less Greater e f rest = let k : cmp x z ≡ Less = total.trans x y z h e in cc
      by Equal Less e f rest = let g : cmp y x ≡ Greater = reversed x y h in rw (h, g, e) refl
      by Equal Equal e f rest = let k : cmp x z ≡ Less = below_tied x y z h e in cc
      by Equal Greater e f rest = let k : cmp x z ≡ Less = below_tied x y z h e in cc
      by Greater Less e f rest = let g : cmp y x ≡ Greater = reversed x y h in rw (f, g, e) refl
      by Greater Equal e f rest = let g : cmp y x ≡ Greater = reversed x y h in rw (f, g) refl
      by Greater Greater e f rest = rw (f, e) (ap (λ ws. z ∷ ws) rest)

  -- an element below some others may be put behind them
  pub in_order-pull : (xs ys : List X) (p : X) → AllByRecursion (λ x. cmp p x ≡ Less) xs → in_order cmp (xs ++ p ∷ ys) ≡ put_in_order cmp p (in_order cmp (xs ++ ys))
  in_order-pull [] ys p below = refl
  in_order-pull (x ∷ xs) ys p below =
      ap (put_in_order cmp x) (in_order-pull xs ys p below.1) ∙ sym (put_lower p x (in_order cmp (xs ++ ys)) below.0)

module _ {X : Type 0} {cmp : X → X → Ordering} (total : IsTotalOrder cmp) where
  -- two elements that do not tie may be put in either order
  pub put-swap_apart : (x y : X) (zs : List X) → (cmp x y ≡ Equal → ⊥) → put_in_order cmp x (put_in_order cmp y zs) ≡ put_in_order cmp y (put_in_order cmp x zs)
  put-swap_apart x y zs apart = by (cmp x y) refl
    where
      by : (o : Ordering) → cmp x y ≡ o → put_in_order cmp x (put_in_order cmp y zs) ≡ put_in_order cmp y (put_in_order cmp x zs)
      by Less e = put_lower total x y zs e
      by Equal e = absurd (apart e)
      by Greater e = sym (put_lower total y x zs (total.antisymm y x ∙ ap ordering_reverse e))

  -- an element takes the place of one that ties with it
  pub put-over : (x y : X) (zs : List X) → cmp x y ≡ Equal → put_in_order cmp x (put_in_order cmp y zs) ≡ put_in_order cmp x zs
  put-over x y [] tie = rw tie refl
  put-over x y (z ∷ zs) tie = by (cmp y z) refl (put-over x y zs tie)
    where
      by : (o : Ordering) → cmp y z ≡ o → put_in_order cmp x (put_in_order cmp y zs) ≡ put_in_order cmp x zs
          → put_in_order cmp x (match_ordering o (y ∷ z ∷ zs) (y ∷ zs) (z ∷ put_in_order cmp y zs)) ≡ put_in_order cmp x (z ∷ zs)
      by Less e rest = let f : cmp x z ≡ Less = total.congr x y z tie ∙ e in rw (tie, f) refl
      by Equal e rest = let f : cmp x z ≡ Equal = total.congr x y z tie ∙ e in rw (tie, f) refl
      by Greater e rest = let f : cmp x z ≡ Greater = total.congr x y z tie ∙ e in rw f (ap (λ ws. z ∷ ws) rest)

  -- an element that is put among the first of others is put among all
  pub in_order-put : (x : X) (xs ys : List X) → in_order cmp (put_in_order cmp x xs ++ ys) ≡ put_in_order cmp x (in_order cmp (xs ++ ys))
  in_order-put x [] ys = refl
  in_order-put x (z ∷ zs) ys = by (cmp x z) refl (in_order-put x zs ys)
    where
      by : (o : Ordering) → cmp x z ≡ o → in_order cmp (put_in_order cmp x zs ++ ys) ≡ put_in_order cmp x (in_order cmp (zs ++ ys))
          → in_order cmp (match_ordering o (x ∷ z ∷ zs) (x ∷ zs) (z ∷ put_in_order cmp x zs) ++ ys) ≡ put_in_order cmp x (put_in_order cmp z (in_order cmp (zs ++ ys)))
      by Less e rest = refl
      by Equal e rest = sym (put-over x z (in_order cmp (zs ++ ys)) e)
      by Greater e rest = ap (put_in_order cmp z) rest ∙ sym (put-swap_apart x z (in_order cmp (zs ++ ys)) (λ f. absurd cc))

  -- so is one that is put behind others that it does not tie with
  pub in_order-put_behind : (x : X) (xs us ws : List X) → AllByRecursion (λ y. cmp x y ≡ Equal → ⊥) xs → in_order cmp us ≡ put_in_order cmp x (in_order cmp ws)
      → in_order cmp (xs ++ us) ≡ put_in_order cmp x (in_order cmp (xs ++ ws))
  in_order-put_behind x [] us ws apart put = put
  in_order-put_behind x (y ∷ ys) us ws apart put =
      ap (put_in_order cmp y) (in_order-put_behind x ys us ws apart.1 put) ∙ sym (put-swap_apart x y (in_order cmp (ys ++ ws)) apart.0)

-- an element that is put among others is put among what they are mapped to, where they compare alike
pub map-put_in_order : {X Y : Type 0} (cmp : X → X → Ordering) (cmp' : Y → Y → Ordering) (f : X → Y) (x : X) (ys : List X) → AllByRecursion (λ y. cmp' (f x) (f y) ≡ cmp x y) ys
    → map f (put_in_order cmp x ys) ≡ put_in_order cmp' (f x) (map f ys)
map-put_in_order cmp cmp' f x [] alike = refl
map-put_in_order cmp cmp' f x (y ∷ ys) alike =
    by (cmp x y) (map-put_in_order cmp cmp' f x ys alike.1) ∙ ap (λ o. match_ordering o (f x ∷ f y ∷ map f ys) (f x ∷ map f ys) (f y ∷ put_in_order cmp' (f x) (map f ys))) (sym alike.0)
  where
    by : (o : Ordering) → map f (put_in_order cmp x ys) ≡ put_in_order cmp' (f x) (map f ys)
        → map f (match_ordering o (x ∷ y ∷ ys) (x ∷ ys) (y ∷ put_in_order cmp x ys)) ≡ match_ordering o (f x ∷ f y ∷ map f ys) (f x ∷ map f ys) (f y ∷ put_in_order cmp' (f x) (map f ys))
    by Less rest = refl
    by Equal rest = refl
    by Greater rest = ap (λ zs. f y ∷ zs) rest

module _ {X : Type 0} {cmp : X → X → Ordering} (total : IsTotalOrder cmp) (x : X) (test : X → Bool) (tied : (y : X) → cmp x y ≡ Equal → test y ≡ false) (apart : (y : X) → (cmp x y ≡ Equal → ⊥) → test y ≡ true) where
  -- what is above an element passes the test that fails at those that tie with it
  above_pass : (ys : List X) → IsBelowAll cmp x ys → filter test ys ≡ ys
  above_pass ys below = filter-all test ys (All-weaker (λ y. cmp x y ≡ Less) (λ y. test y ≡ true) ys (λ y less. apart y (λ tie. absurd cc)) below)

  -- what ties with an element is below what the element is below
  below_what_ties : (y : X) (zs : List X) → cmp x y ≡ Equal → IsBelowAll cmp y zs → IsBelowAll cmp x zs
  below_what_ties y [] tie below = tt
  below_what_ties y (z ∷ zs) tie below = (total.congr x y z tie ∙ below.0, below_what_ties y zs tie below.1)

  -- an element may be put after the one that ties with it was taken out
  pub put-without_tied : (ys : List X) → IsStrictlySortedBy cmp ys → put_in_order cmp x (filter test ys) ≡ put_in_order cmp x ys
  unfolding IsStrictlySortedBy
  put-without_tied [] sorted = refl
  put-without_tied (y ∷ ys) sorted = by (cmp x y) refl (put-without_tied ys sorted.1)
    where
      by : (o : Ordering) → cmp x y ≡ o → put_in_order cmp x (filter test ys) ≡ put_in_order cmp x ys
          → put_in_order cmp x (filter test (y ∷ ys)) ≡ match_ordering o (x ∷ y ∷ ys) (x ∷ ys) (y ∷ put_in_order cmp x ys)
      by Less e rest =
          let below : IsBelowAll cmp x (y ∷ ys) = (e, below_more total x y ys e sorted.0) in
          ap (put_in_order cmp x) (above_pass (y ∷ ys) below) ∙ put_in_order-first cmp x (y ∷ ys) below
      by Equal e rest =
          let below : IsBelowAll cmp x ys = below_what_ties y ys e sorted.0 in
          let fails = tied y e in
          rw fails (ap (put_in_order cmp x) (above_pass ys below) ∙ put_in_order-first cmp x ys below)
      by Greater e rest =
          let passes = apart y (λ tie. absurd cc) in
          rw (passes, e) (ap (λ zs. y ∷ zs) rest)

-- an element that is there may be put there
pub put-there : {X : Type 0} {cmp : X → X → Ordering} (total : IsTotalOrder cmp) (x : X) (test : X → Bool) (ys : List X) → IsStrictlySortedBy cmp ys → first (filter test ys) ≡ Some x → put_in_order cmp x ys ≡ ys
unfolding IsStrictlySortedBy
put-there total x test [] sorted found = absurd cc
put-there {cmp = cmp} total x test (y ∷ ys) sorted found = by (test y) found (put-there total x test ys sorted.1)
  where
    by : (b : Bool) → first (cond b (y ∷ filter test ys) (filter test ys)) ≡ Some x → (first (filter test ys) ≡ Some x → put_in_order cmp x ys ≡ ys) → put_in_order cmp x (y ∷ ys) ≡ y ∷ ys
    by true is rest =
        let same : y ≡ x = cc in
        let tie : cmp x y ≡ Equal = subst (λ z. cmp x z ≡ Equal) (sym same) (tied_itself total x) in
        rw tie (ap (λ z. z ∷ ys) (sym same))
    by false is rest =
        let less : cmp y x ≡ Less = (subst (λ o. IfSome o (λ z. (cmp y z ≡ Less) × (test z ≡ true))) is (found_passes (λ z. cmp y z ≡ Less) test ys sorted.0)).0 in
        let greater : cmp x y ≡ Greater = total.antisymm x y ∙ ap ordering_reverse less in
        rw greater (ap (λ zs. y ∷ zs) (rest is))

module _ {X : Type 0} (cmp : X → X → Ordering) (test : X → Bool) where
  -- an element that passes and is below all others that pass stands first among them
  pub filter-put_first : (x : X) (ys : List X) → test x ≡ true → IsBelowAll cmp x (filter test ys) → filter test (put_in_order cmp x ys) ≡ x ∷ filter test ys
  filter-put_first x [] passes below = rw passes refl
  filter-put_first x (y ∷ ys) passes below = by (cmp x y) (test y) refl refl below (filter-put_first x ys passes)
    where
      by : (o : Ordering) (t : Bool) → cmp x y ≡ o → test y ≡ t → IsBelowAll cmp x (cond t (y ∷ filter test ys) (filter test ys))
          → (IsBelowAll cmp x (filter test ys) → filter test (put_in_order cmp x ys) ≡ x ∷ filter test ys)
          → filter test (match_ordering o (x ∷ y ∷ ys) (x ∷ ys) (y ∷ put_in_order cmp x ys)) ≡ x ∷ cond t (y ∷ filter test ys) (filter test ys)
      by Less t o_is t_is less rest = rw (passes, t_is) refl
      by Equal true o_is t_is less rest = let lower : cmp x y ≡ Less = less.0 in absurd cc
      by Equal false o_is t_is less rest = rw passes refl
      by Greater true o_is t_is less rest = let lower : cmp x y ≡ Less = less.0 in absurd cc
      by Greater false o_is t_is less rest = rw t_is (rest less)

  -- an element that passes is the first that does, where none that is below it passes
  pub first-put : (x : X) (ys : List X) → test x ≡ true → ((y : X) → cmp x y ≡ Greater → test y ≡ false) → first (filter test (put_in_order cmp x ys)) ≡ Some x
  first-put x [] passes lower = rw passes refl
  first-put x (y ∷ ys) passes lower = by (cmp x y) refl (first-put x ys passes lower)
    where
      by : (o : Ordering) → cmp x y ≡ o → first (filter test (put_in_order cmp x ys)) ≡ Some x
          → first (filter test (match_ordering o (x ∷ y ∷ ys) (x ∷ ys) (y ∷ put_in_order cmp x ys))) ≡ Some x
      by Less is rest = rw passes refl
      by Equal is rest = rw passes refl
      by Greater is rest = rw (lower y is) rest

module _ {X : Type 0} {cmp : X → X → Ordering} (total : IsTotalOrder cmp) (test : X → Bool) (tied : (x y : X) → cmp x y ≡ Equal → test x ≡ test y) where
  -- an element that passes the test is put in its place among those that pass
  pub filter-put : (x : X) (ys : List X) → test x ≡ true → IsStrictlySortedBy cmp ys → filter test (put_in_order cmp x ys) ≡ put_in_order cmp x (filter test ys)
  unfolding IsStrictlySortedBy
  filter-put x [] passes s = rw passes refl
  filter-put x (y ∷ ys) passes s = by (cmp x y) refl (filter-put x ys passes s.1)
    where
      placed : (t : Bool) → cmp x y ≡ Greater → cond t (y ∷ put_in_order cmp x (filter test ys)) (put_in_order cmp x (filter test ys))
          ≡ put_in_order cmp x (cond t (y ∷ filter test ys) (filter test ys))
      placed true h = sym (ap (λ o. match_ordering o (x ∷ y ∷ filter test ys) (x ∷ filter test ys) (y ∷ put_in_order cmp x (filter test ys))) h)
      placed false h = refl

      by : (o : Ordering) → cmp x y ≡ o → filter test (put_in_order cmp x ys) ≡ put_in_order cmp x (filter test ys)
          → filter test (match_ordering o (x ∷ y ∷ ys) (x ∷ ys) (y ∷ put_in_order cmp x ys)) ≡ put_in_order cmp x (filter test (y ∷ ys))
      by Less h rest =
          ap (λ t. cond t (x ∷ filter test (y ∷ ys)) (filter test (y ∷ ys))) passes
          ∙ sym (put_in_order-first cmp x (filter test (y ∷ ys)) (All-filter (λ z. cmp x z ≡ Less) test (y ∷ ys) (h, below_more total x y ys h s.0)))
      by Equal h rest =
          let also : test y ≡ true = sym (tied x y h) ∙ passes in
          ap (λ t. cond t (x ∷ filter test ys) (filter test ys)) passes
          ∙ sym (ap (λ o. match_ordering o (x ∷ y ∷ filter test ys) (x ∷ filter test ys) (y ∷ put_in_order cmp x (filter test ys))) h)
          ∙ ap (λ t. put_in_order cmp x (cond t (y ∷ filter test ys) (filter test ys))) (sym also)
      by Greater h rest = ap (λ ws. cond (test y) (y ∷ ws) ws) rest ∙ placed (test y) h

  -- those of a list in order that pass a test are those that pass, in order, where those that tie pass alike
  pub filter-in_order_alike : (xs : List X) → filter test (in_order cmp xs) ≡ in_order cmp (filter test xs)
  filter-in_order_alike [] = refl
  filter-in_order_alike (x ∷ xs) = by (test x) refl (filter-in_order_alike xs)
    where
      by : (t : Bool) → test x ≡ t → filter test (in_order cmp xs) ≡ in_order cmp (filter test xs)
          → filter test (put_in_order cmp x (in_order cmp xs)) ≡ in_order cmp (cond t (x ∷ filter test xs) (filter test xs))
      by true h rest = filter-put x (in_order cmp xs) h (in_order-sorted total xs) ∙ ap (put_in_order cmp x) rest
      by false h rest = filter-put_in_order_other cmp test x (in_order cmp xs) h (λ y e. sym (tied x y e) ∙ h) ∙ rest
