-- Lists of things with names: what is known of a name.
use Rattle.std.proofs.Common.{◌≡◌, Bool, true, false, cond, List, [], ◌∷◌, ◌++◌, map, refl, sym, ap, ◌∙◌}
use Rattle.std.specs.Prelude.{find, filter, Some, None}
use Rattle.std.specs.List.{AllByRecursion}
use Rattle.std.specs.List.Sorted.{IsStrictlySortedBy}
use Rattle.std.specs.declared.option.Option.{Option}
use Rattle.std.specs.Option.{option_map}
use Rattle.std.specs.declared.cmp.Ordering.{Ordering}
use Rattle.std.specs.declared.cmp.Ordering.TheVariants.{Less, Equal, Greater}
use Rattle.std.specs.Ordering.{match_ordering, is_eq, on}
use Rattle.std.proofs.lemmas.Cmp.{on_total}
use Rattle.mvcc_key.specs.Lists.{put_in_order, in_order}
use Rattle.mvcc_key.specs.Order.{Name, name_cmp, is_same_name}
use Rattle.mvcc_key.proofs.OrderLaws.{name_cmp-total, name_cmp-IsAntisymmetric}
use Rattle.mvcc_key.proofs.SortedLaws.{in_order-sorted}
use Rattle.merge_cursor.proofs.OrderLaws.{is_same_name-one, is_same_name-itself, back-greater, back-less}

-- the first, where there is one, and else the second
abbrev pub newer : {X : Type 0} → Option X → Option X → Option X
newer (Some x) older = Some x
newer None older = older

-- what is there, where it passes the test
abbrev pub keep : {X : Type 0} → (X → Bool) → Option X → Option X
keep test None = None
keep test (Some x) = cond (test x) (Some x) None

-- what is there passes the test
abbrev pub passes : {X : Type 0} → (X → Bool) → Option X → Bool
passes test None = false
passes test (Some x) = test x

-- different names do not tie
pub less-differs : (m n : Name) → name_cmp m n ≡ Less → is_same_name n m ≡ false
less-differs m n h = ap is_eq (back-greater m n h)

module _ {X : Type 0} (name : X → Name) where
  -- the first of a name
  abbrev pub known : Name → List X → Option X
  known n xs = find (λ x. is_same_name (name x) n) xs

  -- by name
  abbrev pub by_name : X → X → Ordering
  by_name = on name name_cmp

  -- they rise by name
  abbrev pub AreSorted : List X → Type 0
  AreSorted xs = IsStrictlySortedBy by_name xs

  -- what is known of a name has it
  pub known-named : (n : Name) (xs : List X) (x : X) → known n xs ≡ Some x → name x ≡ n
  known-named n [] x h = absurd cc
  known-named n (y ∷ ys) x h = by (is_same_name (name y) n) refl h (known-named n ys x)
    where
      by : (b : Bool) → is_same_name (name y) n ≡ b → cond b (Some y) (known n ys) ≡ Some x → (known n ys ≡ Some x → name x ≡ n) → name x ≡ n
      by true same k rest = (let is : y ≡ x = cc in ap name (sym is) ∙ is_same_name-one (name y) n same)
      by false same k rest = rest k

  -- what is known first goes before what is known behind
  pub known-append : (n : Name) (xs ys : List X) → known n (xs ++ ys) ≡ newer (known n xs) (known n ys)
  known-append n [] ys = refl
  known-append n (x ∷ xs) ys = by (is_same_name (name x) n) (known-append n xs ys)
    where
      by : (b : Bool) → known n (xs ++ ys) ≡ newer (known n xs) (known n ys)
          → cond b (Some x) (known n (xs ++ ys)) ≡ newer (cond b (Some x) (known n xs)) (known n ys)
      by true rest = refl
      by false rest = rest

  -- one that is put in its place is what is known of its name
  known-put : (n : Name) (x : X) (ys : List X) → known n (put_in_order by_name x ys) ≡ cond (is_same_name (name x) n) (Some x) (known n ys)
  known-put n x [] = refl
  known-put n x (y ∷ ys) = by (by_name x y) refl (known-put n x ys)
    where
      both : (a b : Bool) (o : Option X) → is_same_name (name x) n ≡ a → is_same_name (name y) n ≡ b → by_name x y ≡ Greater
          → cond b (Some y) (cond a (Some x) o) ≡ cond a (Some x) (cond b (Some y) o)
      both true true o h k greater =
          (let one : name y ≡ name x = is_same_name-one (name y) n k ∙ sym (is_same_name-one (name x) n h) in
          let same : is_same_name (name y) (name x) ≡ true = ap (λ (m : Name). is_same_name m (name x)) one ∙ is_same_name-itself (name x) in
          let less : is_same_name (name y) (name x) ≡ false = ap is_eq (back-less (name x) (name y) greater) in
          absurd cc)
      both true false o h k greater = refl
      both false true o h k greater = refl
      both false false o h k greater = refl

      one : (a b : Bool) (o : Option X) → a ≡ b → cond a (Some x) o ≡ cond a (Some x) (cond b (Some y) o)
      one true b o h = refl
      one false true o h = absurd cc
      one false false o h = refl

      by : (o : Ordering) → by_name x y ≡ o → known n (put_in_order by_name x ys) ≡ cond (is_same_name (name x) n) (Some x) (known n ys)
          → known n (match_ordering o (x ∷ y ∷ ys) (x ∷ ys) (y ∷ put_in_order by_name x ys))
          ≡ cond (is_same_name (name x) n) (Some x) (cond (is_same_name (name y) n) (Some y) (known n ys))
      by Less h rest = refl
      by Equal h rest = one (is_same_name (name x) n) (is_same_name (name y) n) (known n ys) (ap is_eq (name_cmp-total.congr (name x) (name y) n h))
      by Greater h rest =
          ap (λ (o : Option X). cond (is_same_name (name y) n) (Some y) o) rest
          ∙ both (is_same_name (name x) n) (is_same_name (name y) n) (known n ys) refl refl h

  -- in order the first of each name is known
  pub known-in_order : (n : Name) (xs : List X) → known n (in_order by_name xs) ≡ known n xs
  known-in_order n [] = refl
  known-in_order n (x ∷ xs) =
      known-put n x (in_order by_name xs) ∙ ap (λ (o : Option X). cond (is_same_name (name x) n) (Some x) o) (known-in_order n xs)

  -- what was put in order rises
  pub sorted-in_order : (xs : List X) → AreSorted (in_order by_name xs)
  sorted-in_order xs = in_order-sorted (on_total name name_cmp-total) xs

  -- ---- lists that rise

  -- nothing is known of a name below all
  pub known-above : (n : Name) (xs : List X) → AllByRecursion (λ x. name_cmp n (name x) ≡ Less) xs → known n xs ≡ None
  known-above n [] h = refl
  known-above n (x ∷ xs) h = ap (λ (b : Bool). cond b (Some x) (known n xs)) (less-differs n (name x) h.0) ∙ known-above n xs h.1

  -- behind the first its name is not known
  pub known-behind : (n : Name) (x : X) (xs : List X) → AreSorted (x ∷ xs) → is_same_name (name x) n ≡ true → known n xs ≡ None
  unfolding IsStrictlySortedBy
  known-behind n x xs sorted same = ap (λ (m : Name). known m xs) (sym (is_same_name-one (name x) n same)) ∙ known-above (name x) xs sorted.0

  -- what is below all stays so where some are left out
  above-filter : (n : Name) (test : X → Bool) (xs : List X) → AllByRecursion (λ x. name_cmp n (name x) ≡ Less) xs → AllByRecursion (λ x. name_cmp n (name x) ≡ Less) (filter test xs)
  above-filter n test [] h = tt
  above-filter n test (x ∷ xs) h = by (test x) (above-filter n test xs h.1)
    where
      by : (b : Bool) → AllByRecursion (λ x. name_cmp n (name x) ≡ Less) (filter test xs)
          → AllByRecursion (λ x. name_cmp n (name x) ≡ Less) (cond b (x ∷ filter test xs) (filter test xs))
      by true rest = (h.0, rest)
      by false rest = rest

  -- they rise where some are left out
  pub sorted-filter : (test : X → Bool) (xs : List X) → AreSorted xs → AreSorted (filter test xs)
  unfolding IsStrictlySortedBy
  sorted-filter test [] sorted = tt
  sorted-filter test (x ∷ xs) sorted = by (test x) (sorted-filter test xs sorted.1)
    where
      by : (b : Bool) → IsStrictlySortedBy by_name (filter test xs) → IsStrictlySortedBy by_name (cond b (x ∷ filter test xs) (filter test xs))
      by true rest = (above-filter (name x) test xs sorted.0, rest)
      by false rest = rest

  -- of those that pass a test is known what is known and passes
  pub known-filter : (n : Name) (test : X → Bool) (xs : List X) → AreSorted xs → known n (filter test xs) ≡ keep test (known n xs)
  unfolding IsStrictlySortedBy
  known-filter n test [] sorted = refl
  known-filter n test (x ∷ xs) sorted = by (test x) (is_same_name (name x) n) refl refl (known-filter n test xs sorted.1)
    where
      by : (t b : Bool) → test x ≡ t → is_same_name (name x) n ≡ b → known n (filter test xs) ≡ keep test (known n xs)
          → known n (cond t (x ∷ filter test xs) (filter test xs)) ≡ keep test (cond b (Some x) (known n xs))
      by true true passing same rest =
          ap (λ (b : Bool). cond b (Some x) (known n (filter test xs))) same ∙ ap (λ (b : Bool). cond b (Some x) None) (sym passing)
      by true false passing same rest = ap (λ (b : Bool). cond b (Some x) (known n (filter test xs))) same ∙ rest
      by false true passing same rest =
          rest ∙ ap (keep test) (known-behind n x xs sorted same) ∙ ap (λ (b : Bool). cond b (Some x) None) (sym passing)
      by false false passing same rest = rest

  -- lists that rise and know the same of each name are the same
  pub same-known : (xs ys : List X) → AreSorted xs → AreSorted ys → ((n : Name) → known n xs ≡ known n ys) → xs ≡ ys
  unfolding IsStrictlySortedBy
  same-known [] [] s t h = refl
  same-known [] (y ∷ ys) s t h =
      absurd (let e = h (name y) in let f : known (name y) (y ∷ ys) ≡ Some y = ap (λ (b : Bool). cond b (Some y) (known (name y) ys)) (is_same_name-itself (name y)) in cc)
  same-known (x ∷ xs) [] s t h =
      absurd (let e = h (name x) in let f : known (name x) (x ∷ xs) ≡ Some x = ap (λ (b : Bool). cond b (Some x) (known (name x) xs)) (is_same_name-itself (name x)) in cc)
  same-known (x ∷ xs) (y ∷ ys) s t h = by (name_cmp (name x) (name y)) refl (λ k. same-known xs ys s.1 t.1 k)
    where
      here : known (name x) (x ∷ xs) ≡ Some x
      here = ap (λ (b : Bool). cond b (Some x) (known (name x) xs)) (is_same_name-itself (name x))

      there : known (name y) (y ∷ ys) ≡ Some y
      there = ap (λ (b : Bool). cond b (Some y) (known (name y) ys)) (is_same_name-itself (name y))

      below : (m n : Name) (zs : List X) → name_cmp m n ≡ Less → AllByRecursion (λ z. name_cmp n (name z) ≡ Less) zs → AllByRecursion (λ z. name_cmp m (name z) ≡ Less) zs
      below m n [] less a = tt
      below m n (z ∷ zs) less a = (name_cmp-total.trans m n (name z) less a.0, below m n zs less a.1)

      rest : (n : Name) → name x ≡ name y → known n xs ≡ known n ys
      rest n one = which (is_same_name (name x) n) refl
        where
          which : (b : Bool) → is_same_name (name x) n ≡ b → known n xs ≡ known n ys
          which true same =
              known-behind n x xs s same ∙ sym (known-behind n y ys t (ap (λ (m : Name). is_same_name m n) (sym one) ∙ same))
          which false same =
              ap (λ (b : Bool). cond b (Some x) (known n xs)) (sym same) ∙ h n
              ∙ ap (λ (b : Bool). cond b (Some y) (known n ys)) (ap (λ (m : Name). is_same_name m n) (sym one) ∙ same)

      by : (o : Ordering) → name_cmp (name x) (name y) ≡ o → (((n : Name) → known n xs ≡ known n ys) → xs ≡ ys) → x ∷ xs ≡ y ∷ ys
      by Less o more =
          absurd (let none : known (name x) (y ∷ ys) ≡ None = known-above (name x) (y ∷ ys) (o, below (name x) (name y) ys o t.0) in
          let e = h (name x) in let f = here in cc)
      by Equal o more =
          let one : name x ≡ name y = name_cmp-IsAntisymmetric (name x) (name y) o in
          let first : x ≡ y =
          (let e : known (name y) (x ∷ xs) ≡ Some x = ap (λ (n : Name). known n (x ∷ xs)) (sym one) ∙ here in
          let f = h (name y) in let g = there in cc) in
          ap (λ (z : X). z ∷ xs) first ∙ ap (λ (zs : List X). y ∷ zs) (more (λ n. rest n one))
      by Greater o more =
          absurd (let less = back-less (name x) (name y) o in
          let none : known (name y) (x ∷ xs) ≡ None = known-above (name y) (x ∷ xs) (less, below (name y) (name x) xs less s.0) in
          let e = h (name y) in let f = there in cc)

module _ {X Y : Type 0} (f : X → Y) where
  -- what is known is changed as each is
  pub known-map : (name : X → Name) (named : Y → Name) → ((x : X) → named (f x) ≡ name x) → (n : Name) (xs : List X)
      → known named n (map f xs) ≡ option_map f (known name n xs)
  known-map name named e n [] = refl
  known-map name named e n (x ∷ xs) =
      ap (λ (m : Name). cond (is_same_name m n) (Some (f x)) (known named n (map f xs))) (e x) ∙ by (is_same_name (name x) n) (known-map name named e n xs)
    where
      by : (b : Bool) → known named n (map f xs) ≡ option_map f (known name n xs)
          → cond b (Some (f x)) (known named n (map f xs)) ≡ option_map f (cond b (Some x) (known name n xs))
      by true rest = refl
      by false rest = rest

  module _ (cmp : X → X → Ordering) (order : Y → Y → Ordering) (same : (a b : X) → order (f a) (f b) ≡ cmp a b) where
    map-put : (x : X) (ys : List X) → map f (put_in_order cmp x ys) ≡ put_in_order order (f x) (map f ys)
    map-put x [] = refl
    map-put x (y ∷ ys) =
        by (cmp x y) (map-put x ys)
        ∙ ap (λ (o : Ordering). match_ordering o (f x ∷ f y ∷ map f ys) (f x ∷ map f ys) (f y ∷ put_in_order order (f x) (map f ys))) (sym (same x y))
      where
        by : (o : Ordering) → map f (put_in_order cmp x ys) ≡ put_in_order order (f x) (map f ys)
            → map f (match_ordering o (x ∷ y ∷ ys) (x ∷ ys) (y ∷ put_in_order cmp x ys))
            ≡ match_ordering o (f x ∷ f y ∷ map f ys) (f x ∷ map f ys) (f y ∷ put_in_order order (f x) (map f ys))
        by Less rest = refl
        by Equal rest = refl
        by Greater rest = ap (λ (zs : List Y). f y ∷ zs) rest

    -- a change that leaves the order leaves the places
    pub map-in_order : (xs : List X) → map f (in_order cmp xs) ≡ in_order order (map f xs)
    map-in_order [] = refl
    map-in_order (x ∷ xs) = map-put x (in_order cmp xs) ∙ ap (put_in_order order (f x)) (map-in_order xs)
