-- The first element of a list that passes a test.
use Rattle.std.proofs.Common.{◌≡◌, Bool, true, false, cond, List, [], ◌∷◌, Some, None, refl, ap, ◌∙◌}
use Rattle.std.specs.Prelude.{find, is_some, IfSome, ◌||◌}
use Rattle.std.specs.List.{AllByRecursion, list_any}
use Rattle.std.specs.declared.option.Option.{Option}
use Rattle.std.specs.declared.cmp.Ordering.{Ordering}
use Rattle.std.specs.declared.cmp.Ordering.TheVariants.{Less, Equal, Greater}
use Rattle.std.specs.Ordering.{match_ordering}
use Rattle.mvcc_key.specs.Lists.{last, put_in_order, in_order}

module _ {X : Type 0} where
  -- there is one exactly where one passes
  pub find-any : (test : X → Bool) (xs : List X) → is_some (find test xs) ≡ list_any test xs
  find-any test [] = refl
  find-any test (x ∷ xs) = by (test x) (find-any test xs)
    where
      by : (b : Bool) → is_some (find test xs) ≡ list_any test xs → is_some (cond b (Some x) (find test xs)) ≡ (b || list_any test xs)
      by true h = refl
      by false h = h

  -- what holds of all holds of it
  pub find-holds : (P : X → Type 0) (test : X → Bool) (xs : List X) → AllByRecursion P xs → IfSome (find test xs) P
  find-holds P test [] all = tt
  find-holds P test (x ∷ xs) all = by (test x) (find-holds P test xs all.1)
    where
      by : (b : Bool) → IfSome (find test xs) P → IfSome (cond b (Some x) (find test xs)) P
      by true h = all.0
      by false h = h

  -- and of the last one
  pub last-holds : (P : X → Type 0) (xs : List X) → AllByRecursion P xs → IfSome (last xs) P
  last-holds P [] all = tt
  last-holds P (x ∷ []) all = all.0
  last-holds P (x ∷ y ∷ xs) all = last-holds P (y ∷ xs) all.1

  -- none passes where none can
  pub find-none : (test : X → Bool) (xs : List X) → AllByRecursion (λ x. test x ≡ false) xs → find test xs ≡ None
  find-none test [] all = refl
  find-none test (x ∷ xs) all = rw all.0 (find-none test xs all.1)

-- elements that tie pass alike, and those that pass tie
module _ {X : Type 0} (cmp : X → X → Ordering) (test : X → Bool) (alike : (x y : X) → cmp x y ≡ Equal → test x ≡ test y)
    (one : (x y : X) → test x ≡ true → test y ≡ true → cmp x y ≡ Equal) where
  -- an element that is put in its place is found before those that tie with it
  find-put : (x : X) (ys : List X) → find test (put_in_order cmp x ys) ≡ cond (test x) (Some x) (find test ys)
  find-put x [] = refl
  find-put x (y ∷ ys) = by (cmp x y) refl (find-put x ys)
    where
      tied : (a b : Bool) (o : Option X) → a ≡ b → cond a (Some x) o ≡ cond a (Some x) (cond b (Some y) o)
      tied true b o h = refl
      tied false true o h = absurd cc
      tied false false o h = refl

      apart : (a b : Bool) (o : Option X) → (a ≡ true → b ≡ true → ⊥) → cond b (Some y) (cond a (Some x) o) ≡ cond a (Some x) (cond b (Some y) o)
      apart true true o h = absurd (h refl refl)
      apart true false o h = refl
      apart false b o h = refl

      by : (o : Ordering) → cmp x y ≡ o → find test (put_in_order cmp x ys) ≡ cond (test x) (Some x) (find test ys)
          → find test (match_ordering o (x ∷ y ∷ ys) (x ∷ ys) (y ∷ put_in_order cmp x ys)) ≡ cond (test x) (Some x) (cond (test y) (Some y) (find test ys))
      by Less h rest = refl
      by Equal h rest = tied (test x) (test y) (find test ys) (alike x y h)
      by Greater h rest =
          ap (λ (o : Option X). cond (test y) (Some y) o) rest ∙ apart (test x) (test y) (find test ys) (λ a b. (let tie : cmp x y ≡ Equal = one x y a b in cc))

  -- what is found in order is found first among all
  pub find-in_order : (xs : List X) → find test (in_order cmp xs) ≡ find test xs
  find-in_order [] = refl
  find-in_order (x ∷ xs) = find-put x (in_order cmp xs) ∙ ap (λ (o : Option X). cond (test x) (Some x) o) (find-in_order xs)
