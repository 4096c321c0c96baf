-- Lists of numbers that are apart, and one more among them.
use Rattle.std.proofs.Common.{◌≡◌, ℕ, ◌<◌, ◌≤◌, List, [], ◌∷◌, ◌++◌, sym, arith}
use Rattle.std.specs.Prelude.{◌≢◌}
use Rattle.std.specs.List.{AllByRecursion}

-- no number stands twice
unfoldable pub AreApart : List ℕ → Type 0
AreApart [] = Unit {0}
AreApart (n ∷ ns) = AllByRecursion (λ m. m ≢ n) ns × AreApart ns

-- ---- one element more or less

each_insert : {X : Type 0} (P : X → Type 0) (xs ys : List X) (x : X) → P x → AllByRecursion P (xs ++ ys) → AllByRecursion P (xs ++ x ∷ ys)
each_insert P [] ys x p h = (p, h)
each_insert P (z ∷ xs) ys x p h = (h.0, each_insert P xs ys x p h.1)

each_without : {X : Type 0} (P : X → Type 0) (xs ys : List X) (x : X) → AllByRecursion P (xs ++ x ∷ ys) → AllByRecursion P (xs ++ ys)
each_without P [] ys x h = h.1
each_without P (z ∷ xs) ys x h = (h.0, each_without P xs ys x h.1)

-- what holds of all holds of one between
pub each-middle : {X : Type 0} (P : X → Type 0) (xs ys : List X) (x : X) → AllByRecursion P (xs ++ x ∷ ys) → P x
each-middle P [] ys x h = h.0
each-middle P (z ∷ xs) ys x h = each-middle P xs ys x h.1

-- what follows for each
pub each-weaker : {X : Type 0} (P Q : X → Type 0) → ((x : X) → P x → Q x) → (xs : List X) → AllByRecursion P xs → AllByRecursion Q xs
each-weaker P Q f [] h = tt
each-weaker P Q f (x ∷ xs) h = (f x h.0, each-weaker P Q f xs h.1)

-- what holds of the whole holds of the back
pub each-back : {X : Type 0} (P : X → Type 0) (xs ys : List X) → AllByRecursion P (xs ++ ys) → AllByRecursion P ys
each-back P [] ys h = h
each-back P (x ∷ xs) ys h = each-back P xs ys h.1

apart-insert : (xs ys : List ℕ) (n : ℕ) → AreApart (xs ++ ys) → AllByRecursion (λ m. m ≢ n) (xs ++ ys) → AreApart (xs ++ n ∷ ys)
unfolding AreApart
apart-insert [] ys n a others = (others, a)
apart-insert (x ∷ xs) ys n a others = (each_insert (λ m. m ≢ x) xs ys n (λ e. others.0 (sym e)) a.0, apart-insert xs ys n a.1 others.1)

apart-others : (xs ys : List ℕ) (n : ℕ) → AreApart (xs ++ n ∷ ys) → AllByRecursion (λ m. m ≢ n) (xs ++ ys)
unfolding AreApart
apart-others [] ys n a = a.0
apart-others (x ∷ xs) ys n a = ((λ e. each-middle (λ m. m ≢ x) xs ys n a.0 (sym e)), apart-others xs ys n a.1)

-- ---- one number among the others

-- a number stands among others that are not it, all are below a bound, and the others below the old one
pub record IsAmong (xs ys : List ℕ) (number old bound : ℕ) : Type 0 where
  pub below : AllByRecursion (λ m. m < bound) (xs ++ number ∷ ys)
  pub apart : AreApart (xs ++ number ∷ ys)
  pub others : AllByRecursion (λ m. m ≢ number) (xs ++ ys)
  pub kept : AllByRecursion (λ m. m < old) (xs ++ ys)

-- one that stands there already
pub among-known : (xs ys : List ℕ) (number old bound : ℕ) → old ≤ bound → AllByRecursion (λ m. m < old) (xs ++ number ∷ ys) → AreApart (xs ++ number ∷ ys)
    → IsAmong xs ys number old bound
among-known xs ys number old bound le below apart = record {
  below = each-weaker (λ m. m < old) (λ m. m < bound) (λ m lt. omega arith) (xs ++ number ∷ ys) below;
  apart = apart;
  others = apart-others xs ys number apart;
  kept = each_without (λ m. m < old) xs ys number below;
}

-- one that is above them
pub among-new : (xs ys : List ℕ) (number old bound : ℕ) → old ≤ bound → number ≡ old → number < bound → AllByRecursion (λ m. m < old) (xs ++ ys) → AreApart (xs ++ ys)
    → IsAmong xs ys number old bound
among-new xs ys number old bound le is lt below apart =
    let others : AllByRecursion (λ m. m ≢ number) (xs ++ ys) = each-weaker (λ m. m < old) (λ m. m ≢ number) (λ m under same. omega arith) (xs ++ ys) below in
    record {
      below = each_insert (λ m. m < bound) xs ys number lt (each-weaker (λ m. m < old) (λ m. m < bound) (λ m under. omega arith) (xs ++ ys) below);
      apart = apart-insert xs ys number apart others;
      others = others;
      kept = below;
    }

-- ---- the parts of an order
