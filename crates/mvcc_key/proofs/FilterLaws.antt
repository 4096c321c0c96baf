-- Lists of the elements that pass a test.
use Rattle.std.proofs.Common.{◌≡◌, ◌-◌, Bool, true, false, cond, List, [], ◌∷◌, length, refl, sym, ap, ◌∙◌, arith}
use Rattle.std.proofs.lemmas.List.Filters.{length-filter_both}
use Rattle.std.specs.Prelude.{◌&&◌, not, filter, map}
use Rattle.std.specs.List.{AllByRecursion}
use Rattle.mvcc_key.proofs.EachLaws.{All-every}

-- two tests that pass the same elements of a list
pub filter-same : {X : Type 0} (P Q : X → Bool) (xs : List X) → AllByRecursion (λ x. P x ≡ Q x) xs → filter P xs ≡ filter Q xs
filter-same P Q [] a = refl
filter-same P Q (x ∷ xs) a = λ i. cond (a.0 i) (x ∷ filter-same P Q xs a.1 i) (filter-same P Q xs a.1 i)

-- where all pass, all are left
pub filter-all : {X : Type 0} (P : X → Bool) (xs : List X) → AllByRecursion (λ x. P x ≡ true) xs → filter P xs ≡ xs
filter-all P [] a = refl
filter-all P (x ∷ xs) a = λ i. cond (a.0 i) (x ∷ filter-all P xs a.1 i) (filter-all P xs a.1 i)

-- where every element passes, all are left
pub filter-every : {X : Type 0} (P : X → Bool) (xs : List X) → ((x : X) → P x ≡ true) → filter P xs ≡ xs
filter-every P xs f = filter-all P xs (All-every (λ x. P x ≡ true) xs f)

-- those that pass one test of those that pass another are those that pass both
pub filter-twice : {X : Type 0} (P Q R : X → Bool) (xs : List X) → ((x : X) → (Q x && P x) ≡ R x) → filter P (filter Q xs) ≡ filter R xs
filter-twice P Q R [] f = refl
filter-twice P Q R (x ∷ xs) f = by (Q x) (f x) (filter-twice P Q R xs f)
  where
    by : (q : Bool) → (q && P x) ≡ R x → filter P (filter Q xs) ≡ filter R xs → filter P (cond q (x ∷ filter Q xs) (filter Q xs)) ≡ cond (R x) (x ∷ filter R xs) (filter R xs)
    by true e rest = λ i. cond (e i) (x ∷ rest i) (rest i)
    by false e rest = rest ∙ ap (λ r. cond r (x ∷ filter R xs) (filter R xs)) e

-- a test that follows from another changes nothing of those that pass that one
pub filter-follows : {X : Type 0} (P Q : X → Bool) (xs : List X) → ((x : X) → P x ≡ true → Q x ≡ true) → filter P (filter Q xs) ≡ filter P xs
filter-follows P Q xs f = filter-twice P Q P xs (λ x. by (P x) (Q x) (f x))
  where
    by : (p q : Bool) → (p ≡ true → q ≡ true) → (q && p) ≡ p
    by p true g = refl
    by true false g = g refl
    by false false g = refl

-- of two tests either may come first
pub filter-swap : {X : Type 0} (P Q : X → Bool) (xs : List X) → filter P (filter Q xs) ≡ filter Q (filter P xs)
filter-swap P Q xs =
    filter-twice P Q (λ x. Q x && P x) xs (λ x. refl) ∙ sym (filter-twice Q P (λ x. Q x && P x) xs (λ x. by (P x) (Q x)))
  where
    by : (p q : Bool) → (p && q) ≡ (q && p)
    by true true = refl
    by true false = refl
    by false true = refl
    by false false = refl

-- where each fails, none is left
pub filter-none : {X : Type 0} (P : X → Bool) (xs : List X) → AllByRecursion (λ x. P x ≡ false) xs → filter P xs ≡ []
filter-none P [] a = refl
filter-none P (x ∷ xs) a = rw a.0 (filter-none P xs a.1)

-- of those that fail a test none passes it
pub filter-fails : {X : Type 0} (test : X → Bool) (xs : List X) → filter test (filter (λ x. not (test x)) xs) ≡ []
filter-fails test [] = refl
filter-fails test (x ∷ xs) = by (test x) refl (filter-fails test xs)
  where
    by : (t : Bool) → test x ≡ t → filter test (filter (λ x. not (test x)) xs) ≡ []
        → filter test (cond (not t) (x ∷ filter (λ x. not (test x)) xs) (filter (λ x. not (test x)) xs)) ≡ []
    by true e rest = rest
    by false e rest = rw e rest

-- a test of mapped elements
pub filter-map : {X Y : Type 0} (test : Y → Bool) (g : X → Y) (xs : List X) → filter test (map g xs) ≡ map g (filter (λ x. test (g x)) xs)
filter-map test g [] = refl
filter-map test g (x ∷ xs) = by (test (g x)) (filter-map test g xs)
  where
    by : (t : Bool) → filter test (map g xs) ≡ map g (filter (λ x. test (g x)) xs)
        → cond t (g x ∷ filter test (map g xs)) (filter test (map g xs)) ≡ map g (cond t (x ∷ filter (λ x. test (g x)) xs) (filter (λ x. test (g x)) xs))
    by true rest = ap (λ ys. g x ∷ ys) rest
    by false rest = rest

-- as many go as pass the test of those that go
pub length-parted : {X : Type 0} (P : X → Bool) (xs : List X) → length xs - length (filter (λ x. not (P x)) xs) ≡ length (filter P xs)
length-parted P xs = omega (arith, length-filter_both P (λ x. not (P x)) (λ x. refl) xs)
