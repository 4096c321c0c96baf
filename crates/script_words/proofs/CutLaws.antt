-- Bytes cut at a byte: the first piece, and the pieces behind it.
use Rattle.std.specs.Prelude.{◌≡◌, ℕ, ◌+◌, ◌<◌, ◌≤◌, Bool, true, false, not, ◌||◌, List, [], ◌∷◌, length, take, drop, position, cond, nat_lt, Some, None, ◌==◌}
use Rattle.std.specs.List.{position_or_len, prefix_len, AllByRecursion, list_any}
use Rattle.std.proofs.Common.{zero, suc, refl, ap, arith, get_or, add-one}
use Rattle.std.proofs.lemmas.Bool.{not-true}
use Rattle.std.proofs.lemmas.Bool.Decides.{nat_tests}
use Rattle.std.proofs.lemmas.List.{take_all}
use Rattle.std.proofs.lemmas.List.Quantifiers.{position-Some}
use Rattle.mvcc_key.specs.Cutting.{onto_first, pieces, cut_at}

-- a front as long as the list is the list
whole_front : {X : Type 0} (p : X → Bool) (xs : List X) → length xs ≤ prefix_len p xs → AllByRecursion (λ x. p x ≡ true) xs
whole_front p [] long = tt
whole_front p (x ∷ xs) long = by (whole_front p xs) (p x) refl long
  where
    by : (length xs ≤ prefix_len p xs → AllByRecursion (λ y. p y ≡ true) xs) → (b : Bool) → p x ≡ b → suc (length xs) ≤ cond b (1 + prefix_len p xs) 0
        → AllByRecursion (λ y. p y ≡ true) (x ∷ xs)
    by rest true is h = (is, rest (omega arith))
    by rest false is h = absurd (omega arith)

-- where no place passes, no element does
pub none-position : {X : Type 0} (p : X → Bool) (xs : List X) → position p xs ≡ None → AllByRecursion (λ x. not (p x) ≡ true) xs
none-position p xs none = by (nat_lt (position_or_len p xs) (length xs)) refl none
  where
    by : (b : Bool) → nat_lt (position_or_len p xs) (length xs) ≡ b → cond b (Some (position_or_len p xs)) None ≡ None → AllByRecursion (λ x. not (p x) ≡ true) xs
    by true is h = cc
    by false is h = let long : length xs ≤ prefix_len (λ x. not (p x)) xs = grind (arith, nat_tests) in whole_front (λ x. not (p x)) xs long

module _ (test : ℕ → Bool) where
  one_piece : (xs : List ℕ) → AllByRecursion (λ x. not (test x) ≡ true) xs → pieces test xs ≡ xs ∷ []
  one_piece [] none = refl
  one_piece (x ∷ xs) none = rw (not-true (test x) none.0) (ap (onto_first x) (one_piece xs none.1))

  -- where no byte cuts there is one piece
  pub pieces-uncut : (xs : List ℕ) → position test xs ≡ None → pieces test xs ≡ xs ∷ []
  pieces-uncut xs none = one_piece xs (none-position test xs none)

  pieces-at : (xs : List ℕ) (i : ℕ) → i < length xs → test (get_or xs i 0) ≡ true → ((k : ℕ) → k < i → test (get_or xs k 0) ≡ false)
      → pieces test xs ≡ take i xs ∷ pieces test (drop (suc i) xs)
  pieces-at [] i within cuts before = absurd (omega arith)
  pieces-at (x ∷ xs) zero within cuts before = rw cuts refl
  pieces-at (x ∷ xs) (suc i) within cuts before =
      rw (before 0 (omega arith)) (ap (onto_first x) (pieces-at xs i (omega arith) cuts (λ k low. before (suc k) (omega arith))))

  -- where a byte cuts, the pieces are what is before it and the pieces of what is behind it
  pub pieces-cut : (xs : List ℕ) (i : ℕ) → position test xs ≡ Some i → pieces test xs ≡ take i xs ∷ pieces test (drop (i + 1) xs)
  pieces-cut xs i some =
      let at = position-Some test xs i 0 some in
      rw (add-one) (pieces-at xs i at.0 at.1 at.2)

pub none_any : {X : Type 0} (p : X → Bool) (xs : List X) → AllByRecursion (λ x. not (p x) ≡ true) xs → list_any p xs ≡ false
none_any p [] none = refl
none_any p (x ∷ xs) none = rw (not-true (p x) none.0) (none_any p xs none.1)

pub some_any : {X : Type 0} (p : X → Bool) (xs : List X) (i : ℕ) (d : X) → i < length xs → p (get_or xs i d) ≡ true → list_any p xs ≡ true
some_any p [] i d within is = absurd (omega arith)
some_any p (x ∷ xs) zero d within is = rw is refl
some_any p (x ∷ xs) (suc i) d within is = by (p x) (some_any p xs i d (omega arith) is)
  where
    by : (b : Bool) → list_any p xs ≡ true → (b || list_any p xs) ≡ true
    by true rest = refl
    by false rest = rest

-- bytes with the byte at a place are cut there
pub cut_at-Some : (byte : ℕ) (xs : List ℕ) (i : ℕ) → position (λ b. b == byte) xs ≡ Some i → (cut_at byte xs).after ≡ Some (drop (i + 1) xs)
cut_at-Some byte xs i some =
    let at = position-Some (λ b. b == byte) xs i 0 some in
    let any : list_any (λ b. b == byte) xs ≡ true = some_any (λ b. b == byte) xs i 0 at.0 at.1 in
    let place : position_or_len (λ b. b == byte) xs ≡ i = by (nat_lt (position_or_len (λ b. b == byte) xs) (length xs)) some in
    rw (any, place) refl
  where
    by : (b : Bool) → cond b (Some (position_or_len (λ b. b == byte) xs)) None ≡ Some i → position_or_len (λ b. b == byte) xs ≡ i
    by true h = cc
    by false h = cc

-- and those without it are not
pub cut_at-None : (byte : ℕ) (xs : List ℕ) → position (λ b. b == byte) xs ≡ None → (cut_at byte xs).after ≡ None
cut_at-None byte xs none = rw (none_any (λ b. b == byte) xs (none-position (λ b. b == byte) xs none)) refl

-- what stands before a cut
pub cut_at-first : (byte : ℕ) (xs : List ℕ) (i : ℕ) → position (λ b. b == byte) xs ≡ Some i → (cut_at byte xs).before ≡ take i xs
cut_at-first byte xs i some = ap (λ n. take n xs) (by (nat_lt (position_or_len (λ b. b == byte) xs) (length xs)) some)
  where
    by : (b : Bool) → cond b (Some (position_or_len (λ b. b == byte) xs)) None ≡ Some i → position_or_len (λ b. b == byte) xs ≡ i
    by true h = cc
    by false h = cc

-- and where there is none all stands before it
pub cut_at-whole : (byte : ℕ) (xs : List ℕ) → position (λ b. b == byte) xs ≡ None → (cut_at byte xs).before ≡ xs
cut_at-whole byte xs none = by (nat_lt (position_or_len (λ b. b == byte) xs) (length xs)) refl none
  where
    by : (b : Bool) → nat_lt (position_or_len (λ b. b == byte) xs) (length xs) ≡ b → cond b (Some (position_or_len (λ b. b == byte) xs)) None ≡ None → take (position_or_len (λ b. b == byte) xs) xs ≡ xs
    by true is h = cc
    by false is h = take_all (position_or_len (λ b. b == byte) xs) xs (grind (arith, nat_tests))
