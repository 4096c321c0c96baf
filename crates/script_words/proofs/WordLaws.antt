-- The words of a line: where they stand, and what is found among them.
use Rattle.std.specs.Prelude.{◌≡◌, ℕ, ◌+◌, ◌<◌, ◌≤◌, Bool, true, false, not, List, [], ◌∷◌, length, take, drop, position, Some, None}
use Rattle.std.specs.List.{AllByRecursion}
use Rattle.std.proofs.Common.{zero, suc, refl, sym, subst, arith, get_or}
use Rattle.std.proofs.lemmas.Bool.{not-true, not-false}
use Rattle.std.proofs.lemmas.List.Quantifiers.{position-Some}
use Rattle.mvcc_key.specs.Lists.{is_empty}
use Rattle.script_words.specs.Words.{is_blank, words}
use Rattle.script_words.proofs.CutLaws.{none-position, pieces-cut, pieces-uncut}

words_from : (xs : List ℕ) (i : ℕ) → i ≤ length xs → ((k : ℕ) → k < i → not (is_blank (get_or xs k 0)) ≡ false) → words xs ≡ words (drop i xs)
unfolding words
words_from xs zero low blank = refl
words_from [] (suc i) low blank = absurd (omega arith)
words_from (x ∷ xs) (suc i) low blank =
    let first : is_blank x ≡ true = not-false (is_blank x) (blank 0 (omega arith)) in
    rw first (words_from xs i (omega arith) (λ k less. blank (suc k) (omega arith)))

-- blanks before a word count for nothing
pub words-blanks : (xs : List ℕ) (i : ℕ) → position (λ b. not (is_blank b)) xs ≡ Some i → words xs ≡ words (drop i xs)
words-blanks xs i some =
    let at = position-Some (λ b. not (is_blank b)) xs i 0 some in
    words_from xs i (omega (arith, at.0)) at.2

not_not : (b : Bool) → not (not b) ≡ true → b ≡ true
not_not true h = refl
not_not false h = cc

all_blank : (ys : List ℕ) → AllByRecursion (λ b. not (not (is_blank b)) ≡ true) ys → words ys ≡ []
unfolding words
all_blank [] blank = refl
all_blank (y ∷ ys) blank = rw (not_not (is_blank y) blank.0) (all_blank ys blank.1)

-- blanks alone have no word
pub words-none : (xs : List ℕ) → position (λ b. not (is_blank b)) xs ≡ None → words xs ≡ []
words-none xs none = all_blank xs (none-position (λ b. not (is_blank b)) xs none)

-- what begins at a word has a first byte, and that is no blank
unfoldable pub BeginsWord : List ℕ → Type 0
BeginsWord xs = (x : ℕ) × (ys : List ℕ) × (xs ≡ x ∷ ys) × (is_blank x ≡ false)

drop-at : (xs : List ℕ) (i : ℕ) → i < length xs → (ys : List ℕ) × (drop i xs ≡ get_or xs i 0 ∷ ys)
drop-at [] i within = absurd (omega arith)
drop-at (x ∷ xs) zero within = (xs, refl)
drop-at (x ∷ xs) (suc i) within = drop-at xs i (omega arith)

pub begins-word : (xs : List ℕ) (i : ℕ) → position (λ b. not (is_blank b)) xs ≡ Some i → BeginsWord (drop i xs)
unfolding BeginsWord
begins-word xs i some =
    let at = position-Some (λ b. not (is_blank b)) xs i 0 some in
    let rest = drop-at xs i at.0 in
    (get_or xs i 0, rest.0, rest.1, not-true (is_blank (get_or xs i 0)) at.1)

not_empty : (x : ℕ) (ys : List ℕ) (i : ℕ) → is_blank x ≡ false → is_blank (get_or (x ∷ ys) i 0) ≡ true → not (is_empty (take i (x ∷ ys))) ≡ true
not_empty x ys zero plain blank = cc
not_empty x ys (suc i) plain blank = refl

-- a word up to a blank, and the words behind it
pub words-cut : (xs : List ℕ) (i : ℕ) → BeginsWord xs → position is_blank xs ≡ Some i → words xs ≡ take i xs ∷ words (drop (i + 1) xs)
unfolding words BeginsWord
words-cut xs i word some =
    let at = position-Some is_blank xs i 0 some in
    let first : is_blank (get_or (word.0 ∷ word.1) i 0) ≡ true = subst (λ l. is_blank (get_or l i 0) ≡ true) word.2 at.1 in
    let some_front : not (is_empty (take i xs)) ≡ true = subst (λ l. not (is_empty (take i l)) ≡ true) (sym word.2) (not_empty word.0 word.1 i word.3 first) in
    rw (pieces-cut is_blank xs i some) (rw some_front refl)

-- a word up to the end
pub words-uncut : (xs rest : List ℕ) → BeginsWord xs → position is_blank xs ≡ None → rest ≡ [] → words xs ≡ xs ∷ words rest
unfolding words BeginsWord
words-uncut xs rest word none is =
    let some_word : not (is_empty xs) ≡ true = rw word.2 refl in
    rw (pieces-uncut is_blank xs none, is) (rw some_word refl)
