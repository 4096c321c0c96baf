-- The lines of a script, from the front, and its whole lines, from the back.
use Rattle.std.specs.Prelude.{◌≡◌, ℕ, ◌+◌, ◌<◌, Bool, true, false, List, [], ◌∷◌, ◌++◌, length, take, drop, position, ◌==◌, Option, Some, None}
use Rattle.std.specs.List.{position_or_len}
use Rattle.std.proofs.Common.{refl, sym, ap, ◌∙◌, arith, ⊎_elim}
use Rattle.std.proofs.lemmas.Bool.{cases_lt, false≢true}
use Rattle.std.proofs.lemmas.Grind.{common_steps}
use Rattle.std.proofs.lemmas.List.Sums.{passes_at_first, fails_before_first}
use Rattle.memchr.specs.Find.{IsFirstByte}
use Rattle.mvcc_key.specs.Cutting.{pieces}
use Rattle.mvcc_key.proofs.CuttingLaws.{pieces_some}
use Rattle.script_run.specs.Output.{lines, without_empty_end, up_to_newline, whole_part, without_return}
use Rattle.script_words.proofs.CutLaws.{pieces-cut, pieces-uncut}

abbrev is_newline : ℕ → Bool
is_newline b = b == 0x0a

first_kept : (l : List ℕ) (ps : List (List ℕ)) (p : List ℕ) (rest : List (List ℕ)) → ps ≡ p ∷ rest → without_empty_end (l ∷ ps) ≡ l ∷ without_empty_end ps
first_kept l ps p rest is = rw is refl

-- a line that ends in a newline, and the lines behind it
pub lines-cut : (xs : List ℕ) (i : ℕ) → position (λ b. b == 0x0a) xs ≡ Some i → lines xs ≡ take i xs ∷ lines (drop (i + 1) xs)
unfolding lines
lines-cut xs i at =
    let some = pieces_some is_newline (drop (i + 1) xs) in
    ap without_empty_end (pieces-cut is_newline xs i at) ∙ first_kept (take i xs) (pieces is_newline (drop (i + 1) xs)) some.0 some.1 some.2

-- a last line without a newline
pub lines-uncut : (xs rest : List ℕ) → position (λ b. b == 0x0a) xs ≡ None → 0 < length xs → rest ≡ [] → lines xs ≡ xs ∷ lines rest
unfolding lines
lines-uncut xs rest none some is = ap without_empty_end (pieces-uncut is_newline xs none) ∙ by xs some ∙ ap (λ l. xs ∷ without_empty_end (pieces is_newline l)) (sym is)
  where
    by : (ys : List ℕ) → 0 < length ys → without_empty_end (ys ∷ []) ≡ ys ∷ []
    by [] h = absurd (omega arith)
    by (y ∷ ys) h = refl

pub up_to-more : (x : ℕ) (xs : List ℕ) (b : ℕ) → up_to_newline x (xs ++ b ∷ []) ≡ x ∷ (xs ++ b ∷ [])
up_to-more x [] b = refl
up_to-more x (y ∷ ys) b = refl

-- a newline at the end is kept, with all before it
pub whole_part-newline : (xs : List ℕ) (b : ℕ) → (b == 0x0a) ≡ true → whole_part (xs ++ b ∷ []) ≡ xs ++ b ∷ []
unfolding whole_part
whole_part-newline [] b is = rw is refl
whole_part-newline (x ∷ xs) b is = ap (up_to_newline x) (whole_part-newline xs b is) ∙ up_to-more x xs b

-- any other byte at the end is left out
pub whole_part-other : (xs : List ℕ) (b : ℕ) → (b == 0x0a) ≡ false → whole_part (xs ++ b ∷ []) ≡ whole_part xs
unfolding whole_part
whole_part-other [] b is = rw is refl
whole_part-other (x ∷ xs) b is = ap (up_to_newline x) (whole_part-other xs b is)

-- a carriage return at the end is dropped
pub without_return-return : (xs : List ℕ) (b : ℕ) → (b == 0x0d) ≡ true → without_return (xs ++ b ∷ []) ≡ xs
unfolding without_return
without_return-return [] b is = rw is refl
without_return-return (x ∷ []) b is = rw is refl
without_return-return (x ∷ y ∷ xs) b is = ap (λ l. x ∷ l) (without_return-return (y ∷ xs) b is)

-- any other byte at the end is kept
pub without_return-other : (xs : List ℕ) (b : ℕ) → (b == 0x0d) ≡ false → without_return (xs ++ b ∷ []) ≡ xs ++ b ∷ []
unfolding without_return
without_return-other [] b is = rw is refl
without_return-other (x ∷ []) b is = rw is refl
without_return-other (x ∷ y ∷ xs) b is = ap (λ l. x ∷ l) (without_return-other (y ∷ xs) b is)

-- what a search for a byte answers is the place of the first that passes the test
module _ (test : ℕ → Bool) (xs : List ℕ) where
  pub first-position : (r : Option ℕ) → IsFirstByte test xs r → r ≡ position test xs
  first-position None none =
      ⊎_elim (λ inside. absurd (none (position_or_len test xs) (omega arith) inside (passes_at_first test xs 0 inside)))
      (λ outside. grind (arith, common_steps))
      (cases_lt (position_or_len test xs) (length xs))
  first-position (Some k) at =
      let high = at.0.high in
      ⊎_elim (λ before. absurd (at.0.before (position_or_len test xs) (omega arith) before (passes_at_first test xs 0 (omega (arith, high)))))
      (λ from. ⊎_elim (λ behind. absurd (false≢true (sym (fails_before_first test xs k 0 behind) ∙ at.1)))
      (λ upto. let same : position_or_len test xs ≡ k = omega (arith, from, upto) in grind (arith, common_steps, same, high))
      (cases_lt k (position_or_len test xs)))
      (cases_lt (position_or_len test xs) k)
