-- More digits write no smaller number.
use Rattle.std.proofs.Common.{◌≡◌, ℕ, ◌+◌, ◌-◌, ◌*◌, ◌<◌, ◌≤◌, List, [], ◌∷◌, ◌++◌, take, drop, refl, subst, arith, fold, None, Some, Bool, true, false}
use Rattle.std.proofs.lemmas.List.{take-append-drop}
use Rattle.std.specs.Prelude.{nat_le, ◌&&◌, if◌then◌else◌}
use Rattle.std.proofs.lemmas.Bool.Decides.{nat_tests}
use Rattle.script_words.specs.Forms.{digits_value, is_number, number_up_to}

abbrev step : ℕ → ℕ → ℕ
step v d = 10 * v + (d - 48)

grows : (v : ℕ) (xs : List ℕ) → v ≤ fold step v xs
grows v [] = omega arith
grows v (x ∷ xs) = omega (arith, grows (10 * v + (x - 48)) xs)

fold-append : (v : ℕ) (xs ys : List ℕ) → fold step v (xs ++ ys) ≡ fold step (fold step v xs) ys
fold-append v [] ys = refl
fold-append v (x ∷ xs) ys = fold-append (10 * v + (x - 48)) xs ys

pub value-take-le : (xs : List ℕ) (i : ℕ) → digits_value (take i xs) ≤ digits_value xs
value-take-le xs i = subst (λ (l : List ℕ). digits_value (take i xs) ≤ digits_value l) (take-append-drop i xs)
    (rw (fold-append 0 (take i xs) (drop i xs)) (grows (digits_value (take i xs)) (drop i xs)))

pub none-above : (limit : ℕ) (digits : List ℕ) → limit < digits_value digits → None ≡ number_up_to limit digits
unfolding number_up_to
none-above limit digits big =
    let over : nat_le (digits_value digits) limit ≡ false = grind (arith, nat_tests) in
    by (is_number digits) (nat_le (digits_value digits) limit) over
  where
    by : (b d : Bool) → d ≡ false → None ≡ (if b && d then Some (digits_value digits) else None)
    by false d e = refl
    by true d e = rw e refl
