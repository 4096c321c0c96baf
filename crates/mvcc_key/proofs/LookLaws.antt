-- Halving a range takes one binary digit off its length.
use Rattle.std.proofs.Common.{◌≡◌, ℕ, zero, suc, ◌+◌, ◌/◌, ◌^◌, ◌<◌, ◌≤◌, length, refl, arith, pow-suc, add-one}
use Rattle.std.specs.Int.Digits.{digits_of}
use Rattle.std.proofs.lemmas.Int.Digits.{length-digits_of-le, length-digits_of_step}
use Rattle.mvcc_key.specs.views.Looks.{bits}

-- a number is below the power of its number of digits
below_power : (fuel n : ℕ) → n < fuel → n < 2 ^ length (digits_of 2 n)
below_power zero n h = omega arith
below_power (suc fuel) zero h = grind arith
below_power (suc fuel) (suc n) h =
    let two : 2 ≤ 2 = omega arith in
    let some : 0 < suc n = omega arith in
    let rest = below_power fuel (suc n / 2) (omega arith) in
    rw (length-digits_of_step 2 (suc n) two some) (rw (add-one, pow-suc) (omega (arith, rest)))

-- 0 has no digits
pub bits-zero : bits 0 ≡ 0
unfolding bits
bits-zero = refl

-- a smaller number has no more digits
pub bits-le : (m n : ℕ) → m ≤ n → bits m ≤ bits n
unfolding bits
bits-le m n le =
    let two : 2 ≤ 2 = omega arith in
    let power : n < 2 ^ length (digits_of 2 n) = below_power (n + 1) n (omega arith) in
    let under : m < 2 ^ length (digits_of 2 n) = omega arith in
    length-digits_of-le 2 (length (digits_of 2 n)) m two under

-- what is left of a range after a halving has one digit less
pub bits-half : (size rest : ℕ) → 0 < size → rest ≤ size / 2 → bits rest + 1 ≤ bits size
unfolding bits
bits-half size rest some half =
    let two : 2 ≤ 2 = omega arith in
    let power : size / 2 < 2 ^ length (digits_of 2 (size / 2)) = below_power (size / 2 + 1) (size / 2) (omega arith) in
    let under : rest < 2 ^ length (digits_of 2 (size / 2)) = omega arith in
    let short : length (digits_of 2 rest) ≤ length (digits_of 2 (size / 2)) = length-digits_of-le 2 _ rest two under in
    rw (length-digits_of_step 2 size two some) (omega arith)
