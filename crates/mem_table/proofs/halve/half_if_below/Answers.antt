use Rattle.std.proofs.Common.{◌≡◌, ℕ, ◌+◌, ◌-◌, ◌<◌, ◌≤◌, ◌/◌, ◌%◌, ◌^◌, Bool, true, false, cond, nat_lt, bit_and, refl, ap, ◌∙◌, arith}
use Rattle.std.proofs.lemmas.Nat.{and_comm, and_mask}
use Rattle.std.specs.Int.Bits.{and_zero_l}
use Rattle.std.proofs.lemmas.Bool.{ltb-true, ltb-false}
use Rattle.std.proofs.Math.Nat.{mod-eq_of_lt}
use Rattle.mem_table.proofs.halve.half_if_below.Goals as goal

-- the borrow of a subtraction is all ones, or nothing
borrowed : (a b : ℕ) → b < 2 ^ 64 → a < b → (a + (2 ^ 128 - b)) % 2 ^ 128 / 2 ^ 64 ≡ 2 ^ 64 - 1
borrowed a b fits lt = omega arith

not_borrowed : (a b : ℕ) → a < 2 ^ 64 → b ≤ a → (a + (2 ^ 128 - b)) % 2 ^ 128 / 2 ^ 64 ≡ 0
not_borrowed a b fits le = omega arith

masked : (a b h : ℕ) → a < 2 ^ 64 → b < 2 ^ 64 → h < 2 ^ 64 → bit_and ((a + (2 ^ 128 - b)) % 2 ^ 128 / 2 ^ 64) h ≡ cond (nat_lt a b) h 0
masked a b h a_fits b_fits h_fits = by (nat_lt a b) refl
  where
    by : (t : Bool) → nat_lt a b ≡ t → bit_and ((a + (2 ^ 128 - b)) % 2 ^ 128 / 2 ^ 64) h ≡ cond t h 0
    by true is = ap (λ (n : ℕ). bit_and n h) (borrowed a b b_fits (ltb-true a b is)) ∙ and_comm (2 ^ 64 - 1) h ∙ and_mask h 64 ∙ mod-eq_of_lt h_fits
    by false is = ap (λ (n : ℕ). bit_and n h) (not_borrowed a b a_fits (ltb-false a b is)) ∙ and_zero_l h

pub returns : goal.returns
returns c = rw (c.from.ensures, c.from-2.ensures) (masked c.args.stored c.args.abbreviated c.args.half c.ranges.stored.fits c.ranges.abbreviated.fits c.ranges.half.fits)
