-- Signed numbers as the code holds them.
use Rattle.std.specs.Prelude.{◌≡◌, ℕ, ◌<◌, ◌^◌, ℤ, pos, ◌-ℤ◌, FitsSigned}
use Rattle.std.specs.Int.{w128}
use Rattle.std.proofs.Common.{◌∙◌, arith}
use Rattle.std.proofs.lemmas.Int.{ints, to_z-of_z}
use mir.Val.{to_z, of_z}

-- a difference of held numbers fits where that of the numbers does
pub difference-fits : (a b : ℤ) → FitsSigned w128 a → FitsSigned w128 b → FitsSigned w128 (a -ℤ b)
    → FitsSigned w128 (to_z w128 (of_z w128 a) -ℤ to_z w128 (of_z w128 b))
difference-fits a b p q h = rw (to_z-of_z w128 a p, to_z-of_z w128 b q) h

-- and is held as it is
pub difference-held : (r a b : ℤ) → FitsSigned w128 r → FitsSigned w128 a → FitsSigned w128 b
    → r ≡ to_z w128 (of_z w128 a) -ℤ to_z w128 (of_z w128 b) → to_z w128 (of_z w128 r) ≡ a -ℤ b
difference-held r a b p q h e = to_z-of_z w128 r p ∙ e ∙ (λ i. to_z-of_z w128 a q i -ℤ to_z-of_z w128 b h i)

-- a count with its sign is held as it is
pub signed-held : (r : ℤ) (a n : ℕ) → r ≡ pos a → a ≡ n → a < 2 ^ 127 → to_z w128 (of_z w128 r) ≡ pos n
signed-held r a n e f h = omega (arith, ints)
