-- Changes of statistics as the code holds them.
use Rattle.std.specs.Prelude.{◌≡◌, ℤ, ◌+ℤ◌, FitsSigned}
use Rattle.std.specs.Int.{w128}
use Rattle.std.proofs.Common.{sym, subst, ◌∙◌, arith}
use Rattle.std.proofs.lemmas.Int.{ints, to_z-of_z}
use Rattle.stat_core.specs.views.Counters.{IsWithin}
use mir.Val.{to_z, of_z}

-- a change within 2^121 fits
pub within-fits : (z : ℤ) → IsWithin 121 z → FitsSigned w128 z
within-fits z w = let low = w.low in let high = w.high in omega (arith, ints)

-- and is held as it is
pub within-held : (z : ℤ) → IsWithin 121 z → IsWithin 121 (to_z w128 (of_z w128 z))
within-held z w = subst (IsWithin 121) (sym (to_z-of_z w128 z (within-fits z w))) w

-- so is a sum of two
pub sum-held : (r a b : ℤ) → IsWithin 121 r → IsWithin 121 a → IsWithin 121 b → r ≡ to_z w128 (of_z w128 a) +ℤ to_z w128 (of_z w128 b) → to_z w128 (of_z w128 r) ≡ a +ℤ b
sum-held r a b p q h e = to_z-of_z w128 r (within-fits r p) ∙ e ∙ (λ i. to_z-of_z w128 a (within-fits a q) i +ℤ to_z-of_z w128 b (within-fits b h) i)
