use Rattle.std.specs.Prelude.{◌≡◌, ℕ, ℤ, pos, negsuc, ◌+ℤ◌, ◌-ℤ◌, ◌≤ℤ◌}
use Rattle.std.proofs.Common.{refl, sym, ◌∙◌, ap, subst, arith}
use Rattle.std.proofs.lemmas.Int.{ints}
use Rattle.stat_core.specs.ComputeStats.{field}
use Rattle.stat_core.specs.Running.{Running}
use Rattle.stat_core.specs.views.Seen.{number}
use Rattle.stat_core.specs.Settling.{NoDebt, raised_number, lowered_number, whole, raised}
use Rattle.stat_core.specs.declared.group.Group.{Group}
use Rattle.stat_core.proofs.CounterLaws.{field-whole_sums}
use Rattle.stat_core.proofs.tests.what_was_added_is_taken_away.Goals as goal

whole_is : (z : ℤ) → pos 0 ≤ℤ z → pos (whole z) ≡ z
whole_is (pos n) h = refl
whole_is (negsuc n) h = absurd (omega (arith, ints, h))

-- a group that was added may be taken away
lowered_number-raised : (s : Running) (group : Group) → NoDebt (raised_number s group) → NoDebt (lowered_number (raised s group) group)
unfolding raised
lowered_number-raised s group none f =
    by (pos (field f s.sums)) (number f group) (pos (field f (raised s group).sums)) (ap (λ n. pos n) (field-whole_sums (raised_number s group) f) ∙ whole_is (raised_number s group f) (none f)) (omega (arith, ints))
  where
    by : (c n z : ℤ) → z ≡ c +ℤ n → pos 0 ≤ℤ c → pos 0 ≤ℤ (z -ℤ n)
    by c n z e h = omega (arith, ints)

positive : (n : ℕ) (z : ℤ) → pos 0 ≤ℤ z → pos 0 ≤ℤ (pos n +ℤ z)
positive n z h = omega (arith, ints)

pub sub-requires : goal.sub-requires
sub-requires g c =
    subst (λ (s : Running). NoDebt (lowered_number s c.one_live-one.result)) (sym c.in_ok-add.ensures.ok)
    (lowered_number-raised c.new-stats.result c.one_live-one.result
    (λ f. positive (field f c.new-stats.result.sums) (number f c.one_live-one.result) (c.one_live-one.ensures f)))
