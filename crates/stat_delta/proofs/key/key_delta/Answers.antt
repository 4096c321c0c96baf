use Rattle.std.specs.Prelude.{◌≡◌, ◌≤◌, ◌^◌, ℕ, ℤ, pos, ◌-ℤ◌}
use Rattle.std.proofs.Common.{sym, ◌∙◌, arith}
use Rattle.std.proofs.lemmas.Int.{ints}
use Rattle.stat_core.specs.views.Counters.{IsWithin}
use Rattle.stat_core.proofs.GroupLaws.{difference-fits}
use Rattle.stat_delta.specs.Shapes.{key_change}
use Rattle.stat_delta.proofs.TopLaws.{stored_change-top}
use Rattle.stat_delta.proofs.key.key_delta.Goals as goal

pub difference-requires : goal.difference-requires
difference-requires c f =
    difference-fits _ _ _ _ (c.stats_of.ensures.sums f) (c.stats_of-before.ensures.sums f) (c.stats_of.ensures.within f) (c.stats_of-before.ensures.within f)

pub returns-clause-stored : goal.returns-clause-stored
returns-clause-stored c h h' fs key new new' rest valid valid' same is is' before after f =
    c.difference.ensures f ∙ (λ i. c.stats_of.ensures.sums f i -ℤ c.stats_of-before.ensures.sums f i)
    ∙ (λ i. key_change c.args.now (before i) (after i) f)
    ∙ sym (stored_change-top c.args.now h h' fs key new new' rest f valid valid' same is is')

-- the difference of two numbers that are not negative and small
small : (z a b : ℤ) (m n : ℕ) → z ≡ a -ℤ b → a ≡ pos m → b ≡ pos n → m ≤ 2 ^ 121 → n ≤ 2 ^ 121 → IsWithin 121 z
small z a b m n is p q few few' = record { low = omega (arith, ints); high = omega (arith, ints) }

pub returns-clause-within : goal.returns-clause-within
returns-clause-within c f =
    small _ _ _ _ _ (c.difference.ensures f) (c.stats_of.ensures.sums f) (c.stats_of-before.ensures.sums f) (c.stats_of.ensures.within f) (c.stats_of-before.ensures.within f)
