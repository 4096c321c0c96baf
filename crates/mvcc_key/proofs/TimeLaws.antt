-- Timestamps before others and up to them.
use Rattle.std.specs.Prelude.{◌≡◌, Bool, true, false, cond}
use Rattle.std.specs.declared.cmp.Ordering.{Ordering}
use Rattle.std.specs.declared.cmp.Ordering.TheVariants.{Less, Equal, Greater}
use Rattle.std.specs.Ordering.{is_lt, is_le, ordering_reverse}
use Rattle.std.specs.Cmp.{tied_itself}
use Rattle.std.proofs.Common.{refl, sym, ap, subst, ◌∙◌, arith}
use Rattle.std.proofs.lemmas.Bool.Decides.{nat_tests}
use Rattle.mvcc_key.specs.Order.{Timestamp, is_before, is_up_to, time_cmp, is_in_range, is_same_time, is_no_time, later}
use Rattle.mvcc_key.proofs.OrderLaws.{time_cmp-total, time_cmp-IsAntisymmetric, not_up_to-before}

-- what a test of an order says
pub less_from : (o : Ordering) → is_lt o ≡ true → o ≡ Less
less_from Less h = refl
less_from Equal h = absurd cc
less_from Greater h = absurd cc

-- the order of timestamps says it too
pub before_less : (a b : Timestamp) → is_before a b ≡ true → time_cmp a b ≡ Less
before_less a b h = less_from (time_cmp a b) h

-- what is before another is up to it
pub before_up_to : (a b : Timestamp) → is_before a b ≡ true → is_up_to a b ≡ true
before_up_to a b h = ap is_le (before_less a b h)

-- each timestamp is up to itself
pub up_to_itself : (a : Timestamp) → is_up_to a a ≡ true
up_to_itself a = ap is_le (tied_itself time_cmp-total a)

-- of two timestamps the one is before the other, or the other is up to it
pub not_up_to : (a b : Timestamp) → is_up_to a b ≡ false → is_before b a ≡ true
not_up_to a b h = ap is_lt (time_cmp-total.antisymm b a) ∙ by (time_cmp a b) h
  where
    by : (o : Ordering) → is_le o ≡ false → is_lt (ordering_reverse o) ≡ true
    by Less h = cc
    by Equal h = cc
    by Greater h = refl

-- and the other way round
pub not_before : (a b : Timestamp) → is_before a b ≡ false → is_up_to b a ≡ true
not_before a b h = ap is_le (time_cmp-total.antisymm b a) ∙ by (time_cmp a b) h
  where
    by : (o : Ordering) → is_lt o ≡ false → is_le (ordering_reverse o) ≡ true
    by Less h = cc
    by Equal h = refl
    by Greater h = refl

-- a is before b and b is up to c
pub before_along : (a b c : Timestamp) → is_before a b ≡ true → is_up_to b c ≡ true → is_before a c ≡ true
before_along a b c h k = by (time_cmp b c) refl k
  where
    by : (o : Ordering) → time_cmp b c ≡ o → is_le o ≡ true → is_before a c ≡ true
    by Less e k = ap is_lt (time_cmp-total.trans a b c (before_less a b h) e)
    by Equal e k = subst (λ x. is_before a x ≡ true) (time_cmp-IsAntisymmetric b c e) h
    by Greater e k = cc

-- a is up to b and b is up to c
pub up_to_along : (a b c : Timestamp) → is_up_to a b ≡ true → is_up_to b c ≡ true → is_up_to a c ≡ true
up_to_along a b c h k = by (time_cmp a b) refl h
  where
    by : (o : Ordering) → time_cmp a b ≡ o → is_le o ≡ true → is_up_to a c ≡ true
    by Less e h = before_up_to a c (before_along a b c (ap is_lt e) k)
    by Equal e h = subst (λ x. is_up_to x c ≡ true) (sym (time_cmp-IsAntisymmetric a b e)) k
    by Greater e h = cc

-- what is up to another does not have it before
pub up_to_not_before : (a b : Timestamp) → is_up_to a b ≡ true → is_before b a ≡ false
up_to_not_before a b h = by (is_before b a) refl
  where
    by : (t : Bool) → is_before b a ≡ t → t ≡ false
    by false e = refl
    by true e = let f : false ≡ true = sym (not_up_to-before b a e) ∙ h in cc

-- so of two timestamps one alone is before the other
pub never_before : (a b : Timestamp) → is_before a b ≡ true → is_before b a ≡ false
never_before a b h = up_to_not_before a b (before_up_to a b h)

-- of two timestamps the first is up to the later one
pub up_to_later_first : (s t : Timestamp) → is_up_to s (later s t) ≡ true
up_to_later_first s t = grind (arith, nat_tests)

-- and so is the second
pub up_to_later_second : (s t : Timestamp) → is_up_to t (later s t) ≡ true
up_to_later_second s t = grind (arith, nat_tests)

-- the later of two timestamps in range is in range
pub later_in_range : (s t : Timestamp) → is_in_range s ≡ true → is_in_range t ≡ true → is_in_range (later s t) ≡ true
later_in_range s t a b = by (is_before s t)
  where
    by : (c : Bool) → is_in_range (cond c t s) ≡ true
    by true = b
    by false = a

-- what a timestamp is up to is one
pub up_to_timed : (s t : Timestamp) → is_up_to s t ≡ true → is_no_time s ≡ false → is_no_time t ≡ false
up_to_timed s t h timed = grind (arith, nat_tests)

-- an earlier timestamp is another
pub before_differs : (s t : Timestamp) → is_before s t ≡ true → is_same_time s t ≡ false
before_differs s t h = grind (arith, nat_tests)

-- a timestamp that is not up to another differs from it
pub not_up_to-differs : (s t : Timestamp) → is_up_to s t ≡ false → is_same_time s t ≡ false
not_up_to-differs s t h = grind (arith, nat_tests)

-- the same with the two the other way round
pub not_up_to-differs_back : (s t : Timestamp) → is_up_to s t ≡ false → is_same_time t s ≡ false
not_up_to-differs_back s t h = grind (arith, nat_tests)
