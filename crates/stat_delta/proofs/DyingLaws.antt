-- How many keys die under a tombstone that comes above them, and what that changes.
use Rattle.std.specs.Prelude.{◌≡◌, ℕ, ◌+◌, ◌*◌, pos, ◌+ℤ◌, ◌-ℤ◌, Bool, true, false, not, ◌&&◌, cond, List, [], ◌∷◌, filter, length, Some, None, if◌then◌else◌}
use Rattle.std.specs.declared.cmp.Ordering.TheVariants.{Less}
use Rattle.std.specs.List.{AllByRecursion}
use Rattle.std.specs.List.Sorted.{IsStrictlySortedBy}
use Rattle.std.proofs.Common.{refl, sym, ap, subst, ◌∙◌, arith, zero-add, add_assoc}
use Rattle.std.proofs.Math.Nat.{zero-mul}
use Rattle.std.proofs.lemmas.Int.{ints}
use Rattle.mvcc_key.specs.Lists.{last}
use Rattle.mvcc_key.specs.Order.{Timestamp, newer_first, is_before, is_within}
use Rattle.mvcc_key.specs.Fragments.{joined, stack_at}
use Rattle.mvcc_key.specs.Pieces.{added_pieces}
use Rattle.mvcc_key.specs.Field.{Field, KeyCount, KeyBytes, ValCount, ValBytes, LiveCount, LiveBytes, IntentCount, IntentBytes, IntentAge, GcBytesAge, RangeKeyCount, RangeKeyBytes, RangeValCount, RangeValBytes}
use Rattle.mvcc_key.proofs.CanonicalLaws.{tombstones_over-sorted}
use Rattle.mvcc_key.proofs.StackLaws.{stack_at-fragments}
use Rattle.mvcc_key.proofs.EachLaws.{All-weaker}
use Rattle.stat_core.specs.DeadSince.{VersionShape, least_above, dead_since}
use Rattle.stat_core.specs.ComputeStats.{no_sums, age, difference}
use Rattle.stat_delta.specs.Laws.{newest_shape}
use Rattle.stat_delta.specs.SpanChanges.{changes_over, fragments_change, change_by_death, change_by_tombstone}
use Rattle.stat_delta.specs.Dying.{is_covered_at, newest_lives, Dying, none_dying, ◌⊎+◌, dying_key, dying_among, change_by_dying, DyingInTwo, TombstoneKills, TombstoneComesOverKeys, IsFew, FewDie, OneDies}
use Rattle.stat_delta.proofs.ChangesOverLaws.{difference-itself, changes_over-same}
use Rattle.stat_delta.proofs.WindowLaws.{before_newer}
use Rattle.stat_delta.proofs.SpanTombstoneLaws.{stack_at-middle, history_change-covered}

-- ---- one key

-- of a stack that is newest first nothing is above a timestamp that its newest is not above
nothing_above : (ts : Timestamp) (stack : List Timestamp) → IsStrictlySortedBy newer_first stack → is_covered_at stack ts ≡ false
    → filter (is_before ts) stack ≡ []
unfolding IsStrictlySortedBy
nothing_above ts [] sorted low = refl
nothing_above ts (s ∷ ss) sorted low = rw low (rest ss sorted.0)
  where
    lower : (r : Timestamp) → newer_first s r ≡ Less → is_before ts r ≡ false
    lower r newer = by (is_before ts r) refl
      where
        by : (b : Bool) → is_before ts r ≡ b → b ≡ false
        by true e = let clash : is_before ts s ≡ true = before_newer ts r s e newer in cc
        by false e = refl

    rest : (rs : List Timestamp) → AllByRecursion (λ r. newer_first s r ≡ Less) rs → filter (is_before ts) rs ≡ []
    rest [] all = refl
    rest (r ∷ rs) all = rw (lower r all.0) (rest rs all.1)

-- under such a stack the newest version is garbage or it lives
dead_since-lives : (now bytes : ℕ) (stack : List Timestamp) (ts : Timestamp) (v : VersionShape) (f : Field) → IsStrictlySortedBy newer_first stack
    → change_by_death now bytes ts (dead_since None stack v) f ≡ cond (newest_lives stack v) (change_by_death now bytes ts None f) (pos 0)
unfolding dead_since
dead_since-lives now bytes stack ts v f sorted = by v.deletion (is_covered_at stack v.ts) refl
  where
    some : (above : Timestamp) (ss : List Timestamp) → change_by_death now bytes ts (last (above ∷ ss)) f ≡ pos 0
    some above [] = refl
    some above (s ∷ ss) = some s ss

    covered : (ss : List Timestamp) → is_covered_at ss v.ts ≡ true → change_by_death now bytes ts (least_above v.ts ss) f ≡ pos 0
    covered [] e = cc
    covered (s ∷ ss) e = rw e (some s (filter (is_before v.ts) ss))

    by : (deletion above : Bool) → is_covered_at stack v.ts ≡ above
        → change_by_death now bytes ts (if deletion then Some v.ts else least_above v.ts stack) f
        ≡ cond (not deletion && not above) (change_by_death now bytes ts None f) (pos 0)
    by true above e = refl
    by false true e = covered stack e
    by false false e = ap (λ ss. change_by_death now bytes ts (last ss) f) (nothing_above v.ts stack sorted e)

-- no key that dies changes nothing
dying-none : (now : ℕ) (ts : Timestamp) (f : Field) → pos 0 ≡ change_by_dying now ts none_dying f
dying-none now ts f = sym (difference-itself no_sums f) ∙ ap (λ x. difference no_sums (record no_sums { gc_bytes_age = x }) f) (sym (zero-mul (age now ts.wall)))

-- a tombstone above a key without an intent changes what its dying changes
pub change_by_tombstone-dying : TombstoneKills
change_by_tombstone-dying now key_length stack ts None f sorted = dying-none now ts f
change_by_tombstone-dying now key_length stack ts (Some v) f sorted =
    dead_since-lives now (key_length + 1 + (12 + v.value_length)) stack ts v f sorted ∙ by (newest_lives stack v)
  where
    by : (lives : Bool) → cond lives (change_by_death now (key_length + 1 + (12 + v.value_length)) ts None f) (pos 0)
        ≡ change_by_dying now ts (cond lives (record { count = 1; bytes = key_length + 1 + (12 + v.value_length) }) none_dying) f
    by true = refl
    by false = dying-none now ts f

-- ---- many keys

-- keys that die together change what they change one by one
change_by_dying-both : (now : ℕ) (ts : Timestamp) (d e : Dying) (f : Field) → change_by_dying now ts d f +ℤ change_by_dying now ts e f ≡ change_by_dying now ts (d ⊎+ e) f
change_by_dying-both now ts d e KeyCount = refl
change_by_dying-both now ts d e KeyBytes = refl
change_by_dying-both now ts d e ValCount = refl
change_by_dying-both now ts d e ValBytes = refl
change_by_dying-both now ts d e LiveCount = omega (arith, ints)
change_by_dying-both now ts d e LiveBytes = omega (arith, ints)
change_by_dying-both now ts d e IntentCount = refl
change_by_dying-both now ts d e IntentBytes = refl
change_by_dying-both now ts d e IntentAge = refl
change_by_dying-both now ts d e GcBytesAge = by d.bytes e.bytes (age now ts.wall)
  where
    by : (a b c : ℕ) → (pos (a * c) -ℤ pos 0) +ℤ (pos (b * c) -ℤ pos 0) ≡ pos ((a + b) * c) -ℤ pos 0
    by a b c = let split : (a + b) * c ≡ a * c + b * c = grind arith in omega (arith, ints, split)
change_by_dying-both now ts d e RangeKeyCount = refl
change_by_dying-both now ts d e RangeKeyBytes = refl
change_by_dying-both now ts d e RangeValCount = refl
change_by_dying-both now ts d e RangeValBytes = refl

-- what keys change one after another that die
changes_over-dying : {X : Type 0} (now : ℕ) (ts : Timestamp) (dying : X → Dying) (xs : List X) (f : Field)
    → changes_over (λ x. change_by_dying now ts (dying x)) xs f ≡ change_by_dying now ts (dying_among dying xs) f
changes_over-dying now ts dying [] f = dying-none now ts f
changes_over-dying now ts dying (x ∷ xs) f =
    ap (λ y. change_by_dying now ts (dying x) f +ℤ y) (changes_over-dying now ts dying xs f) ∙ change_by_dying-both now ts (dying x) (dying_among dying xs) f

-- keys that die so far, and those still to come
pub dying_among-append : {X : Type 0} → DyingInTwo X
dying_among-append dying [] ys = λ i. record { count = sym (zero-add (dying_among dying ys).count) i; bytes = sym (zero-add (dying_among dying ys).bytes) i }
dying_among-append dying (x ∷ xs) ys =
    ap (λ d. dying x ⊎+ d) (dying_among-append dying xs ys)
    ∙ λ i. record {
      count = sym (add_assoc (dying x).count (dying_among dying xs).count (dying_among dying ys).count) i;
      bytes = sym (add_assoc (dying x).bytes (dying_among dying xs).bytes (dying_among dying ys).bytes) i;
    }

-- a tombstone comes above everything in its span
pub history_change-dying : TombstoneComesOverKeys
history_change-dying now h t keys left mid right f valid span none above are have is ends starts =
    history_change-covered now h t keys left mid right f valid span none above are have is ends starts
    ∙ ap (λ x. x +ℤ fragments_change now mid (joined (added_pieces t mid)) f)
    (changes_over-same (λ key. change_by_tombstone now (length key) (stack_at mid key) t.ts (newest_shape key h))
    (λ key. change_by_dying now t.ts (dying_key (length key) (stack_at mid key) (newest_shape key h))) keys f
    (All-weaker (λ key. is_within t.start t.end key ≡ true)
    (λ key. change_by_tombstone now (length key) (stack_at mid key) t.ts (newest_shape key h) f
    ≡ change_by_dying now t.ts (dying_key (length key) (stack_at mid key) (newest_shape key h)) f) keys
    (λ key within. change_by_tombstone-dying now (length key) (stack_at mid key) t.ts (newest_shape key h) f
    (subst (IsStrictlySortedBy newer_first) (sym (stack_at-fragments h.tombstones key) ∙ stack_at-middle h.tombstones left mid right t.start t.end key is ends starts within)
    (tombstones_over-sorted h.tombstones key)))
    are.within)
    ∙ changes_over-dying now t.ts (λ key. dying_key (length key) (stack_at mid key) (newest_shape key h)) keys f)

-- a short key with a short newest version is one that dies at most
pub one_dies : OneDies
one_dies key_length stack None short short' = record { count = omega arith; bytes = omega arith }
one_dies key_length stack (Some v) short short' = by (newest_lives stack v)
  where
    by : (lives : Bool) → IsFew 1 (cond lives (record { count = 1; bytes = key_length + 1 + (12 + v.value_length) }) none_dying)
    by true = record { count = omega arith; bytes = omega (arith, short, short') }
    by false = record { count = omega arith; bytes = omega arith }

-- where one dies at most at each, few die
pub few_die : {X : Type 0} → FewDie X
few_die dying [] few = record { count = omega arith; bytes = omega arith }
few_die dying (x ∷ xs) few =
    let rest : IsFew (length xs) (dying_among dying xs) = few_die dying xs few.1 in
    let first : IsFew 1 (dying x) = few.0 in
    record { count = omega (arith, rest.count, first.count); bytes = omega (arith, rest.bytes, first.bytes) }
