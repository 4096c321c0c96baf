-- What a tombstone above all of a key changes in what the key adds: its newest version alone decides.
use Rattle.std.specs.Prelude.{◌≡◌, ℕ, ◌+◌, ◌*◌, ◌-ℤ◌, pos, Bool, true, false, List, [], ◌∷◌, filter, Option, Some, None, unwrap_or, if◌then◌else◌}
use Rattle.std.specs.List.{AllByRecursion}
use Rattle.std.proofs.Common.{refl, ap, ◌∙◌, arith, add-zero}
use Rattle.std.proofs.lemmas.Int.{ints}
use Rattle.mvcc_key.specs.Lists.{last}
use Rattle.mvcc_key.specs.Order.{Timestamp, is_before}
use Rattle.mvcc_key.specs.Field.{Field, KeyCount, KeyBytes, ValCount, ValBytes, LiveCount, LiveBytes, IntentCount, IntentBytes, IntentAge, GcBytesAge, RangeKeyCount, RangeKeyBytes, RangeValCount, RangeValBytes}
use Rattle.mvcc_key.proofs.TimeLaws.{never_before}
use Rattle.stat_core.specs.DeadSince.{VersionShape, earlier, least_above, dead_since}
use Rattle.stat_core.specs.ComputeStats.{Sums, no_sums, ◌⊕◌, age, version_sums, versions_sums, KeyShape, own_sums, intent_sums, key_sums, difference}
use Rattle.stat_core.specs.Laws.{with_versions}
use Rattle.stat_core.proofs.SliceLaws.{⊕_regroup}
use Rattle.stat_delta.specs.SpanChanges.{change_by_death, top_bytes, with_stack}
use Rattle.stat_delta.specs.SpanLaws.{TombstoneOverKey, TombstoneOverVersions}
use Rattle.stat_delta.proofs.ChangesOverLaws.{difference-itself, difference-common_last}

-- ---- since when versions are garbage

-- the least timestamp above another, where one comes above all
least_above-on_top : (ts : Timestamp) (stack : List Timestamp) (t : Timestamp) → is_before t ts ≡ true
    → least_above t (ts ∷ stack) ≡ Some (unwrap_or (least_above t stack) ts)
least_above-on_top ts stack t older = rw older (by (filter (is_before t) stack))
  where
    some_last : (s : Timestamp) (ss : List Timestamp) → last (s ∷ ss) ≡ Some (unwrap_or (last (s ∷ ss)) ts)
    some_last s [] = refl
    some_last s (r ∷ rs) = some_last r rs

    by : (above : List Timestamp) → last (ts ∷ above) ≡ Some (unwrap_or (last above) ts)
    by [] = refl
    by (s ∷ ss) = some_last s ss

-- a version that was live is garbage since the tombstone above it, and one that was garbage stays so since the same moment
dead_since-newest : (ts : Timestamp) (stack : List Timestamp) (v : VersionShape) → is_before v.ts ts ≡ true
    → dead_since None (ts ∷ stack) v ≡ Some (unwrap_or (dead_since None stack v) ts)
unfolding dead_since
dead_since-newest ts stack v older = by v.deletion
  where
    by : (deletion : Bool) → (if deletion then Some v.ts else least_above v.ts (ts ∷ stack)) ≡ Some (unwrap_or (if deletion then Some v.ts else least_above v.ts stack) ts)
    by true = refl
    by false = least_above-on_top ts stack v.ts older

-- a version with a newer one is garbage since the same moment, whether the tombstone is there or not
dead_since-older : (newer ts : Timestamp) (stack : List Timestamp) (v : VersionShape) → is_before newer ts ≡ true → is_before v.ts ts ≡ true
    → dead_since (Some newer) (ts ∷ stack) v ≡ dead_since (Some newer) stack v
unfolding dead_since
dead_since-older newer ts stack v older older' = by v.deletion
  where
    least : (above : Option Timestamp) → earlier (Some newer) (Some (unwrap_or above ts)) ≡ earlier (Some newer) above
    least None = ap (λ b. Some (if b then ts else newer)) (never_before newer ts older)
    least (Some s) = refl

    by : (deletion : Bool) → (if deletion then Some v.ts else earlier (Some newer) (least_above v.ts (ts ∷ stack)))
        ≡ (if deletion then Some v.ts else earlier (Some newer) (least_above v.ts stack))
    by true = refl
    by false = ap (earlier (Some newer)) (least_above-on_top ts stack v.ts older') ∙ least (least_above v.ts stack)

-- so older versions add the same
versions_sums-older : (now : ℕ) (newer ts : Timestamp) (stack : List Timestamp) (vs : List VersionShape) → is_before newer ts ≡ true
    → AllByRecursion (λ v. is_before v.ts ts ≡ true) vs → versions_sums now (Some newer) (ts ∷ stack) vs ≡ versions_sums now (Some newer) stack vs
versions_sums-older now newer ts stack [] older olders = refl
versions_sums-older now newer ts stack (v ∷ vs) older olders =
    λ i. version_sums now (dead_since-older newer ts stack v older olders.0 i) v ⊕ versions_sums-older now v.ts ts stack vs olders.0 olders.1 i

-- ---- what a key adds

-- what the newest version and the key with it add, without what any intent and the older versions do
abbrev top_sums : ℕ → KeyShape → VersionShape → Option Timestamp → Sums
top_sums now k v dead = own_sums now k dead ⊕ version_sums now dead v

-- live they are counted as such, and else as garbage
difference-dying : (now : ℕ) (k : KeyShape) (v : VersionShape) (ts : Timestamp) (f : Field)
    → difference (top_sums now k v None) (top_sums now k v (Some ts)) f ≡ change_by_death now (top_bytes k v) ts None f
difference-dying now k v ts KeyCount = omega (arith, ints)
difference-dying now k v ts KeyBytes = omega (arith, ints)
difference-dying now k v ts ValCount = omega (arith, ints)
difference-dying now k v ts ValBytes = omega (arith, ints)
difference-dying now k v ts LiveCount = omega (arith, ints)
difference-dying now k v ts LiveBytes = omega (arith, ints)
difference-dying now k v ts IntentCount = omega (arith, ints)
difference-dying now k v ts IntentBytes = omega (arith, ints)
difference-dying now k v ts IntentAge = omega (arith, ints)
difference-dying now k v ts GcBytesAge = by (k.key_length + 1 + k.record_length) (12 + v.value_length) (age now ts.wall)
  where
    by : (a b c : ℕ) → pos (0 + a * c + (0 + b * c)) -ℤ pos (0 + 0 + (0 + 0)) ≡ pos ((a + b) * c) -ℤ pos 0
    by a b c = let split : (a + b) * c ≡ a * c + b * c = grind arith in omega (arith, ints, split)
difference-dying now k v ts RangeKeyCount = omega (arith, ints)
difference-dying now k v ts RangeKeyBytes = omega (arith, ints)
difference-dying now k v ts RangeValCount = omega (arith, ints)
difference-dying now k v ts RangeValBytes = omega (arith, ints)

-- a key adds what its newest version adds with it, and what any intent and the older versions do
key_sums-top : (now : ℕ) (k : KeyShape) (v : VersionShape) (vs : List VersionShape)
    → key_sums now (with_versions k (v ∷ vs))
    ≡ top_sums now k v (dead_since None k.stack v) ⊕ (intent_sums now (with_versions k (v ∷ vs)) k.intent ⊕ versions_sums now (Some v.ts) k.stack vs)
unfolding key_sums
key_sums-top now k v vs =
    ⊕_regroup (own_sums now k (dead_since None k.stack v)) (intent_sums now (with_versions k (v ∷ vs)) k.intent)
    (version_sums now (dead_since None k.stack v) v) (versions_sums now (Some v.ts) k.stack vs)

-- a key under a tombstone above all its versions: the newest dies with the key, if it was live; the others stay as they were
pub difference-covered : TombstoneOverKey
difference-covered now k v vs ts f older =
    (λ i. difference (key_sums-top now k v vs i) (after i) f)
    ∙ difference-common_last behind (top_sums now k v (dead_since None k.stack v)) (top_sums now k v (Some (unwrap_or (dead_since None k.stack v) ts))) f
    ∙ by (dead_since None k.stack v)
  where
    behind : Sums
    behind = intent_sums now (with_versions k (v ∷ vs)) k.intent ⊕ versions_sums now (Some v.ts) k.stack vs

    after : key_sums now (with_versions (with_stack k (ts ∷ k.stack)) (v ∷ vs)) ≡ top_sums now k v (Some (unwrap_or (dead_since None k.stack v) ts)) ⊕ behind
    after =
        key_sums-top now (with_stack k (ts ∷ k.stack)) v vs
        ∙ λ i. top_sums now k v (dead_since-newest ts k.stack v older.0 i)
        ⊕ (intent_sums now (with_versions k (v ∷ vs)) k.intent ⊕ versions_sums-older now v.ts ts k.stack vs older.0 older.1 i)

    by : (dead : Option Timestamp) → difference (top_sums now k v dead) (top_sums now k v (Some (unwrap_or dead ts))) f ≡ change_by_death now (top_bytes k v) ts dead f
    by None = difference-dying now k v ts f
    by (Some d) = difference-itself (top_sums now k v (Some d)) f

-- so of a key without an intent the newest version alone decides
pub change_by_tombstone-newest : TombstoneOverVersions
change_by_tombstone-newest now key_length stack ts [] f older = difference-itself no_sums f
change_by_tombstone-newest now key_length stack ts (v ∷ vs) f older =
    difference-covered now (record { key_length = key_length; record_length = 0; intent = None; versions = v ∷ vs; stack = stack }) v vs ts f older
    ∙ ap (λ n. change_by_death now (n + (12 + v.value_length)) ts (dead_since None stack v) f) (add-zero (key_length + 1))
