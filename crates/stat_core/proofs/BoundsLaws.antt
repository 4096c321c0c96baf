-- Bounds that statistics keep, and what they say of overflow.
use Rattle.std.specs.Prelude.{◌≡◌, ℕ, ◌<◌, ◌+◌, ◌≤◌, Bool, true, false, cond, List, [], ◌∷◌, length, find, map, Option, Some, None, nat_lt}
use Rattle.std.specs.List.{AllByRecursion}
use Rattle.std.proofs.Common.{refl, sym, ◌∙◌, ap, subst, arith}
use Rattle.std.proofs.lemmas.Bool.Decides.{nat_tests}
use Rattle.mvcc_key.specs.Order.{Timestamp, Key, Pair}
use Rattle.mvcc_key.specs.Fragments.{Fragment, stack_at}
use Rattle.mvcc_key.specs.Field.{Field, KeyCount, KeyBytes, ValCount, ValBytes, LiveCount, LiveBytes, IntentCount, IntentBytes, IntentAge, GcBytesAge, RangeKeyCount, RangeKeyBytes, RangeValCount, RangeValBytes, all_fields}
use Rattle.stat_core.specs.DeadSince.{VersionShape, dead_since}
use Rattle.stat_core.specs.ComputeStats.{Sums, no_sums, ◌⊕◌, total, version_sums, versions_sums, KeyShape, own_sums, newest_dead, intent_sums, key_sums, tombstone_sums, fragment_sums, pairs_of, key_shape, keys_of, sums_at, sums_of_fragment, compute_stats, field, overflowing}
use Rattle.stat_core.specs.Laws.{others_of, share, IsAtMost}
use Rattle.stat_core.proofs.KeyChangeLaws.{field-⊕, compute_stats-split}

-- live bytes are bytes of points, each live key and each intent is a key, and each fragment has a tombstone
pub record AreInBounds (s : Sums) : Type 0 where
  pub live_bytes : s.live_bytes ≤ s.key_bytes + s.val_bytes
  pub live_count : s.live_count ≤ s.key_count
  pub intent_count : s.intent_count ≤ s.key_count
  pub range_key_count : s.range_key_count ≤ s.range_val_count

no_sums-bounds : AreInBounds no_sums
no_sums-bounds = record { live_bytes = omega arith; live_count = omega arith; intent_count = omega arith; range_key_count = omega arith }

-- bounds hold of what is added
pub bounds-⊕ : (s t : Sums) → AreInBounds s → AreInBounds t → AreInBounds (s ⊕ t)
bounds-⊕ s t a b = record {
  live_bytes = omega (arith, a.live_bytes, b.live_bytes);
  live_count = omega (arith, a.live_count, b.live_count);
  intent_count = omega (arith, a.intent_count, b.intent_count);
  range_key_count = omega (arith, a.range_key_count, b.range_key_count);
}

-- and of a total
pub bounds-total : {X : Type 0} (g : X → Sums) (xs : List X) → ((x : X) → AreInBounds (g x)) → AreInBounds (total (map g xs))
bounds-total g [] each = no_sums-bounds
bounds-total g (x ∷ xs) each = bounds-⊕ (g x) (total (map g xs)) (each x) (bounds-total g xs each)

version-bounds : (now : ℕ) (dead : Option Timestamp) (v : VersionShape) → AreInBounds (version_sums now dead v)
version-bounds now None v = record { live_bytes = omega arith; live_count = omega arith; intent_count = omega arith; range_key_count = omega arith }
version-bounds now (Some ts) v = record { live_bytes = omega arith; live_count = omega arith; intent_count = omega arith; range_key_count = omega arith }

versions-bounds : (now : ℕ) (newer : Option Timestamp) (stack : List Timestamp) (vs : List VersionShape) → AreInBounds (versions_sums now newer stack vs)
versions-bounds now newer stack [] = no_sums-bounds
versions-bounds now newer stack (v ∷ vs) =
    bounds-⊕ (version_sums now (dead_since newer stack v) v) (versions_sums now (Some v.ts) stack vs) (version-bounds now (dead_since newer stack v) v)
    (versions-bounds now (Some v.ts) stack vs)

own-bounds : (now : ℕ) (k : KeyShape) (dead intent : Option Timestamp) → AreInBounds (own_sums now k dead ⊕ intent_sums now k intent)
own-bounds now k None None = record { live_bytes = omega arith; live_count = omega arith; intent_count = omega arith; range_key_count = omega arith }
own-bounds now k None (Some i) = record { live_bytes = omega arith; live_count = omega arith; intent_count = omega arith; range_key_count = omega arith }
own-bounds now k (Some ts) None = record { live_bytes = omega arith; live_count = omega arith; intent_count = omega arith; range_key_count = omega arith }
own-bounds now k (Some ts) (Some i) = record { live_bytes = omega arith; live_count = omega arith; intent_count = omega arith; range_key_count = omega arith }

-- what a key adds is in bounds
pub key_sums-bounds : (now : ℕ) (k : KeyShape) → AreInBounds (key_sums now k)
unfolding key_sums
key_sums-bounds now k =
    bounds-⊕ (own_sums now k (newest_dead k k.versions) ⊕ intent_sums now k k.intent) (versions_sums now None k.stack k.versions)
    (own-bounds now k (newest_dead k k.versions) k.intent) (versions-bounds now None k.stack k.versions)

tombstones-bounds : (now : ℕ) (stack : List Timestamp) → AreInBounds (total (map (tombstone_sums now) stack))
tombstones-bounds now stack =
    bounds-total (tombstone_sums now) stack (λ ts. record { live_bytes = omega arith; live_count = omega arith; intent_count = omega arith; range_key_count = omega arith })

-- what a fragment adds is in bounds
pub fragment_sums-bounds : (now start_length end_length : ℕ) (stack : List Timestamp) → AreInBounds (fragment_sums now start_length end_length stack)
unfolding fragment_sums
fragment_sums-bounds now m n [] = no_sums-bounds
fragment_sums-bounds now m n (ts ∷ stack) =
    let rest : AreInBounds (total (map (tombstone_sums now) stack)) = tombstones-bounds now stack in
    record {
      live_bytes = omega (arith, rest.live_bytes);
      live_count = omega (arith, rest.live_count);
      intent_count = omega (arith, rest.intent_count);
      range_key_count = omega (arith, rest.range_key_count);
    }

-- the statistics of all pairs and fragments are in bounds
pub compute_stats-bounds : (now : ℕ) (pairs : List Pair) (fs : List Fragment) → AreInBounds (compute_stats now pairs fs)
unfolding compute_stats
compute_stats-bounds now pairs fs =
    bounds-⊕ (total (map (sums_at now pairs fs) (keys_of pairs))) (total (map (sums_of_fragment now) fs))
    (bounds-total (sums_at now pairs fs) (keys_of pairs) (λ key. key_sums-bounds now (key_shape key (pairs_of key pairs) (stack_at fs key))))
    (bounds-total (sums_of_fragment now) fs (λ f. fragment_sums-bounds now (length f.start) (length f.end) f.stack))

-- the first part is at most the whole
pub first-part : (s t : Sums) → IsAtMost s (s ⊕ t)
first-part s t f = rw (field-⊕ f s t) (omega arith)

-- what a key adds is at most the whole
pub share-part : (now : ℕ) (pairs : List Pair) (fs : List Fragment) (k : Key) → IsAtMost (share now pairs fs k) (compute_stats now pairs fs)
share-part now pairs fs k f =
    subst (λ s. field f (share now pairs fs k) ≤ field f s) (sym (compute_stats-split now pairs fs k)) (first-part (share now pairs fs k) (compute_stats now (others_of k pairs) fs) f)

find-none : {X : Type 0} (test : X → Bool) (xs : List X) → find test xs ≡ None → AllByRecursion (λ x. test x ≡ false) xs
find-none test [] h = tt
find-none test (x ∷ xs) h = by (test x) refl h (find-none test xs)
  where
    by : (t : Bool) → test x ≡ t → cond t (Some x) (find test xs) ≡ None → (find test xs ≡ None → AllByRecursion (λ x. test x ≡ false) xs)
        → (test x ≡ false) × AllByRecursion (λ x. test x ≡ false) xs
    by true e h rest = cc
    by false e h rest = (e, rest h)

find-from_none : {X : Type 0} (test : X → Bool) (xs : List X) → ((x : X) → test x ≡ false) → find test xs ≡ None
find-from_none test [] all = refl
find-from_none test (x ∷ xs) all = rw (all x) (find-from_none test xs all)

-- no statistic passes the bound: each is at most it
pub no_overflow-is : (count_max : ℕ) (s : Sums) → overflowing count_max s ≡ None → (f : Field) → field f s ≤ count_max
unfolding overflowing
no_overflow-is m s none f = up (at f)
  where
    tests : AllByRecursion (λ g. nat_lt m (field g s) ≡ false) all_fields
    tests = find-none (λ g. nat_lt m (field g s)) all_fields none

    up : nat_lt m (field f s) ≡ false → field f s ≤ m
    up h = grind (arith, nat_tests)

    at : (g : Field) → nat_lt m (field g s) ≡ false
    at KeyCount = tests.0
    at KeyBytes = tests.1.0
    at ValCount = tests.1.1.0
    at ValBytes = tests.1.1.1.0
    at LiveCount = tests.1.1.1.1.0
    at LiveBytes = tests.1.1.1.1.1.0
    at IntentCount = tests.1.1.1.1.1.1.0
    at IntentBytes = tests.1.1.1.1.1.1.1.0
    at IntentAge = tests.1.1.1.1.1.1.1.1.0
    at GcBytesAge = tests.1.1.1.1.1.1.1.1.1.0
    at RangeKeyCount = tests.1.1.1.1.1.1.1.1.1.1.0
    at RangeKeyBytes = tests.1.1.1.1.1.1.1.1.1.1.1.0
    at RangeValCount = tests.1.1.1.1.1.1.1.1.1.1.1.1.0
    at RangeValBytes = tests.1.1.1.1.1.1.1.1.1.1.1.1.1.0

-- and where each is at most the bound, none passes it
pub no_overflow-from : (count_max : ℕ) (s : Sums) → ((f : Field) → field f s ≤ count_max) → overflowing count_max s ≡ None
unfolding overflowing
no_overflow-from m s below = find-from_none (λ f. nat_lt m (field f s)) all_fields (λ f. up f (below f))
  where
    up : (f : Field) → field f s ≤ m → nat_lt m (field f s) ≡ false
    up f h = grind (arith, nat_tests)

-- statistics that are at most others that do not overflow do not overflow
pub no_overflow-less : (count_max : ℕ) (s t : Sums) → IsAtMost s t → overflowing count_max t ≡ None → overflowing count_max s ≡ None
no_overflow-less m s t less none = no_overflow-from m s (λ f. up f (less f) (no_overflow-is m t none f))
  where
    up : (f : Field) → field f s ≤ field f t → field f t ≤ m → field f s ≤ m
    up f h k = omega arith

find-some : {X : Type 0} (test : X → Bool) (xs : List X) (y : X) → find test xs ≡ Some y → test y ≡ true
find-some test [] y h = cc
find-some test (x ∷ xs) y h = by (test x) refl h (find-some test xs y)
  where
    by : (t : Bool) → test x ≡ t → cond t (Some x) (find test xs) ≡ Some y → (find test xs ≡ Some y → test y ≡ true) → test y ≡ true
    by true e h rest = let same : x ≡ y = cc in subst (λ z. test z ≡ true) same e
    by false e h rest = rest h

-- the statistic that is named passes the bound
pub overflow-is : (count_max : ℕ) (s : Sums) (f : Field) → overflowing count_max s ≡ Some f → count_max < field f s
unfolding overflowing
overflow-is m s f named = up (find-some (λ g. nat_lt m (field g s)) all_fields f named)
  where
    up : nat_lt m (field f s) ≡ true → m < field f s
    up h = grind (arith, nat_tests)

-- sums are told by their fields
pub fields-tell : (s t : Sums) → ((f : Field) → field f s ≡ field f t) → s ≡ t
fields-tell s t same = λ i. record {
  key_count = same KeyCount i;
  key_bytes = same KeyBytes i;
  val_count = same ValCount i;
  val_bytes = same ValBytes i;
  live_count = same LiveCount i;
  live_bytes = same LiveBytes i;
  intent_count = same IntentCount i;
  intent_bytes = same IntentBytes i;
  intent_age = same IntentAge i;
  gc_bytes_age = same GcBytesAge i;
  range_key_count = same RangeKeyCount i;
  range_key_bytes = same RangeKeyBytes i;
  range_val_count = same RangeValCount i;
  range_val_bytes = same RangeValBytes i;
}

-- what is added to both may be left out
pub ⊕_cancel : (s t more : Sums) → s ⊕ more ≡ t ⊕ more → s ≡ t
⊕_cancel s t more even =
    fields-tell s t (λ f. by (field f s) (field f t) (field f more) (sym (field-⊕ f s more) ∙ ap (field f) even ∙ field-⊕ f t more))
  where
    by : (a b m : ℕ) → a + m ≡ b + m → a ≡ b
    by a b m h = omega (arith, h)
