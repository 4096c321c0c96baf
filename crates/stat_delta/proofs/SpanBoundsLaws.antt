-- How large the sums of a span may be.
use Rattle.std.specs.Prelude.{◌≡◌, ℕ, ◌+◌, ◌*◌, ◌<◌, ◌≤◌, ◌^◌, List, [], ◌∷◌, ◌++◌, length, map, ◌==◌, if◌then◌else◌, Bool, true, false, None, Option, Some}
use Rattle.std.proofs.Common.{refl, arith, mul-le-mul}
use Rattle.mvcc_key.specs.Order.{Timestamp, key_cmp, is_within, is_same_key}
use Rattle.mvcc_key.specs.Limits.{max_bound_length}
use Rattle.mvcc_key.specs.History.{Version, Intent, versions_of}
use Rattle.mvcc_key.specs.Field.{Field, KeyCount, KeyBytes, ValCount, ValBytes, LiveCount, LiveBytes, IntentCount, IntentBytes, IntentAge, GcBytesAge, RangeKeyCount, RangeKeyBytes, RangeValCount, RangeValBytes}
use Rattle.mvcc_key.proofs.EachLaws.{All-append, All-in_order, All-map, All-weaker, All-passing}
use Rattle.intent_meta.specs.StoredPairs.{provisional, Stored, RecordOf, VersionOf, stored_cmp, stored_pair, stored_pairs}
use Rattle.intent_meta.specs.Valid.{IsStoredIntent, IsStoredVersion}
use Rattle.intent_meta.proofs.BlockLaws.{stored_of}
use Rattle.stat_core.specs.ComputeStats.{Sums, no_sums, ◌⊕◌, total, age, tombstone_bytes, tombstone_sums, bounds_sums, fragment_sums, sums_of_fragment, field, key_sums, live_key, live_or_garbage, version_sums, versions_sums}
use Rattle.stat_core.specs.Laws.{pairs_in}
use Rattle.stat_core.specs.DeadSince.{VersionShape, dead_since}
use Rattle.stat_core.proofs.KeyChangeLaws.{field-⊕}
use Rattle.stat_delta.specs.SpanChanges.{sums_of_fragments}
use Rattle.stat_delta.specs.SpanBounds.{KeysAreShort, FragmentsAreFew, IsShortPair, KeysAreFew, PairsAreShort, VersionsAreFew, VersionsAreShort}
use Rattle.stat_delta.specs.Laws.{IsShortVersion}
use Rattle.stat_delta.specs.Shapes.{version_shape}
use Rattle.stat_delta.proofs.ShortLaws.{intent-short, value-short}

-- all that is stored of a valid history is short
pub pairs-short : PairsAreShort
unfolding stored_pairs
pairs-short h valid =
    All-map IsShortPair stored_pair (stored_of h.intents h.versions)
    (All-in_order stored_cmp short (map RecordOf h.intents ++ map (λ i. VersionOf (provisional i)) h.intents ++ map VersionOf h.versions)
    (All-append short (map RecordOf h.intents ++ map (λ i. VersionOf (provisional i)) h.intents) (map VersionOf h.versions)
    (All-append short (map RecordOf h.intents) (map (λ i. VersionOf (provisional i)) h.intents)
    (All-map short RecordOf h.intents (All-weaker (IsStoredIntent h) (λ i. short (RecordOf i)) h.intents of_record valid.intents))
    (All-map short (λ i. VersionOf (provisional i)) h.intents (All-weaker (IsStoredIntent h) (λ i. short (VersionOf (provisional i))) h.intents of_provisional valid.intents)))
    (All-map short VersionOf h.versions (All-weaker IsStoredVersion (λ v. short (VersionOf v)) h.versions of_version valid.versions))))
  where
    short : Stored → Type 0
    short x = IsShortPair (stored_pair x)

    of_record : (i : Intent) → IsStoredIntent h i → IsShortPair (stored_pair (RecordOf i))
    of_record i is = let key = is.key in let size = is.size in record { key = omega (arith, key.1); value = omega (arith, size) }

    of_provisional : (i : Intent) → IsStoredIntent h i → IsShortPair (stored_pair (VersionOf (provisional i)))
    of_provisional i is = let key = is.key in record { key = omega (arith, key.1); value = (intent-short h i is).provisional }

    of_version : (v : Version) → IsStoredVersion v → IsShortPair (stored_pair (VersionOf v))
    of_version v is = let key = is.key in record { key = omega (arith, key.1); value = value-short v.body v.local v.ts is.body }

-- the keys of what is stored are short
pub keys-short : KeysAreShort
keys-short h start end valid =
    All-in_order key_cmp (λ key. length key ≤ max_bound_length) (map (λ p. p.name.key) (pairs_in (is_within start end) (stored_pairs h)))
    (All-map (λ key. length key ≤ max_bound_length) (λ p. p.name.key) (pairs_in (is_within start end) (stored_pairs h))
    (All-weaker (λ p. (is_within start end p.name.key ≡ true) × IsShortPair p) (λ p. length p.name.key ≤ max_bound_length) (pairs_in (is_within start end) (stored_pairs h))
    (λ p both. (both.1).key)
    (All-passing IsShortPair (λ p. is_within start end p.name.key) (stored_pairs h) (pairs-short h valid))))

-- ---- fragments

-- an age in seconds is short
age-short : (now wall : ℕ) → now < 2 ^ 64 → age now wall ≤ 18446744073
age-short now wall h = omega arith

-- a tombstone of a fragment has few bytes
tombstone_bytes-few : (ts : Timestamp) → tombstone_bytes ts ≤ 13
tombstone_bytes-few ts = by (ts.logical == 0)
  where
    by : (t : Bool) → (if t then 9 else 13) ≤ 13
    by true = omega arith
    by false = omega arith

-- few bytes have a short age
bytes_age-short : (bytes few now wall : ℕ) → bytes ≤ few → now < 2 ^ 64 → bytes * age now wall ≤ few * 18446744073
bytes_age-short bytes few now wall small h = mul-le-mul small (age-short now wall h)

-- a tombstone of a fragment adds little
tombstone_sums-few : (now : ℕ) (ts : Timestamp) (f : Field) → now < 2 ^ 64 → field f (tombstone_sums now ts) ≤ 2 ^ 48
tombstone_sums-few now ts KeyCount h = omega arith
tombstone_sums-few now ts KeyBytes h = omega arith
tombstone_sums-few now ts ValCount h = omega arith
tombstone_sums-few now ts ValBytes h = omega arith
tombstone_sums-few now ts LiveCount h = omega arith
tombstone_sums-few now ts LiveBytes h = omega arith
tombstone_sums-few now ts IntentCount h = omega arith
tombstone_sums-few now ts IntentBytes h = omega arith
tombstone_sums-few now ts IntentAge h = omega arith
tombstone_sums-few now ts GcBytesAge h = omega (arith, bytes_age-short (tombstone_bytes ts) 13 now ts.wall (tombstone_bytes-few ts) h)
tombstone_sums-few now ts RangeKeyCount h = omega arith
tombstone_sums-few now ts RangeKeyBytes h = omega (arith, tombstone_bytes-few ts)
tombstone_sums-few now ts RangeValCount h = omega arith
tombstone_sums-few now ts RangeValBytes h = omega arith

-- nothing adds nothing
no_sums-none : (f : Field) → field f no_sums ≡ 0
no_sums-none KeyCount = refl
no_sums-none KeyBytes = refl
no_sums-none ValCount = refl
no_sums-none ValBytes = refl
no_sums-none LiveCount = refl
no_sums-none LiveBytes = refl
no_sums-none IntentCount = refl
no_sums-none IntentBytes = refl
no_sums-none IntentAge = refl
no_sums-none GcBytesAge = refl
no_sums-none RangeKeyCount = refl
no_sums-none RangeKeyBytes = refl
no_sums-none RangeValCount = refl
no_sums-none RangeValBytes = refl

-- the bounds of a fragment add little
bounds_sums-few : (now bytes : ℕ) (stack : List Timestamp) (f : Field) → now < 2 ^ 64 → bytes ≤ 8196 → field f (bounds_sums now bytes stack) ≤ 2 ^ 48
bounds_sums-few now bytes [] f h few = omega (arith, no_sums-none f)
bounds_sums-few now bytes (ts ∷ stack) KeyCount h few = omega arith
bounds_sums-few now bytes (ts ∷ stack) KeyBytes h few = omega arith
bounds_sums-few now bytes (ts ∷ stack) ValCount h few = omega arith
bounds_sums-few now bytes (ts ∷ stack) ValBytes h few = omega arith
bounds_sums-few now bytes (ts ∷ stack) LiveCount h few = omega arith
bounds_sums-few now bytes (ts ∷ stack) LiveBytes h few = omega arith
bounds_sums-few now bytes (ts ∷ stack) IntentCount h few = omega arith
bounds_sums-few now bytes (ts ∷ stack) IntentBytes h few = omega arith
bounds_sums-few now bytes (ts ∷ stack) IntentAge h few = omega arith
bounds_sums-few now bytes (ts ∷ stack) GcBytesAge h few = omega (arith, bytes_age-short bytes 8196 now ts.wall few h)
bounds_sums-few now bytes (ts ∷ stack) RangeKeyCount h few = omega arith
bounds_sums-few now bytes (ts ∷ stack) RangeKeyBytes h few = omega arith
bounds_sums-few now bytes (ts ∷ stack) RangeValCount h few = omega arith
bounds_sums-few now bytes (ts ∷ stack) RangeValBytes h few = omega arith

-- the tombstones of a fragment add at most so much for each
tombstones-few : (now : ℕ) (stack : List Timestamp) (f : Field) → now < 2 ^ 64 → field f (total (map (tombstone_sums now) stack)) ≤ 2 ^ 48 * length stack
tombstones-few now [] f h = omega (arith, no_sums-none f)
tombstones-few now (ts ∷ stack) f h =
    omega (arith, field-⊕ f (tombstone_sums now ts) (total (map (tombstone_sums now) stack)), tombstone_sums-few now ts f h, tombstones-few now stack f h)

-- a fragment adds at most so much for it and each of its tombstones
fragment-few : (now start_length end_length : ℕ) (stack : List Timestamp) (f : Field) → now < 2 ^ 64 → start_length ≤ max_bound_length → end_length ≤ max_bound_length
    → field f (fragment_sums now start_length end_length stack) ≤ 2 ^ 48 * (1 + length stack)
unfolding fragment_sums
fragment-few now start_length end_length stack f h short short' =
    let bounds = bounds_sums-few now (start_length + 1 + (end_length + 1)) stack f h (omega arith) in
    let stacks = tombstones-few now stack f h in
    omega (arith, field-⊕ f (bounds_sums now (start_length + 1 + (end_length + 1)) stack) (total (map (tombstone_sums now) stack)), bounds, stacks)

-- what fragments add is at most 2^48 for each of them and each timestamp of their stacks
pub fragments-few : FragmentsAreFew
fragments-few now [] f h short = omega (arith, no_sums-none f)
fragments-few now (g ∷ gs) f h short =
    omega (
      arith,
      field-⊕ f (sums_of_fragment now g) (sums_of_fragments now gs),
      fragment-few now (length g.start) (length g.end) g.stack f h (short.0).start (short.0).end,
      fragments-few now gs f h short.1,
    )

-- ---- versions and keys

-- the values of the versions of a key are short
pub versions-short : VersionsAreShort
versions-short h key valid =
    All-map IsShortVersion version_shape (versions_of key h)
    (All-weaker (λ v. (is_same_key v.key key ≡ true) × IsStoredVersion v) (λ v. IsShortVersion (version_shape v)) (versions_of key h)
    (λ v is. value-short v.body v.local v.ts (is.1).body)
    (All-passing IsStoredVersion (λ v. is_same_key v.key key) h.versions valid.versions))

-- bytes that are live or garbage add little
live_or_garbage-few : (now bytes few : ℕ) (dead : Option Timestamp) (f : Field) → now < 2 ^ 64 → bytes ≤ few → field f (live_or_garbage now bytes dead) ≤ few * 18446744073
live_or_garbage-few now bytes few None KeyCount h small = omega arith
live_or_garbage-few now bytes few None KeyBytes h small = omega arith
live_or_garbage-few now bytes few None ValCount h small = omega arith
live_or_garbage-few now bytes few None ValBytes h small = omega arith
live_or_garbage-few now bytes few None LiveCount h small = omega arith
live_or_garbage-few now bytes few None LiveBytes h small = omega arith
live_or_garbage-few now bytes few None IntentCount h small = omega arith
live_or_garbage-few now bytes few None IntentBytes h small = omega arith
live_or_garbage-few now bytes few None IntentAge h small = omega arith
live_or_garbage-few now bytes few None GcBytesAge h small = omega arith
live_or_garbage-few now bytes few None RangeKeyCount h small = omega arith
live_or_garbage-few now bytes few None RangeKeyBytes h small = omega arith
live_or_garbage-few now bytes few None RangeValCount h small = omega arith
live_or_garbage-few now bytes few None RangeValBytes h small = omega arith
live_or_garbage-few now bytes few (Some ts) KeyCount h small = omega arith
live_or_garbage-few now bytes few (Some ts) KeyBytes h small = omega arith
live_or_garbage-few now bytes few (Some ts) ValCount h small = omega arith
live_or_garbage-few now bytes few (Some ts) ValBytes h small = omega arith
live_or_garbage-few now bytes few (Some ts) LiveCount h small = omega arith
live_or_garbage-few now bytes few (Some ts) LiveBytes h small = omega arith
live_or_garbage-few now bytes few (Some ts) IntentCount h small = omega arith
live_or_garbage-few now bytes few (Some ts) IntentBytes h small = omega arith
live_or_garbage-few now bytes few (Some ts) IntentAge h small = omega arith
live_or_garbage-few now bytes few (Some ts) GcBytesAge h small = bytes_age-short bytes few now ts.wall small h
live_or_garbage-few now bytes few (Some ts) RangeKeyCount h small = omega arith
live_or_garbage-few now bytes few (Some ts) RangeKeyBytes h small = omega arith
live_or_garbage-few now bytes few (Some ts) RangeValCount h small = omega arith
live_or_garbage-few now bytes few (Some ts) RangeValBytes h small = omega arith

-- what counts a version itself
counts-few : (bytes : ℕ) (f : Field) → bytes ≤ 2 ^ 25 → field f (record no_sums { val_count = 1; key_bytes = 12; val_bytes = bytes }) ≤ 2 ^ 25
counts-few bytes KeyCount h = omega arith
counts-few bytes KeyBytes h = omega arith
counts-few bytes ValCount h = omega arith
counts-few bytes ValBytes h = omega arith
counts-few bytes LiveCount h = omega arith
counts-few bytes LiveBytes h = omega arith
counts-few bytes IntentCount h = omega arith
counts-few bytes IntentBytes h = omega arith
counts-few bytes IntentAge h = omega arith
counts-few bytes GcBytesAge h = omega arith
counts-few bytes RangeKeyCount h = omega arith
counts-few bytes RangeKeyBytes h = omega arith
counts-few bytes RangeValCount h = omega arith
counts-few bytes RangeValBytes h = omega arith

-- a version adds little
version_sums-few : (now : ℕ) (dead : Option Timestamp) (v : VersionShape) (f : Field) → now < 2 ^ 64 → IsShortVersion v → field f (version_sums now dead v) ≤ 2 ^ 62
version_sums-few now dead v f h short =
    omega (
      arith,
      field-⊕ f (record no_sums { val_count = 1; key_bytes = 12; val_bytes = v.value_length }) (live_or_garbage now (12 + v.value_length) dead),
      counts-few v.value_length f short,
      live_or_garbage-few now (12 + v.value_length) (12 + 2 ^ 25) dead f h (omega arith),
    )

-- what versions add is at most 2^62 for each of them, under any stack
pub versions-few : VersionsAreFew
versions-few now newer stack [] f h short = omega (arith, no_sums-none f)
versions-few now newer stack (v ∷ vs) f h short =
    omega (
      arith,
      field-⊕ f (version_sums now (dead_since newer stack v) v) (versions_sums now (Some v.ts) stack vs),
      version_sums-few now (dead_since newer stack v) v f h short.0,
      versions-few now (Some v.ts) stack vs f h short.1,
    )

-- what counts a key itself
own_counts-few : (key_length : ℕ) (dead : Option Timestamp) (f : Field) → key_length ≤ max_bound_length
    → field f (record no_sums { key_count = 1; key_bytes = key_length + 1; val_bytes = 0; live_count = live_key dead }) ≤ 2 ^ 25
own_counts-few key_length None KeyCount short = omega arith
own_counts-few key_length None KeyBytes short = omega arith
own_counts-few key_length None ValCount short = omega arith
own_counts-few key_length None ValBytes short = omega arith
own_counts-few key_length None LiveCount short = omega arith
own_counts-few key_length None LiveBytes short = omega arith
own_counts-few key_length None IntentCount short = omega arith
own_counts-few key_length None IntentBytes short = omega arith
own_counts-few key_length None IntentAge short = omega arith
own_counts-few key_length None GcBytesAge short = omega arith
own_counts-few key_length None RangeKeyCount short = omega arith
own_counts-few key_length None RangeKeyBytes short = omega arith
own_counts-few key_length None RangeValCount short = omega arith
own_counts-few key_length None RangeValBytes short = omega arith
own_counts-few key_length (Some ts) KeyCount short = omega arith
own_counts-few key_length (Some ts) KeyBytes short = omega arith
own_counts-few key_length (Some ts) ValCount short = omega arith
own_counts-few key_length (Some ts) ValBytes short = omega arith
own_counts-few key_length (Some ts) LiveCount short = omega arith
own_counts-few key_length (Some ts) LiveBytes short = omega arith
own_counts-few key_length (Some ts) IntentCount short = omega arith
own_counts-few key_length (Some ts) IntentBytes short = omega arith
own_counts-few key_length (Some ts) IntentAge short = omega arith
own_counts-few key_length (Some ts) GcBytesAge short = omega arith
own_counts-few key_length (Some ts) RangeKeyCount short = omega arith
own_counts-few key_length (Some ts) RangeKeyBytes short = omega arith
own_counts-few key_length (Some ts) RangeValCount short = omega arith
own_counts-few key_length (Some ts) RangeValBytes short = omega arith

-- what a key without an intent adds is at most so much for it and each of its versions, under any stack
pub keys-few : KeysAreFew
unfolding key_sums
keys-few now key_length stack [] f h short short' = omega (arith, no_sums-none f)
keys-few now key_length stack (v ∷ vs) f h short short' =
    let dead : Option Timestamp = dead_since None stack v in
    let counts : Sums = record no_sums { key_count = 1; key_bytes = key_length + 1; val_bytes = 0; live_count = live_key dead } in
    let bytes : Sums = live_or_garbage now (key_length + 1 + 0) dead in
    let versions : Sums = versions_sums now None stack (v ∷ vs) in
    omega (
      arith,
      field-⊕ f (counts ⊕ bytes ⊕ no_sums) versions,
      field-⊕ f (counts ⊕ bytes) no_sums,
      field-⊕ f counts bytes,
      no_sums-none f,
      own_counts-few key_length dead f short,
      live_or_garbage-few now (key_length + 1 + 0) 4098 dead f h (omega arith),
      versions-few now None stack (v ∷ vs) f h short',
    )
