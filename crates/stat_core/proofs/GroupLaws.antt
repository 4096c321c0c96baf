-- What one key adds, statistic by statistic.
use Rattle.std.specs.Prelude.{◌≡◌, ℕ, ◌+◌, ◌*◌, ◌≤◌, ◌^◌, ℤ, pos, ◌-ℤ◌, FitsSigned, List, [], ◌∷◌, length, map, Option, Some, None}
use Rattle.std.specs.Int.{w128}
use Rattle.std.proofs.Common.{sym, ◌∙◌, ap, arith}
use Rattle.std.proofs.lemmas.Int.{ints}
use Rattle.std.specs.List.{AllByRecursion}
use Rattle.std.specs.List.Sorted.{IsStrictlySortedBy}
use Rattle.mvcc_key.specs.Order.{Timestamp, newer_first}
use Rattle.stat_core.specs.views.Seen.{version_shape_of}
use Rattle.stat_core.specs.declared.shape.VersionShape as code
use Rattle.stat_core.specs.DeadSince.{VersionShape, dead_since}
use Rattle.stat_core.specs.ComputeStats.{Sums, live_or_garbage, version_sums, versions_sums, KeyShape, live_key, own_sums, newest_dead, intent_sums, key_sums}

-- statistics of points alone: so many versions, and no key, intent or fragment
record AreVersions (n : ℕ) (s : Sums) : Type 0 where
  key_count : s.key_count ≡ 0
  key_bytes : s.key_bytes ≡ 12 * n
  val_count : s.val_count ≡ n
  live_count : s.live_count ≡ 0
  intent_count : s.intent_count ≡ 0
  intent_bytes : s.intent_bytes ≡ 0
  intent_age : s.intent_age ≡ 0
  range_key_count : s.range_key_count ≡ 0
  range_key_bytes : s.range_key_bytes ≡ 0
  range_val_count : s.range_val_count ≡ 0
  range_val_bytes : s.range_val_bytes ≡ 0

version-adds : (now : ℕ) (dead : Option Timestamp) (v : VersionShape) → AreVersions 1 (version_sums now dead v)
version-adds now None v = record { key_count = omega arith; key_bytes = omega arith; val_count = omega arith; live_count = omega arith; intent_count = omega arith; intent_bytes = omega arith; intent_age = omega arith; range_key_count = omega arith; range_key_bytes = omega arith; range_val_count = omega arith; range_val_bytes = omega arith }
version-adds now (Some ts) v = record { key_count = omega arith; key_bytes = omega arith; val_count = omega arith; live_count = omega arith; intent_count = omega arith; intent_bytes = omega arith; intent_age = omega arith; range_key_count = omega arith; range_key_bytes = omega arith; range_val_count = omega arith; range_val_bytes = omega arith }

versions-add : (now : ℕ) (newer : Option Timestamp) (stack : List Timestamp) (vs : List VersionShape) → AreVersions (length vs) (versions_sums now newer stack vs)
versions-add now newer stack [] = record { key_count = omega arith; key_bytes = omega arith; val_count = omega arith; live_count = omega arith; intent_count = omega arith; intent_bytes = omega arith; intent_age = omega arith; range_key_count = omega arith; range_key_bytes = omega arith; range_val_count = omega arith; range_val_bytes = omega arith }
versions-add now newer stack (v ∷ vs) =
    let first : AreVersions 1 (version_sums now (dead_since newer stack v) v) = version-adds now (dead_since newer stack v) v in
    let others : AreVersions (length vs) (versions_sums now (Some v.ts) stack vs) = versions-add now (Some v.ts) stack vs in
    record {
      key_count = omega (arith, first.key_count, others.key_count);
      key_bytes = omega (arith, first.key_bytes, others.key_bytes);
      val_count = omega (arith, first.val_count, others.val_count);
      live_count = omega (arith, first.live_count, others.live_count);
      intent_count = omega (arith, first.intent_count, others.intent_count);
      intent_bytes = omega (arith, first.intent_bytes, others.intent_bytes);
      intent_age = omega (arith, first.intent_age, others.intent_age);
      range_key_count = omega (arith, first.range_key_count, others.range_key_count);
      range_key_bytes = omega (arith, first.range_key_bytes, others.range_key_bytes);
      range_val_count = omega (arith, first.range_val_count, others.range_val_count);
      range_val_bytes = omega (arith, first.range_val_bytes, others.range_val_bytes);
    }

-- the key itself and its record
record AreOwn (now : ℕ) (k : KeyShape) (dead : Option Timestamp) (s : Sums) : Type 0 where
  key_count : s.key_count ≡ 1
  key_bytes : s.key_bytes ≡ k.key_length + 1
  val_count : s.val_count ≡ 0
  val_bytes : s.val_bytes ≡ k.record_length
  live_count : s.live_count ≡ live_key dead
  live_bytes : s.live_bytes ≡ (live_or_garbage now (k.key_length + 1 + k.record_length) dead).live_bytes
  intent_count : s.intent_count ≡ 0
  intent_bytes : s.intent_bytes ≡ 0
  intent_age : s.intent_age ≡ 0
  gc_bytes_age : s.gc_bytes_age ≡ (live_or_garbage now (k.key_length + 1 + k.record_length) dead).gc_bytes_age
  range_key_count : s.range_key_count ≡ 0
  range_key_bytes : s.range_key_bytes ≡ 0
  range_val_count : s.range_val_count ≡ 0
  range_val_bytes : s.range_val_bytes ≡ 0

own-adds : (now : ℕ) (k : KeyShape) (dead : Option Timestamp) → AreOwn now k dead (own_sums now k dead)
own-adds now k None = record { key_count = omega arith; key_bytes = omega arith; val_count = omega arith; val_bytes = omega arith; live_count = omega arith; live_bytes = omega arith; intent_count = omega arith; intent_bytes = omega arith; intent_age = omega arith; gc_bytes_age = omega arith; range_key_count = omega arith; range_key_bytes = omega arith; range_val_count = omega arith; range_val_bytes = omega arith }
own-adds now k (Some ts) = record { key_count = omega arith; key_bytes = omega arith; val_count = omega arith; val_bytes = omega arith; live_count = omega arith; live_bytes = omega arith; intent_count = omega arith; intent_bytes = omega arith; intent_age = omega arith; gc_bytes_age = omega arith; range_key_count = omega arith; range_key_bytes = omega arith; range_val_count = omega arith; range_val_bytes = omega arith }

-- an intent counts as an intent alone
record AreIntents (s : Sums) : Type 0 where
  key_count : s.key_count ≡ 0
  key_bytes : s.key_bytes ≡ 0
  val_count : s.val_count ≡ 0
  val_bytes : s.val_bytes ≡ 0
  live_count : s.live_count ≡ 0
  live_bytes : s.live_bytes ≡ 0
  gc_bytes_age : s.gc_bytes_age ≡ 0
  range_key_count : s.range_key_count ≡ 0
  range_key_bytes : s.range_key_bytes ≡ 0
  range_val_count : s.range_val_count ≡ 0
  range_val_bytes : s.range_val_bytes ≡ 0

intent-adds : (now : ℕ) (k : KeyShape) (intent : Option Timestamp) → AreIntents (intent_sums now k intent)
intent-adds now k None = record { key_count = omega arith; key_bytes = omega arith; val_count = omega arith; val_bytes = omega arith; live_count = omega arith; live_bytes = omega arith; gc_bytes_age = omega arith; range_key_count = omega arith; range_key_bytes = omega arith; range_val_count = omega arith; range_val_bytes = omega arith }
intent-adds now k (Some ts) = record { key_count = omega arith; key_bytes = omega arith; val_count = omega arith; val_bytes = omega arith; live_count = omega arith; live_bytes = omega arith; gc_bytes_age = omega arith; range_key_count = omega arith; range_key_bytes = omega arith; range_val_count = omega arith; range_val_bytes = omega arith }

-- what a key adds
pub record KeyAdds (now : ℕ) (k : KeyShape) (s : Sums) : Type 0 where
  pub key_count : s.key_count ≡ 1
  pub key_bytes : s.key_bytes ≡ k.key_length + 1 + 12 * length k.versions
  pub val_count : s.val_count ≡ length k.versions
  pub val_bytes : s.val_bytes ≡ k.record_length + (versions_sums now None k.stack k.versions).val_bytes
  pub live_count : s.live_count ≡ live_key (newest_dead k k.versions)
  pub live_bytes : s.live_bytes ≡ (versions_sums now None k.stack k.versions).live_bytes + (live_or_garbage now (k.key_length + 1 + k.record_length) (newest_dead k k.versions)).live_bytes
  pub intent_count : s.intent_count ≡ (intent_sums now k k.intent).intent_count
  pub intent_bytes : s.intent_bytes ≡ (intent_sums now k k.intent).intent_bytes
  pub intent_age : s.intent_age ≡ (intent_sums now k k.intent).intent_age
  pub gc_bytes_age : s.gc_bytes_age ≡ (versions_sums now None k.stack k.versions).gc_bytes_age + (live_or_garbage now (k.key_length + 1 + k.record_length) (newest_dead k k.versions)).gc_bytes_age
  pub range_key_count : s.range_key_count ≡ 0
  pub range_key_bytes : s.range_key_bytes ≡ 0
  pub range_val_count : s.range_val_count ≡ 0
  pub range_val_bytes : s.range_val_bytes ≡ 0

pub key_sums-adds : (now : ℕ) (k : KeyShape) → KeyAdds now k (key_sums now k)
unfolding key_sums
key_sums-adds now k =
    let own : AreOwn now k (newest_dead k k.versions) (own_sums now k (newest_dead k k.versions)) = own-adds now k (newest_dead k k.versions) in
    let intents : AreIntents (intent_sums now k k.intent) = intent-adds now k k.intent in
    let versions : AreVersions (length k.versions) (versions_sums now None k.stack k.versions) = versions-add now None k.stack k.versions in
    record {
      key_count = omega (arith, own.key_count, intents.key_count, versions.key_count);
      key_bytes = omega (arith, own.key_bytes, intents.key_bytes, versions.key_bytes);
      val_count = omega (arith, own.val_count, intents.val_count, versions.val_count);
      val_bytes = omega (arith, own.val_bytes, intents.val_bytes);
      live_count = omega (arith, own.live_count, intents.live_count, versions.live_count);
      live_bytes = omega (arith, own.live_bytes, intents.live_bytes);
      intent_count = omega (arith, own.intent_count, versions.intent_count);
      intent_bytes = omega (arith, own.intent_bytes, versions.intent_bytes);
      intent_age = omega (arith, own.intent_age, versions.intent_age);
      gc_bytes_age = omega (arith, own.gc_bytes_age, intents.gc_bytes_age);
      range_key_count = omega (arith, own.range_key_count, intents.range_key_count, versions.range_key_count);
      range_key_bytes = omega (arith, own.range_key_bytes, intents.range_key_bytes, versions.range_key_bytes);
      range_val_count = omega (arith, own.range_val_count, intents.range_val_count, versions.range_val_count);
      range_val_bytes = omega (arith, own.range_val_bytes, intents.range_val_bytes, versions.range_val_bytes);
    }

-- what the code counts of values, live bytes and ages is what the key adds
pub val_bytes-is : (now : ℕ) (k : KeyShape) (t n : ℕ) → t ≡ (versions_sums now None k.stack k.versions).val_bytes → n ≡ k.record_length + t
    → n ≡ (key_sums now k).val_bytes
val_bytes-is now k t n tally is = is ∙ ap (λ m. k.record_length + m) tally ∙ sym ((key_sums-adds now k).val_bytes)

pub live_bytes-is : (now : ℕ) (k : KeyShape) (dead : Option Timestamp) (t n : ℕ) → dead ≡ newest_dead k k.versions
    → t ≡ (versions_sums now None k.stack k.versions).live_bytes → n ≡ t + (live_or_garbage now (k.key_length + 1 + k.record_length) dead).live_bytes
    → n ≡ (key_sums now k).live_bytes
live_bytes-is now k dead t n newest tally is =
    is ∙ (λ i. tally i + (live_or_garbage now (k.key_length + 1 + k.record_length) (newest i)).live_bytes) ∙ sym ((key_sums-adds now k).live_bytes)

pub gc_bytes_age-is : (now : ℕ) (k : KeyShape) (dead : Option Timestamp) (t n : ℕ) → dead ≡ newest_dead k k.versions
    → t ≡ (versions_sums now None k.stack k.versions).gc_bytes_age → n ≡ t + (live_or_garbage now (k.key_length + 1 + k.record_length) dead).gc_bytes_age
    → n ≡ (key_sums now k).gc_bytes_age
gc_bytes_age-is now k dead t n newest tally is =
    is ∙ (λ i. tally i + (live_or_garbage now (k.key_length + 1 + k.record_length) (newest i)).gc_bytes_age) ∙ sym ((key_sums-adds now k).gc_bytes_age)

-- the versions' lengths are those of their shapes
pub lengths-shapes : (vs : List code.VersionShape) → AllByRecursion (λ v. v.value_length ≤ 2 ^ 25) (map version_shape_of vs) → AllByRecursion (λ v. v.value_len ≤ 2 ^ 25) vs
lengths-shapes [] all = tt
lengths-shapes (v ∷ vs) all = (all.0, lengths-shapes vs all.1)

-- where there is no tombstone, the stack is newest first
pub no_stack : IsStrictlySortedBy newer_first []
unfolding IsStrictlySortedBy
no_stack = tt

-- a live key counts 1 at most
pub live_key-within : (dead : Option Timestamp) → live_key dead ≤ 1
live_key-within None = omega arith
live_key-within (Some ts) = omega arith

-- a difference of what two keys add fits, where both keys are within the limits
pub difference-fits : (a b : ℤ) (m n : ℕ) → a ≡ pos m → b ≡ pos n → m ≤ 2 ^ 121 → n ≤ 2 ^ 121 → FitsSigned w128 (a -ℤ b)
difference-fits a b m n e f p q = omega (arith, ints)
