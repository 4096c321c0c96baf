-- Running statistics, and the places of the fields in their order.
use Rattle.std.specs.Prelude.{◌≡◌, ℕ, ◌<◌, ◌^◌, List, [], ◌∷◌, length, slice_index, None}
use Rattle.std.proofs.Common.{refl, arith}
use Rattle.mvcc_key.specs.Field.{Field, KeyCount, KeyBytes, ValCount, ValBytes, LiveCount, LiveBytes, IntentCount, IntentBytes, IntentAge, GcBytesAge, RangeKeyCount, RangeKeyBytes, RangeValCount, RangeValBytes}
use Rattle.stat_core.specs.ComputeStats.{Sums, overflowing}

-- statistics as they stand at a wall time, and the bound that none of them passes
pub record Running : Type 0 where
  pub sums : Sums
  pub last : ℕ
  pub count_max : ℕ

-- the place of a field in their order
abbrev pub field_index : Field → ℕ
field_index KeyCount = 0
field_index KeyBytes = 1
field_index ValCount = 2
field_index ValBytes = 3
field_index LiveCount = 4
field_index LiveBytes = 5
field_index IntentCount = 6
field_index IntentBytes = 7
field_index IntentAge = 8
field_index GcBytesAge = 9
field_index RangeKeyCount = 10
field_index RangeKeyBytes = 11
field_index RangeValCount = 12
field_index RangeValBytes = 13

-- counters in the order of the fields, as statistics
abbrev pub sums_of : List ℕ → Sums
sums_of counts = record {
  key_count = slice_index counts 0;
  key_bytes = slice_index counts 1;
  val_count = slice_index counts 2;
  val_bytes = slice_index counts 3;
  live_count = slice_index counts 4;
  live_bytes = slice_index counts 5;
  intent_count = slice_index counts 6;
  intent_bytes = slice_index counts 7;
  intent_age = slice_index counts 8;
  gc_bytes_age = slice_index counts 9;
  range_key_count = slice_index counts 10;
  range_key_bytes = slice_index counts 11;
  range_val_count = slice_index counts 12;
  range_val_bytes = slice_index counts 13;
}

-- statistics as counters in the order of the fields
abbrev pub counts_of : Sums → List ℕ
counts_of s =
    s.key_count ∷ s.key_bytes ∷ s.val_count ∷ s.val_bytes ∷ s.live_count ∷ s.live_bytes ∷ s.intent_count ∷ s.intent_bytes
    ∷ s.intent_age ∷ s.gc_bytes_age ∷ s.range_key_count ∷ s.range_key_bytes ∷ s.range_val_count ∷ s.range_val_bytes ∷ []

-- a list of fourteen counters is told by what it is as statistics
pub counts_of-sums_of : (counts : List ℕ) → length counts ≡ 14 → counts_of (sums_of counts) ≡ counts
counts_of-sums_of [] long = absurd (omega arith)
counts_of-sums_of (a ∷ []) long = absurd (omega arith)
counts_of-sums_of (a ∷ b ∷ []) long = absurd (omega arith)
counts_of-sums_of (a ∷ b ∷ d ∷ []) long = absurd (omega arith)
counts_of-sums_of (a ∷ b ∷ d ∷ e ∷ []) long = absurd (omega arith)
counts_of-sums_of (a ∷ b ∷ d ∷ e ∷ f ∷ []) long = absurd (omega arith)
counts_of-sums_of (a ∷ b ∷ d ∷ e ∷ f ∷ g ∷ []) long = absurd (omega arith)
counts_of-sums_of (a ∷ b ∷ d ∷ e ∷ f ∷ g ∷ h ∷ []) long = absurd (omega arith)
counts_of-sums_of (a ∷ b ∷ d ∷ e ∷ f ∷ g ∷ h ∷ i ∷ []) long = absurd (omega arith)
counts_of-sums_of (a ∷ b ∷ d ∷ e ∷ f ∷ g ∷ h ∷ i ∷ j ∷ []) long = absurd (omega arith)
counts_of-sums_of (a ∷ b ∷ d ∷ e ∷ f ∷ g ∷ h ∷ i ∷ j ∷ k ∷ []) long = absurd (omega arith)
counts_of-sums_of (a ∷ b ∷ d ∷ e ∷ f ∷ g ∷ h ∷ i ∷ j ∷ k ∷ l ∷ []) long = absurd (omega arith)
counts_of-sums_of (a ∷ b ∷ d ∷ e ∷ f ∷ g ∷ h ∷ i ∷ j ∷ k ∷ l ∷ m ∷ []) long = absurd (omega arith)
counts_of-sums_of (a ∷ b ∷ d ∷ e ∷ f ∷ g ∷ h ∷ i ∷ j ∷ k ∷ l ∷ m ∷ n ∷ []) long = absurd (omega arith)
counts_of-sums_of (a ∷ b ∷ d ∷ e ∷ f ∷ g ∷ h ∷ i ∷ j ∷ k ∷ l ∷ m ∷ n ∷ o ∷ []) long = refl
counts_of-sums_of (a ∷ b ∷ d ∷ e ∷ f ∷ g ∷ h ∷ i ∷ j ∷ k ∷ l ∷ m ∷ n ∷ o ∷ p ∷ ps) long = absurd (omega arith)

-- a counter for each field, of which none passes the bound, and the bound and the moment in their ranges
pub record AreKept (counts : List ℕ) (moment bound : ℕ) : Type 0 where
  pub all : length counts ≡ 14
  pub fits : overflowing bound (sums_of counts) ≡ None
  pub some : 0 < bound
  pub count_max : bound < 2 ^ 63
  pub last : moment < 2 ^ 63
