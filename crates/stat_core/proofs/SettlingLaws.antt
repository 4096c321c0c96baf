-- Running statistics that are aged, or settled_stats with a change, are those of what is stored then.
use Rattle.std.specs.Prelude.{◌≡◌, ℕ, ◌+◌, ◌≤◌, ℤ, pos, ◌+ℤ◌, ◌-ℤ◌, ◌*ℤ◌, ◌≤ℤ◌, List}
use Rattle.std.proofs.Common.{sym, ◌∙◌, ap, subst, arith}
use Rattle.std.proofs.lemmas.Int.{ints}
use Rattle.mvcc_key.specs.Order.{Pair}
use Rattle.mvcc_key.specs.Fragments.{Fragment}
use Rattle.mvcc_key.specs.Field.{Field, KeyCount, KeyBytes, ValCount, ValBytes, LiveCount, LiveBytes, IntentCount, IntentBytes, IntentAge, GcBytesAge, RangeKeyCount, RangeKeyBytes, RangeValCount, RangeValBytes}
use Rattle.stat_core.specs.ComputeStats.{Sums, age, compute_stats, field, garbage_bytes, aged}
use Rattle.stat_core.specs.Running.{Running}
use Rattle.stat_core.specs.views.Seen.{number}
use Rattle.stat_core.specs.Settling.{garbage, aged_number, settled_number, NoDebt, whole, whole_sums, aged_to, settled_stats}
use Rattle.stat_core.specs.Laws.{AreOf, computed, IsChange}
use Rattle.stat_core.specs.declared.group.Group.{Group}
use Rattle.stat_core.proofs.BoundsLaws.{compute_stats-bounds}
use Rattle.stat_core.proofs.AgeingLaws.{compute_stats-ages}

-- the same numbers are the same statistics
pub whole_sums-same : (m n : Field → ℤ) → ((f : Field) → m f ≡ n f) → whole_sums m ≡ whole_sums n
whole_sums-same m n same = λ i. record {
  key_count = whole (same KeyCount i);
  key_bytes = whole (same KeyBytes i);
  val_count = whole (same ValCount i);
  val_bytes = whole (same ValBytes i);
  live_count = whole (same LiveCount i);
  live_bytes = whole (same LiveBytes i);
  intent_count = whole (same IntentCount i);
  intent_bytes = whole (same IntentBytes i);
  intent_age = whole (same IntentAge i);
  gc_bytes_age = whole (same GcBytesAge i);
  range_key_count = whole (same RangeKeyCount i);
  range_key_bytes = whole (same RangeKeyBytes i);
  range_val_count = whole (same RangeValCount i);
  range_val_bytes = whole (same RangeValBytes i);
}

-- numbers that are those of statistics are these statistics
whole_sums-is : (numbers : Field → ℤ) (s : Sums) → ((f : Field) → numbers f ≡ pos (field f s)) → whole_sums numbers ≡ s
whole_sums-is numbers s same = whole_sums-same numbers (λ f. pos (field f s)) same

-- where live bytes are among all, the numbers are those of the rule of ageing
aged-number : (s : Running) (now : ℕ) (f : Field) → s.sums.live_bytes ≤ s.sums.key_bytes + s.sums.val_bytes
    → aged_number s now f ≡ pos (field f (aged s.last now s.sums))
aged-number s now KeyCount h = omega (arith, ints)
aged-number s now KeyBytes h = omega (arith, ints)
aged-number s now ValCount h = omega (arith, ints)
aged-number s now ValBytes h = omega (arith, ints)
aged-number s now LiveCount h = omega (arith, ints)
aged-number s now LiveBytes h = omega (arith, ints)
aged-number s now IntentCount h = omega (arith, ints)
aged-number s now IntentBytes h = omega (arith, ints)
aged-number s now IntentAge h = omega (arith, ints)
aged-number s now GcBytesAge h =
    let signed : garbage s.sums ≡ pos (garbage_bytes s.sums) = omega (arith, ints) in
    ap (λ z. pos s.sums.gc_bytes_age +ℤ (z *ℤ pos (age now s.last))) signed
aged-number s now RangeKeyCount h = omega (arith, ints)
aged-number s now RangeKeyBytes h = omega (arith, ints)
aged-number s now RangeValCount h = omega (arith, ints)
aged-number s now RangeValBytes h = omega (arith, ints)

owes_nothing : (z : ℤ) (n : ℕ) → z ≡ pos n → pos 0 ≤ℤ z
owes_nothing z n e = omega (arith, ints)

-- so they are those of the same pairs and fragments at the moment
pub aged_number-computes : (s : Running) (pairs : List Pair) (fs : List Fragment) (now : ℕ) (f : Field) → AreOf s pairs fs → s.last ≤ now
    → aged_number s now f ≡ pos (field f (compute_stats now pairs fs))
aged_number-computes s pairs fs now f h up =
    aged-number s now f among
    ∙ ap (λ t. pos (field f t)) (ap (aged s.last now) h.sums ∙ sym (compute_stats-ages s.last now pairs fs h.pairs_by h.fragments_by up))
  where
    among : s.sums.live_bytes ≤ s.sums.key_bytes + s.sums.val_bytes
    among = subst (λ t. t.live_bytes ≤ t.key_bytes + t.val_bytes) (sym h.sums) ((compute_stats-bounds s.last pairs fs).live_bytes)

pub aged_number-no_debt : (s : Running) (pairs : List Pair) (fs : List Fragment) (now : ℕ) → AreOf s pairs fs → s.last ≤ now → NoDebt (aged_number s now)
aged_number-no_debt s pairs fs now h up = λ f. owes_nothing (aged_number s now f) (field f (compute_stats now pairs fs)) (aged_number-computes s pairs fs now f h up)

pub aged_to-computes : (s : Running) (pairs : List Pair) (fs : List Fragment) (now : ℕ) → AreOf s pairs fs → s.last ≤ now
    → aged_to s now ≡ computed s now pairs fs
unfolding aged_to
aged_to-computes s pairs fs now h up =
    ap (λ t. record { sums = t; last = now; count_max = s.count_max })
    (whole_sums-is (aged_number s now) (compute_stats now pairs fs) (λ f. aged_number-computes s pairs fs now f h up))

-- with a change they are those of the pairs and fragments after it
pub settled_number-computes : (s : Running) (before after : List Pair) (fs gs : List Fragment) (delta : Group) (now : ℕ) (f : Field) → AreOf s before fs → s.last ≤ now
    → IsChange delta now before after fs gs → settled_number s delta now f ≡ pos (field f (compute_stats now after gs))
settled_number-computes s before after fs gs delta now f h up change =
    by (aged_number s now f) (number f delta) (field f (compute_stats now before fs)) (field f (compute_stats now after gs))
    (aged_number-computes s before fs now f h up) (change f)
  where
    by : (a d : ℤ) (b n : ℕ) → a ≡ pos b → d ≡ pos n -ℤ pos b → a +ℤ d ≡ pos n
    by a d b n p q = omega (arith, ints)

pub settled_number-no_debt : (s : Running) (before after : List Pair) (fs gs : List Fragment) (delta : Group) (now : ℕ) → AreOf s before fs → s.last ≤ now
    → IsChange delta now before after fs gs → NoDebt (settled_number s delta now)
settled_number-no_debt s before after fs gs delta now h up change =
    λ f. owes_nothing (settled_number s delta now f) (field f (compute_stats now after gs)) (settled_number-computes s before after fs gs delta now f h up change)

pub settled-computes : (s : Running) (before after : List Pair) (fs gs : List Fragment) (delta : Group) (now : ℕ) → AreOf s before fs → s.last ≤ now
    → IsChange delta now before after fs gs → settled_stats s delta now ≡ computed s now after gs
unfolding settled_stats
settled-computes s before after fs gs delta now h up change =
    ap (λ t. record { sums = t; last = now; count_max = s.count_max })
    (whole_sums-is (settled_number s delta now) (compute_stats now after gs) (λ f. settled_number-computes s before after fs gs delta now f h up change))
