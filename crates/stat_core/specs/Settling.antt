-- What running statistics become: each of them is a signed number first, and is compared with the bound at the end.
use Rattle.std.specs.Prelude.{ℕ, ◌+◌, ◌*◌, ℤ, pos, negsuc, ◌+ℤ◌, ◌-ℤ◌, ◌*ℤ◌, ◌≤ℤ◌}
use Rattle.mvcc_key.specs.Field.{Field, KeyCount, KeyBytes, ValCount, ValBytes, LiveCount, LiveBytes, IntentCount, IntentBytes, IntentAge, GcBytesAge, RangeKeyCount, RangeKeyBytes, RangeValCount, RangeValBytes}
use Rattle.stat_core.specs.ComputeStats.{Sums, age, field}
use Rattle.stat_core.specs.Running.{Running}
use Rattle.stat_core.specs.views.Seen.{number}
use Rattle.stat_core.specs.declared.group.Group.{Group}

-- the bytes that are not live
abbrev pub garbage : Sums → ℤ
garbage s = pos (s.key_bytes + s.val_bytes + s.range_key_bytes + s.range_val_bytes) -ℤ pos s.live_bytes

-- what a statistic gains in so many seconds
abbrev pub gain : Sums → ℕ → Field → ℤ
gain s seconds KeyCount = pos 0
gain s seconds KeyBytes = pos 0
gain s seconds ValCount = pos 0
gain s seconds ValBytes = pos 0
gain s seconds LiveCount = pos 0
gain s seconds LiveBytes = pos 0
gain s seconds IntentCount = pos 0
gain s seconds IntentBytes = pos 0
gain s seconds IntentAge = pos (s.intent_count * seconds)
gain s seconds GcBytesAge = garbage s *ℤ pos seconds
gain s seconds RangeKeyCount = pos 0
gain s seconds RangeKeyBytes = pos 0
gain s seconds RangeValCount = pos 0
gain s seconds RangeValBytes = pos 0

-- the numbers with a group more
abbrev pub raised_number : Running → Group → Field → ℤ
raised_number s group f = pos (field f s.sums) +ℤ number f group

-- the numbers with a group less
abbrev pub lowered_number : Running → Group → Field → ℤ
lowered_number s group f = pos (field f s.sums) -ℤ number f group

-- the numbers at a moment: the whole seconds are those of each moment by itself
abbrev pub aged_number : Running → ℕ → Field → ℤ
aged_number s now f = pos (field f s.sums) +ℤ gain s.sums (age now s.last) f

-- the numbers at a moment, with a group more
abbrev pub settled_number : Running → Group → ℕ → Field → ℤ
settled_number s group now f = aged_number s now f +ℤ number f group

-- none of the numbers is negative
abbrev pub NoDebt : (Field → ℤ) → Type 0
NoDebt numbers = (f : Field) → pos 0 ≤ℤ numbers f

-- a number that is not negative, without its sign
abbrev pub whole : ℤ → ℕ
whole (pos n) = n
whole (negsuc n) = 0

-- numbers of which none is negative, as statistics
abbrev pub whole_sums : (Field → ℤ) → Sums
whole_sums numbers = record {
  key_count = whole (numbers KeyCount);
  key_bytes = whole (numbers KeyBytes);
  val_count = whole (numbers ValCount);
  val_bytes = whole (numbers ValBytes);
  live_count = whole (numbers LiveCount);
  live_bytes = whole (numbers LiveBytes);
  intent_count = whole (numbers IntentCount);
  intent_bytes = whole (numbers IntentBytes);
  intent_age = whole (numbers IntentAge);
  gc_bytes_age = whole (numbers GcBytesAge);
  range_key_count = whole (numbers RangeKeyCount);
  range_key_bytes = whole (numbers RangeKeyBytes);
  range_val_count = whole (numbers RangeValCount);
  range_val_bytes = whole (numbers RangeValBytes);
}

-- the statistics with these numbers
abbrev pub with_numbers : Running → ℕ → (Field → ℤ) → Running
with_numbers s now numbers = record { sums = whole_sums numbers; last = now; count_max = s.count_max }

-- the statistics with a group more
unfoldable pub raised : Running → Group → Running
raised s group = with_numbers s s.last (raised_number s group)

-- the statistics with a group less
unfoldable pub lowered : Running → Group → Running
lowered s group = with_numbers s s.last (lowered_number s group)

-- the statistics at a moment
unfoldable pub aged_to : Running → ℕ → Running
aged_to s now = with_numbers s now (aged_number s now)

-- the statistics at a moment, with a group more
unfoldable pub settled_stats : Running → Group → ℕ → Running
settled_stats s group now = with_numbers s now (settled_number s group now)
