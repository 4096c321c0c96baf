-- Counters and signed numbers that stand in the order of the fields.
use Rattle.std.specs.Prelude.{◌≡◌, ℕ, ◌^◌, ◌<◌, ◌≤◌, ℤ, pos, ◌+ℤ◌, ◌-ℤ◌, ◌≤ℤ◌, ◌<ℤ◌, List, length, slice_index, slice_index_or}
use Rattle.mvcc_key.specs.Field.{Field}
use Rattle.stat_core.specs.ComputeStats.{field}
use Rattle.stat_core.specs.Running.{Running, field_index}
use Rattle.stat_core.specs.declared.counters.Sign.{Sign}
use Rattle.stat_core.specs.declared.counters.Sign.TheVariants.{Plus, Minus}

-- the counter of a field
abbrev pub count_at : List ℕ → Field → ℕ
count_at counts f = slice_index counts (field_index f)

-- the number of a field
abbrev pub number_at : List ℤ → Field → ℤ
number_at numbers f = slice_index_or numbers (field_index f) (pos 0)

-- from -2^n to 2^n
pub record IsWithin (n : ℕ) (z : ℤ) : Type 0 where
  pub low : (pos 0 -ℤ pos (2 ^ n)) ≤ℤ z
  pub high : z ≤ℤ pos (2 ^ n)

-- a number more, or less
abbrev pub moved_by : Sign → ℤ → ℤ → ℤ
moved_by Plus base number = base +ℤ number
moved_by Minus base number = base -ℤ number

-- what a counter becomes
abbrev pub changed_number : List ℕ → List ℤ → List ℤ → Sign → Field → ℤ
changed_number counts gained numbers sign f = moved_by sign (pos (count_at counts f) +ℤ number_at gained f) (number_at numbers f)

-- what running statistics become
abbrev pub moved_number : Running → List ℤ → List ℤ → Sign → Field → ℤ
moved_number s gained numbers sign f = moved_by sign (pos (field f s.sums) +ℤ number_at gained f) (number_at numbers f)

-- the counters are these numbers, and none passes the bound
pub record AreCounted (bound : ℕ) (numbers : Field → ℤ) (counts : List ℕ) : Type 0 where
  pub all : length counts ≡ 14
  pub same : (f : Field) → pos (count_at counts f) ≡ numbers f
  pub within : (f : Field) → count_at counts f ≤ bound

-- the first field whose number passes the bound
pub record IsFirstAbove (bound : ℕ) (numbers : Field → ℤ) (f : Field) : Type 0 where
  pub above : pos bound <ℤ numbers f
  pub before : (g : Field) → field_index g < field_index f → numbers g ≤ℤ pos bound
