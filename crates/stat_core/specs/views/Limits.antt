-- How much one key's group may hold, so that its sums stay in signed 128-bit numbers.
use Rattle.std.specs.Prelude.{◌≤◌, ◌^◌, length}
use Rattle.std.specs.List.{AllByRecursion}
use Rattle.std.specs.List.Sorted.{IsStrictlySortedBy}
use Rattle.mvcc_key.specs.Order.{newer_first}
use Rattle.stat_core.specs.ComputeStats.{KeyShape}

-- lengths of at most 2^25, at most 2^60 versions, and a stack that is newest first
pub record IsInLimits (k : KeyShape) : Type 0 where
  pub key_length : k.key_length ≤ 2 ^ 25
  pub record_length : k.record_length ≤ 2 ^ 25
  pub value_lengths : AllByRecursion (λ v. v.value_length ≤ 2 ^ 25) k.versions
  pub versions : length k.versions ≤ 2 ^ 60
  pub stack : IsStrictlySortedBy newer_first k.stack
