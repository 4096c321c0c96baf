-- Halving over abbreviated keys alone.
use Rattle.std.specs.Prelude.{ℕ, ◌+◌, ◌<◌, ◌≤◌, List, length, slice_index}

-- each abbreviated key is at most each later one
abbrev pub AreNotFalling : List ℕ → Type 0
AreNotFalling abbreviated_keys = (i j : ℕ) → i ≤ j → j < length abbreviated_keys → slice_index abbreviated_keys i ≤ slice_index abbreviated_keys j

-- of so many abbreviated keys from the base on those before `low` are below the abbreviated key, and those behind the `left` next ones are above it
pub record IsHalved (abbreviated_keys : List ℕ) (abbreviated base count low left : ℕ) : Type 0 where
  pub from : base ≤ low
  pub upto : low + left ≤ base + count
  pub fewer : left ≤ count
  pub below : (k : ℕ) → base ≤ k → k < low → slice_index abbreviated_keys k < abbreviated
  pub above : (k : ℕ) → low + left ≤ k → k < base + count → abbreviated < slice_index abbreviated_keys k
