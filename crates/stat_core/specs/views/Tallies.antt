-- What a tally of points holds.
use Rattle.std.specs.Prelude.{◌≡◌}
use Rattle.stat_core.specs.ComputeStats.{Sums}
use Rattle.stat_core.specs.declared.tally.Tally.{Tally}

-- the bytes of values, the live bytes and the ages of the tally are those of the sums
pub record Counts (t : Tally) (s : Sums) : Type 0 where
  pub val_bytes : t.val_bytes ≡ s.val_bytes
  pub live_bytes : t.live_bytes ≡ s.live_bytes
  pub gc_bytes_age : t.gc_bytes_age ≡ s.gc_bytes_age
