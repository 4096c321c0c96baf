-- What holds of the parts of a run.
use Rattle.std.specs.Prelude.{◌≡◌, ℕ, List, Option, All}
use Rattle.mvcc_key.specs.declared.timestamp.Timestamp.{Timestamp}
use Rattle.run_block.specs.RunFormat.{Run}
use Rattle.run_block.specs.Runs.{IsRunOf}
use Rattle.run_block.specs.TimeSpan.{times_of, span_of}
use Rattle.run_block.specs.views.Places.{points_in, ranges_in, IsRangePlaced, span_seen}
use Rattle.run_block.specs.declared.place.PointPlace.{PointPlace}
use Rattle.run_block.specs.declared.place.RangePlace.{RangePlace}

-- the run at places
abbrev pub held_run : List ℕ → List PointPlace → List RangePlace → Run
held_run bytes points ranges = record { points = points_in bytes points; ranges = ranges_in bytes ranges }

-- the bytes are those of the run at the places, and the span is that of its timestamps
pub record IsHeld (bytes : List ℕ) (points : List PointPlace) (ranges : List RangePlace) (span : Option (Timestamp × Timestamp)) : Type 0 where
  pub run : IsRunOf bytes (held_run bytes points ranges)
  pub ranges_placed : All (IsRangePlaced bytes) ranges
  pub span_is : span_seen span ≡ span_of (times_of (held_run bytes points ranges))
