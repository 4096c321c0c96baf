-- What the cursor of a part shows, whichever kind of part it is.
use Rattle.std.specs.Prelude.{ℕ, ◌+◌, ◌≤◌, List, length}
use Rattle.mvcc_key.specs.Points.{Point, IsRising, AreEncodable}
use Rattle.mem_table.specs.views.Seen.{points_held}
use Rattle.run_block.specs.views.Places.{points_in}
use Rattle.lsm_store.specs.declared.part.PartCursor.{PartCursor}
use Rattle.lsm_store.specs.declared.part.PartCursor.TheVariants.{Memory, Run}

-- its points
abbrev pub points_at : PartCursor → List Point
points_at (Memory c) = points_held c.pairs.now
points_at (Run c) = points_in c.pairs.now.bytes.items c.pairs.now.places.items

-- its place among them
abbrev pub place_at : PartCursor → ℕ
place_at (Memory c) = c.at
place_at (Run c) = c.at

-- the points rise
pub rising_at : (p : PartCursor) → IsRising (points_at p)
rising_at (Memory c) = c.pairs.now.entries.rising
rising_at (Run c) = c.pairs.now.rising

-- each name has an encoding
pub encodable_at : (p : PartCursor) → AreEncodable (points_at p)
encodable_at (Memory c) = c.pairs.now.encodable
encodable_at (Run c) = c.pairs.now.encodable

-- the place is among the points, before the first or past the last
pub in_range_at : (p : PartCursor) → place_at p ≤ length (points_at p) + 1
in_range_at (Memory c) = c.in_range
in_range_at (Run c) = c.in_range
