-- What the parts of a store show, and the parts by what each of them names. A store is seen as the runs that its parts are, from the
-- newest to the oldest: the memory table first, as the run that a flush makes of it.
use Rattle.std.specs.Prelude.{List, [], ◌∷◌, ◌++◌, map, is_some, not}
use Rattle.std.specs.List.{filter_map}
use Rattle.std.specs.Option.{option_map}
use Rattle.mvcc_key.specs.Lists.{is_empty}
use Rattle.mvcc_key.specs.Order.{Pair}
use Rattle.mvcc_key.specs.Points.{Point}
use Rattle.mvcc_key.specs.Fragments.{Fragment}
use Rattle.range_key.specs.RangeOps.{fragments_after}
use Rattle.mem_table.specs.Table.{newest_points}
use Rattle.merge_cursor.specs.Merged.{merged}
use Rattle.merge_cursor.specs.Visible.{visible}
use Rattle.run_block.specs.RunFormat.{Run}
use Rattle.lsm_store.specs.Parts.{NameState, Part, Stage}

-- a part that holds nothing
abbrev pub empty_run : Run
empty_run = record { points = []; ranges = [] }

-- a new store: an empty memory table
abbrev pub first_runs : List Run
first_runs = empty_run ∷ []

-- the points of the parts
abbrev pub points_in : List Run → List (List Point)
points_in parts = map (λ r. r.points) parts

-- the points that are visible, of lists from the newest to the oldest: of each name the newest list's, and none where that clears it
unfoldable pub visible_points : List (List Point) → List Point
visible_points lists = visible (merged lists)

-- the points that are seen
abbrev pub shown : List Run → List Point
shown parts = visible_points (points_in parts)

-- the points that are seen after a batch: each of its names as the batch has it, the others as before
unfoldable pub with_batch : List Point → List Point → List Point
with_batch batch points = visible (newest_points (batch ++ points))

-- the fragments after the range operations of the parts, the oldest part's first, on older fragments
abbrev pub fragments_over : List Fragment → List Run → List Fragment
fragments_over older [] = older
fragments_over older (r ∷ rs) = fragments_after (fragments_over older rs) r.ranges

-- the fragments that the range operations of the parts give
abbrev pub fragments_in : List Run → List Fragment
fragments_in = fragments_over []

-- the points that are set, as stored pairs
unfoldable pub pairs_of : List Point → List Pair
pairs_of points = filter_map (λ p. option_map (λ v. record { name = p.name; value = v }) p.value) points

-- what a point says of its name
abbrev pub state_of_point : Point → NameState
state_of_point p = record { name = p.name; is_set = is_some p.value }

-- a part by what it says of its names, and whether it has range operations, with the fragments over which it closes
abbrev pub part_of : Run → List Fragment → Part
part_of r closing = record { states = map state_of_point r.points; ranges = not (is_empty r.ranges); closing = closing }

-- the parts by what they say of their names
unfoldable pub parts_of : List Run → List Part
parts_of [] = []
parts_of (r ∷ rs) = part_of r (fragments_in (r ∷ rs)) ∷ parts_of rs

-- the pairs that are seen, and the fragments
abbrev pub stage_of : List Run → Stage
stage_of parts = record { pairs = pairs_of (shown parts); fragments = fragments_in parts }
