-- Several lists of points as one, the newest list first, and the looks that their cursors take.
use Rattle.std.specs.Prelude.{ℕ, ◌+◌, List, length, flat_map, sum_by, Option, Some, None}
use Rattle.mvcc_key.specs.Lists.{in_order}
use Rattle.mvcc_key.specs.Order.{Name}
use Rattle.mvcc_key.specs.views.Looks.{bits}
use Rattle.mvcc_key.specs.Points.{Point, point_cmp, IsRising, count_below}
use Rattle.mvcc_key.proofs.PointLaws.{rising-in_order}

-- the lists one behind the other
abbrev pub joined : List (List Point) → List Point
joined lists = flat_map (λ ps. ps) lists

-- the newest state of each name, in order
unfoldable pub merged : List (List Point) → List Point
merged lists = in_order point_cmp (joined lists)

-- they rise, as each name is there once
pub merged-rising : (lists : List (List Point)) → IsRising (merged lists)
unfolding merged
merged-rising lists = rising-in_order (joined lists)

-- the most looks that a seek in each of the lists takes
abbrev pub seek_looks : List (List Point) → ℕ
seek_looks lists = sum_by (λ ps. bits (length ps) + 2) lists

-- how many points of the lists are below a name
abbrev pub entries_below : Name → List (List Point) → ℕ
entries_below name lists = sum_by (count_below name) lists

-- how many are below a point, or all where there is none
abbrev pub entries_before : Option Point → List (List Point) → ℕ
entries_before (Some p) lists = entries_below p.name lists
entries_before None lists = sum_by length lists
