-- What the cursors under a cursor over keys show, and where they stand.
use Rattle.std.specs.Prelude.{◌≡◌, ℕ, Bool, true, false, List, [], ◌∷◌, ◌++◌, drop, Option, is_some}
use Rattle.mvcc_key.specs.Lists.{first}
use Rattle.mvcc_key.specs.Order.{Key, Name, Timestamp}
use Rattle.mvcc_key.specs.KeyFormat.{encoded_name}
use Rattle.mvcc_key.specs.Encoded.{name_in}
use Rattle.mvcc_key.specs.Points.{Point, count_below, point_at}
use Rattle.merge_cursor.specs.views.Seen.{shown_points, shown_place}
use Rattle.merge_cursor.specs.views.SeenVisible.{lists_behind, StandsOnParts, goes_ahead}
use Rattle.merge_cursor.specs.Merged.{seek_looks, entries_below, entries_before}
use Rattle.merge_cursor.specs.Visible.{visible, visible_place}
use Rattle.merge_cursor.specs.declared.visible.VisibleCursor.{VisibleCursor}
use Rattle.run_block.specs.RunFormat.{Run}
use Rattle.lsm_store.specs.Shown.{points_in, shown}
use Rattle.lsm_store.specs.views.Cursors.{points_at, place_at}
use Rattle.lsm_store.specs.declared.part.PartCursor.{PartCursor}
use Rattle.mvcc_cursor.specs.KeyPoints.{record_name, versions_in}
use Rattle.mvcc_cursor.specs.Standing as standing
use Rattle.mvcc_cursor.specs.declared.stand.Stand.{Stand}
use Rattle.mvcc_cursor.specs.declared.stand.Stand.TheVariants.{Before, At, Past}

-- the points that it shows
abbrev pub points_under : {B : _} → VisibleCursor PartCursor B → List Point
points_under v = visible (shown_points points_at place_at (λ _. true) v.merged)

-- the place among them
abbrev pub place_under : {B : _} → VisibleCursor PartCursor B → ℕ
place_under v = visible_place (shown_points points_at place_at (λ _. true) v.merged) (shown_place points_at place_at (λ _. true) v.merged)

-- what each part has
abbrev pub parts_under : {B : _} → VisibleCursor PartCursor B → List (List Point)
parts_under v = lists_behind points_at v

-- its parts stand on the way on
abbrev pub is_ahead_under : {B : _} → VisibleCursor PartCursor B → Bool
is_ahead_under v = goes_ahead v

-- it is a cursor over the store, whose parts are parts
abbrev pub IsOver : {B : _} → List Run → VisibleCursor PartCursor B → Type 0
IsOver store v = (points_under v ≡ shown store) × (parts_under v ≡ points_in store) × StandsOnParts (λ _. true) v

-- the point at which it stands
abbrev pub point_under : {B : _} → VisibleCursor PartCursor B → Option Point
point_under v = point_at (points_under v) (place_under v)

-- the key of the name sought
abbrev pub key_under : List ℕ → Key
key_under sought = (name_in sought).key

-- the name of the version of that key at a timestamp
abbrev pub version_under : List ℕ → Timestamp → Name
version_under sought ts = record { key = key_under sought; ts = ts }

-- the place among the stored keys
abbrev pub place_in : Stand → List ℕ → standing.Place
place_in Before sought = standing.BeforeFirst
place_in At sought = standing.AtKey (key_under sought)
place_in Past sought = standing.PastLast

-- the versions still to be given: those behind the place of the one that was given last
abbrev pub left_in : Bool → standing.Place → List Point → ℕ → List Point
left_in true at points place = standing.points_at at (drop place points)
left_in false at points place = versions_in (standing.points_at at points)

-- a point of the key is stored
abbrev pub is_stored : standing.Place → List Point → Bool
is_stored at points = is_some (first (standing.points_at at points))

-- the record of the key is stored
abbrev pub has_record : standing.Place → List Point → Bool
has_record at points = is_some (standing.record_point (standing.points_at at points))

-- how many points stand before the record of the key
abbrev pub before_key : List ℕ → List Point → ℕ
before_key sought points = count_below (record_name (key_under sought)) points

-- how many points stand before those of later keys
abbrev pub behind_key : List ℕ → List Point → ℕ
behind_key sought points = count_below (record_name (key_under sought ++ 0 ∷ [])) points

-- how many entries of the parts stand before the version that was given last, or before the key's points where none was
abbrev pub passed_in : Bool → List ℕ → List Run → ℕ → ℕ
passed_in true sought store place = entries_before (point_at (shown store) place) (points_in store)
passed_in false sought store place = entries_below (record_name (key_under sought)) (points_in store)

-- the looks that the first version takes beside those at entries that are passed
abbrev pub begin_looks : Bool → List Run → ℕ
begin_looks true store = 0
begin_looks false store = seek_looks (points_in store)

-- the bytes are the name of the record of their key
abbrev pub IsRecordName : List ℕ → Type 0
IsRecordName sought = sought ≡ encoded_name (record_name (key_under sought))
