-- How contracts see a cursor over the visible pairs.
use Rattle.std.specs.Prelude.{Bool, List}
use Rattle.mvcc_key.specs.Points.{Point}
use Rattle.merge_cursor.specs.views.Seen.{lists_in, HasParts, is_ahead}
use Rattle.merge_cursor.specs.declared.visible.VisibleCursor.{VisibleCursor}

-- the points of its parts, the newest part first
abbrev pub lists_behind : {C : Type 0} {B : _} → (C → List Point) → VisibleCursor C B → List (List Point)
lists_behind points v = lists_in points v.merged

-- each of its parts is a part's cursor
abbrev pub StandsOnParts : {C : Type 0} {B : _} → (C → Bool) → VisibleCursor C B → Type 0
StandsOnParts is_part v = HasParts is_part v.merged

-- its parts stand on the way on, as after `seek_ge` and `next`
abbrev pub goes_ahead : {C : Type 0} {B : _} → VisibleCursor C B → Bool
goes_ahead v = is_ahead v.merged
