-- How contracts see a merging cursor.
use Rattle.std.specs.Prelude.{ℕ, Bool, List, map, All, IsTrue}
use Rattle.mvcc_key.specs.Points.{Point}
use Rattle.merge_cursor.specs.Merged.{merged}
use Rattle.merge_cursor.specs.views.Standing.{standings, lists_of, merged_place}
use Rattle.merge_cursor.specs.declared.merge.MergeCursor.{MergeCursor}

-- the points of its parts, the newest part first
abbrev pub lists_in : {C : Type 0} {B : _} → (C → List Point) → MergeCursor C B → List (List Point)
lists_in points m = map points m.parts.items

-- each of its parts is a part's cursor
abbrev pub HasParts : {C : Type 0} {B : _} → (C → Bool) → MergeCursor C B → Type 0
HasParts is_part m = All (λ c. IsTrue (is_part c)) m.parts.items

-- its parts stand on the way on, as after `seek_ge` and `next`
abbrev pub is_ahead : {C : Type 0} {B : _} → MergeCursor C B → Bool
is_ahead m = m.ahead

-- the merged points
abbrev pub shown_points : {C : Type 0} {B : _} → (C → List Point) → (C → ℕ) → (C → Bool) → MergeCursor C B → List Point
shown_points points place is_part m = merged (lists_of (standings points place is_part m.parts.items))

-- the place among them
abbrev pub shown_place : {C : Type 0} {B : _} → (C → List Point) → (C → ℕ) → (C → Bool) → MergeCursor C B → ℕ
shown_place points place is_part m = merged_place m.ahead (standings points place is_part m.parts.items) m.current
