-- What a move makes of a place.
use Rattle.std.specs.Prelude.{ℕ, ◌+◌, ◌-◌, Bool, false, ◌&&◌, List, length, min, nat_lt, nat_le, ⊤, Option, Some, None, if◌then◌else◌}
use Rattle.std.specs.Ordering.{is_lt, is_le}
use Rattle.mvcc_key.specs.Order.{Name, name_cmp, is_same_name}
use Rattle.mvcc_key.specs.Encoded.{name_in, IsName}
use Rattle.mvcc_key.specs.views.Looks.{bits}
use Rattle.mvcc_key.specs.Points.{Point, count_below}
use Rattle.merge_cursor.specs.views.Standing.{Standing, head}
use Rattle.merge_cursor.specs.declared.moves.Move.{Move}
use Rattle.merge_cursor.specs.declared.moves.Move.TheVariants.{SeekGe, SeekLt, Next, Prev}

-- what is sought is an encoded key
abbrev pub IsSound : Move → Type 0
IsSound (SeekGe key) = IsName key.now
IsSound (SeekLt key) = IsName key.now
IsSound Next = ⊤
IsSound Prev = ⊤

-- the place after it
abbrev pub place_after : Move → List Point → ℕ → ℕ
place_after (SeekGe key) points place = count_below (name_in key.now) points + 1
place_after (SeekLt key) points place = count_below (name_in key.now) points
place_after Next points place = min (place + 1) (length points + 1)
place_after Prev points place = place - 1

-- it takes a look at least
abbrev pub takes_look : Move → List Point → ℕ → Bool
takes_look (SeekGe key) points place = nat_lt 0 (length points)
takes_look (SeekLt key) points place = nat_lt 0 (length points)
takes_look Next points place = nat_lt 0 place && nat_le place (length points)
takes_look Prev points place = nat_lt 0 place && nat_le place (length points)

-- how many looks it takes at most
abbrev pub looks_of : Move → List Point → ℕ
looks_of (SeekGe key) points = bits (length points) + 2
looks_of (SeekLt key) points = bits (length points) + 2
looks_of Next points = 1
looks_of Prev points = 1

-- the part after it
abbrev pub moved : Move → Standing → Standing
moved to s = record { points = s.points; place = place_after to s.points s.place; is_part = s.is_part }

-- the point there, if any, has the name
abbrev pub is_at : Name → Option Point → Bool
is_at name (Some p) = is_same_name p.name name
is_at name None = false

-- the part after a move where it stands at the name
abbrev pub passed : Move → Name → Standing → Standing
passed to name s = if is_at name (head s) then moved to s else s

-- how many looks that takes at most
abbrev pub passing_looks : Move → Name → Standing → ℕ
passing_looks to name s = if is_at name (head s) then looks_of to s.points else 0

-- the names that are left behind where the way goes on from a point
abbrev pub cut_past : Bool → Option Point → Name → Bool
cut_past ahead (Some p) n = is_le (name_cmp n p.name)
cut_past ahead None n = ahead

-- the names that are left behind where the way goes back from a point
abbrev pub cut_before : Bool → Option Point → Name → Bool
cut_before ahead (Some p) n = is_lt (name_cmp n p.name)
cut_before ahead None n = ahead
