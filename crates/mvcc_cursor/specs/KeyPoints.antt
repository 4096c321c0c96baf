-- The points of one key among all: its record, and then its versions from the newest.
use Rattle.std.specs.Prelude.{Bool, not, List, filter, find, Option, Some, None, if◌then◌else◌}
use Rattle.std.specs.Option.{option_map}
use Rattle.mvcc_key.specs.Lists.{first, last}
use Rattle.mvcc_key.specs.Order.{Key, Name, no_time, is_no_time, is_same_key, is_below, is_at_or_below}
use Rattle.mvcc_key.specs.Points.{Point, is_below_name}

-- the name of the key's record, which stands before its versions
abbrev pub record_name : Key → Name
record_name key = record { key = key; ts = no_time }

-- the point is one of the key
abbrev pub is_of_key : Key → Point → Bool
is_of_key key p = is_same_key p.name.key key

-- the points of the key
unfoldable pub points_of : Key → List Point → List Point
points_of key points = filter (is_of_key key) points

-- the point is a version
abbrev pub is_version : Point → Bool
is_version p = not (is_no_time p.name.ts)

-- the versions among them
unfoldable pub versions_in : List Point → List Point
versions_in points = filter is_version points

-- the point, where it passes the test
abbrev pub kept_if : (Point → Bool) → Option Point → Option Point
kept_if test None = None
kept_if test (Some p) = if test p then Some p else None

-- the key of the point
abbrev pub key_in : Option Point → Option Key
key_in = option_map (λ p. p.name.key)

-- the first point that is not below the name
abbrev pub first_from : Name → List Point → Option Point
first_from name points = find (λ p. not (is_below_name name p)) points

-- the first point of a key above the key
abbrev pub first_above : Key → List Point → Option Point
first_above key points = find (λ p. is_below key p.name.key) points

-- the first key at or above the key
abbrev pub key_from : Key → List Point → Option Key
key_from key points = key_in (find (λ p. is_at_or_below key p.name.key) points)

-- the first key above the key
abbrev pub key_above : Key → List Point → Option Key
key_above key points = key_in (first_above key points)

-- the last key below the key
abbrev pub key_below : Key → List Point → Option Key
key_below key points = key_in (last (filter (λ p. is_below p.name.key key) points))

-- the first key and the last one
abbrev pub first_key : List Point → Option Key
first_key points = key_in (first points)

-- the last key
abbrev pub last_key : List Point → Option Key
last_key points = key_in (last points)
