-- The timestamp of a record, read alone.
use Rattle.std.specs.Prelude.{ℕ, List, length, take, drop, Option, Some, None, nat_lt, if◌then◌else◌}
use Rattle.std.specs.Int.{w32, w64, from_be_bytes}
use Rattle.mvcc_key.specs.Order.{Timestamp, is_in_range}

-- what stands in bytes 24 to 35
abbrev pub time_at : List ℕ → Timestamp
time_at bytes = record { wall = from_be_bytes w64 (take 8 (drop 24 bytes)); logical = from_be_bytes w32 (take 4 (drop 32 bytes)) }

-- the timestamp there, where there is one in range
abbrev pub time_in : List ℕ → Option Timestamp
time_in bytes =
    if nat_lt (length bytes) 36 then None
    else if is_in_range (time_at bytes) then Some (time_at bytes)
    else None
