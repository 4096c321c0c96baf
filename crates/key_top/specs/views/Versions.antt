-- What a version counts that is the newest of a key without an intent, over which there is no tombstone.
use Rattle.std.specs.Prelude.{ℕ, ◌+◌, ◌*◌, ℤ, pos, ◌-ℤ◌, ◌+ℤ◌, if◌then◌else◌}
use Rattle.mvcc_key.specs.Field.{Field, KeyCount, KeyBytes, ValCount, ValBytes, LiveCount, LiveBytes, IntentCount, IntentBytes, IntentAge, GcBytesAge, RangeKeyCount, RangeKeyBytes, RangeValCount, RangeValBytes}
use Rattle.stat_core.specs.DeadSince.{VersionShape}
use Rattle.stat_core.specs.ComputeStats.{age}

-- 1 for a key of which it is the newest version, if it is no deletion
abbrev pub live_count_of : VersionShape → ℕ
live_count_of v = if v.deletion then 0 else 1

-- the bytes of a key with this version alone
abbrev pub bytes_of : ℕ → VersionShape → ℕ
bytes_of key_length v = key_length + 13 + v.value_length

-- of which these are live
abbrev pub live_bytes_of : ℕ → VersionShape → ℕ
live_bytes_of key_length v = if v.deletion then 0 else bytes_of key_length v

-- and these are garbage, by their age
abbrev pub garbage_of : ℕ → ℕ → VersionShape → ℕ
garbage_of now key_length v = if v.deletion then bytes_of key_length v * age now v.ts.wall else 0

-- by how much the age of garbage grows beside that where the newest version comes behind a newer one: it becomes garbage, and the key
-- that was so with it no longer is
abbrev pub garbage_behind : ℕ → ℕ → VersionShape → VersionShape → ℤ
garbage_behind now key_length old new =
    if old.deletion then pos 0 -ℤ pos ((key_length + 1) * age now old.ts.wall) else pos ((12 + old.value_length) * age now new.ts.wall)

-- what the first version of a key changes
abbrev pub change_by_first : ℕ → ℕ → VersionShape → Field → ℤ
change_by_first now key_length v KeyCount = pos 1
change_by_first now key_length v KeyBytes = pos (key_length + 13)
change_by_first now key_length v ValCount = pos 1
change_by_first now key_length v ValBytes = pos v.value_length
change_by_first now key_length v LiveCount = pos (live_count_of v)
change_by_first now key_length v LiveBytes = pos (live_bytes_of key_length v)
change_by_first now key_length v IntentCount = pos 0
change_by_first now key_length v IntentBytes = pos 0
change_by_first now key_length v IntentAge = pos 0
change_by_first now key_length v GcBytesAge = pos (garbage_of now key_length v)
change_by_first now key_length v RangeKeyCount = pos 0
change_by_first now key_length v RangeKeyBytes = pos 0
change_by_first now key_length v RangeValCount = pos 0
change_by_first now key_length v RangeValBytes = pos 0

-- what a version changes that comes in front of the newest one
abbrev pub change_by_next : ℕ → ℕ → VersionShape → VersionShape → Field → ℤ
change_by_next now key_length old new KeyCount = pos 0
change_by_next now key_length old new KeyBytes = pos 12
change_by_next now key_length old new ValCount = pos 1
change_by_next now key_length old new ValBytes = pos new.value_length
change_by_next now key_length old new LiveCount = pos (live_count_of new) -ℤ pos (live_count_of old)
change_by_next now key_length old new LiveBytes = pos (live_bytes_of key_length new) -ℤ pos (live_bytes_of key_length old)
change_by_next now key_length old new IntentCount = pos 0
change_by_next now key_length old new IntentBytes = pos 0
change_by_next now key_length old new IntentAge = pos 0
change_by_next now key_length old new GcBytesAge = pos (garbage_of now key_length new) +ℤ garbage_behind now key_length old new
change_by_next now key_length old new RangeKeyCount = pos 0
change_by_next now key_length old new RangeKeyBytes = pos 0
change_by_next now key_length old new RangeValCount = pos 0
change_by_next now key_length old new RangeValBytes = pos 0
