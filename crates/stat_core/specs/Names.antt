-- The names of the statistics, as they are printed.
use Rattle.std.specs.Prelude.{ℕ, List, ◌++◌, codes}
use Rattle.mvcc_key.specs.Field.{Field, KeyCount, KeyBytes, ValCount, ValBytes, LiveCount, LiveBytes, IntentCount, IntentBytes, IntentAge, GcBytesAge, RangeKeyCount, RangeKeyBytes, RangeValCount, RangeValBytes}

-- the name of a statistic
abbrev pub field_name : Field → List ℕ
field_name KeyCount = codes "key_count"
field_name KeyBytes = codes "key_bytes"
field_name ValCount = codes "val_count"
field_name ValBytes = codes "val_bytes"
field_name LiveCount = codes "live_count"
field_name LiveBytes = codes "live_bytes"
field_name IntentCount = codes "intent_count"
field_name IntentBytes = codes "intent_bytes"
field_name IntentAge = codes "intent_age"
field_name GcBytesAge = codes "gc_bytes_age"
field_name RangeKeyCount = codes "range_key_count"
field_name RangeKeyBytes = codes "range_key_bytes"
field_name RangeValCount = codes "range_val_count"
field_name RangeValBytes = codes "range_val_bytes"

-- what is said of a statistic that would pass its bound
abbrev pub overflow_text : Field → List ℕ
overflow_text f = field_name f ++ codes " would pass its bound"
