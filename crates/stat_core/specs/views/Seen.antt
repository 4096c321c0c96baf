-- How contracts see the values of the code.
use Rattle.std.specs.Prelude.{ℤ, map, Option, Result, Ok, Err, Some, None, option_map}
use Rattle.mvcc_key.specs.Field as fields
use Rattle.mvcc_key.specs.Field.{KeyCount, KeyBytes, ValCount, ValBytes, LiveCount, LiveBytes, IntentCount, IntentBytes, IntentAge, GcBytesAge, RangeKeyCount, RangeKeyBytes, RangeValCount, RangeValBytes}
use Rattle.mvcc_key.specs.views.Seen.{time_of}
use Rattle.stat_core.specs.DeadSince as dead
use Rattle.stat_core.specs.ComputeStats.{KeyShape}
use Rattle.stat_core.specs.declared.field.Field.{Field}
use Rattle.stat_core.specs.declared.field.Field.TheVariants as code
use Rattle.stat_core.specs.declared.field.CountOverflow.{CountOverflow}
use Rattle.stat_core.specs.declared.group.Group.{Group}
use Rattle.stat_core.specs.declared.shape.VersionShape.{VersionShape}
use Rattle.stat_core.specs.declared.shape.GroupShape.{GroupShape}
use Rattle.stat_core.specs.declared.shape.GroupRef.{GroupRef}

-- one of the bounded statistics
abbrev pub field_of : Field → fields.Field
field_of code.KeyCount = KeyCount
field_of code.KeyBytes = KeyBytes
field_of code.ValCount = ValCount
field_of code.ValBytes = ValBytes
field_of code.LiveCount = LiveCount
field_of code.LiveBytes = LiveBytes
field_of code.IntentCount = IntentCount
field_of code.IntentBytes = IntentBytes
field_of code.IntentAge = IntentAge
field_of code.GcBytesAge = GcBytesAge
field_of code.RangeKeyCount = RangeKeyCount
field_of code.RangeKeyBytes = RangeKeyBytes
field_of code.RangeValCount = RangeValCount
field_of code.RangeValBytes = RangeValBytes

-- the statistic for which a call was refused, if it was
abbrev pub refused_field : {T : Type 0} → Result T CountOverflow → Option fields.Field
refused_field (Ok x) = None
refused_field (Err e) = Some (field_of e.field)

-- the group's number of a statistic
abbrev pub number : fields.Field → Group → ℤ
number KeyCount g = g.key_count
number KeyBytes g = g.key_bytes
number ValCount g = g.val_count
number ValBytes g = g.val_bytes
number LiveCount g = g.live_count
number LiveBytes g = g.live_bytes
number IntentCount g = g.intent_count
number IntentBytes g = g.intent_bytes
number IntentAge g = g.intent_age
number GcBytesAge g = g.gc_bytes_age
number RangeKeyCount g = g.range_key_count
number RangeKeyBytes g = g.range_key_bytes
number RangeValCount g = g.range_val_count
number RangeValBytes g = g.range_val_bytes

-- a version without its bytes
abbrev pub version_shape_of : VersionShape → dead.VersionShape
version_shape_of v = record { ts = time_of v.ts; value_length = v.value_len; deletion = v.deletion }

-- the shape of a key's group
abbrev pub key_shape_of : GroupShape → KeyShape
key_shape_of g = record {
  key_length = g.key_len;
  record_length = g.record_len;
  intent = option_map time_of g.intent;
  versions = map version_shape_of g.versions;
  stack = map time_of g.stack;
}

-- the shape of a key's group that is lent
abbrev pub lent_shape_of : GroupRef → KeyShape
lent_shape_of g = record {
  key_length = g.key_len;
  record_length = g.record_len;
  intent = option_map time_of g.intent;
  versions = map version_shape_of g.versions.now;
  stack = map time_of g.stack.now;
}
