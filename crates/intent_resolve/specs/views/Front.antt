-- How contracts see what a resolution leaves of an intent, without its bytes.
use Rattle.std.specs.Prelude.{Bool, true, false, length}
use Rattle.mvcc_value.specs.Encoding.{is_deletion_value}
use Rattle.mvcc_cursor.specs.views.Lent.{LentVersion}
use Rattle.stat_core.specs.DeadSince.{VersionShape}
use Rattle.stat_delta.specs.Shapes.{version_shape, intent_shape}
use Rattle.key_top.specs.Top.{Front, Nothing, Intent, Version}
use Rattle.intent_resolve.specs.Resolve as rule
use Rattle.intent_resolve.specs.views.Left as left

-- a version without its bytes
abbrev pub bytes_shape : LentVersion → VersionShape
bytes_shape v = record { ts = v.ts; value_length = length v.value; deletion = is_deletion_value v.value }

-- what is left, told by its bytes
abbrev pub front_left : left.Left → Front
front_left left.Gone = Nothing
front_left (left.Stays head v) = Intent (record { record_length = length head; provisional = bytes_shape v })
front_left (left.Becomes v) = Version (bytes_shape v)

-- what a resolution leaves
abbrev pub front_by : rule.Resolution → Front
front_by rule.Gone = Nothing
front_by (rule.Stays i) = Intent (intent_shape i)
front_by (rule.Becomes v) = Version (version_shape v)

-- something is left
abbrev pub is_front : Front → Bool
is_front Nothing = false
is_front (Intent shape) = true
is_front (Version shape) = true
