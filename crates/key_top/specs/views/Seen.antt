-- How contracts see the top of a key, and what comes in front of its newest committed version.
use Rattle.std.specs.Prelude.{map, option_map}
use Rattle.mvcc_key.specs.views.Seen.{time_of}
use Rattle.stat_core.specs.views.Seen.{version_shape_of}
use Rattle.stat_delta.specs.Shapes.{IntentShape}
use Rattle.key_top.specs.Top.{Top, Front, Nothing, Intent, Version}
use Rattle.key_top.specs.declared.top.IntentShape.{IntentShape as DeclaredIntent}
use Rattle.key_top.specs.declared.top.KeyTop.{KeyTop}
use Rattle.key_top.specs.declared.top.Front.{Front as DeclaredFront}
use Rattle.key_top.specs.declared.top.Front.TheVariants as code

-- an intent without its bytes
abbrev pub intent_shape_of : DeclaredIntent → IntentShape
intent_shape_of i = record { record_length = i.record_len; provisional = version_shape_of i.provisional }

-- the top of a key
abbrev pub seen_top : KeyTop → Top
seen_top t = record {
  key_length = t.key_len;
  intent = option_map intent_shape_of t.intent;
  newest = option_map version_shape_of t.newest;
  stack = map time_of t.stack.now;
}

-- what comes in front
abbrev pub seen_front : DeclaredFront → Front
seen_front code.Nothing = Nothing
seen_front (code.Intent shape) = Intent (intent_shape_of shape)
seen_front (code.Version shape) = Version (version_shape_of shape)
