-- The least and the greatest timestamp of a run.
use Rattle.std.specs.Prelude.{◌≡◌, ℕ, true, List, ◌++◌, map, Option, Some, None, All, if◌then◌else◌, fold}
use Rattle.std.specs.List.{Contains, filter_map}
use Rattle.mvcc_key.specs.Order.{Timestamp, is_no_time, is_before, is_up_to, later}
use Rattle.mvcc_key.specs.Points.{Point}
use Rattle.intent_meta.specs.RecordTime.{time_in}
use Rattle.run_block.specs.RunFormat.{Run}

-- the timestamp of what is set under a name
abbrev pub set_time : Timestamp → List ℕ → Option Timestamp
set_time ts value = if is_no_time ts then time_in value else Some ts

-- the same, and none where nothing is set
abbrev pub value_time : Timestamp → Option (List ℕ) → Option Timestamp
value_time ts None = None
value_time ts (Some value) = set_time ts value

-- the timestamp of a set version or of a set intent record
abbrev pub point_time : Point → Option Timestamp
point_time p = value_time p.name.ts p.value

-- the timestamps of the set versions, of the set intent records, and of the range operations
abbrev pub times_of : Run → List Timestamp
times_of r = filter_map point_time r.points ++ map (λ o. o.ts) r.ranges

-- one of them, and none is earlier
pub record IsLeast (times : List Timestamp) (t : Timestamp) : Type 0 where
  pub one : Contains times t
  pub least : All (λ s. is_up_to t s ≡ true) times

-- one of them, and none is later
pub record IsGreatest (times : List Timestamp) (t : Timestamp) : Type 0 where
  pub one : Contains times t
  pub greatest : All (λ s. is_up_to s t ≡ true) times

-- the earlier of two timestamps
abbrev pub earlier : Timestamp → Timestamp → Timestamp
earlier s t = if is_before t s then t else s

-- a span with a timestamp in it
abbrev pub widened : Option (Timestamp × Timestamp) → Timestamp → Option (Timestamp × Timestamp)
widened None t = Some (t, t)
widened (Some span) t = Some (earlier span.0 t, later span.1 t)

-- the span of timestamps
abbrev pub span_of : List Timestamp → Option (Timestamp × Timestamp)
span_of times = fold widened None times
