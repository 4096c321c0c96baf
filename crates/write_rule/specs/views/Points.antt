-- How contracts see the operations of a write.
use Rattle.std.specs.Prelude.{◌≡◌, ℕ, false, true, nat_lt, List, [], ◌∷◌, length, Option, Some, None, Result, Ok}
use Rattle.mvcc_key.specs.Steps.{unless_fault}
use Rattle.mvcc_key.specs.Limits.{max_stored_length}
use Rattle.mvcc_key.specs.Order.{Timestamp, no_time, is_no_time, is_before, Key, Pair}
use Rattle.mvcc_key.specs.History.{Body, Intent, History, intent_of}
use Rattle.mvcc_key.specs.Points.{Point}
use Rattle.mvcc_key.specs.Refusal.{Refusal, IntentTooLong}
use Rattle.mvcc_key.specs.views.SeenPoint.{points_of}
use Rattle.mvcc_key.specs.declared.batch.PointOp.{PointOp}
use Rattle.intent_meta.specs.PointPairs.{set_point, cleared_point}
use Rattle.intent_meta.specs.Record.{record_bytes}
use Rattle.intent_meta.specs.StoredPairs.{intent_record}
use Rattle.txn_state.specs.Transaction.{Actor, At, In}
use Rattle.write_rule.specs.Write.{WriteRequest, new_version, new_intent, written}
use Rattle.write_rule.specs.Planned.{version_points, intent_points}

-- it is the time of a version
abbrev pub IsTimed : Timestamp → Type 0
IsTimed ts = is_no_time ts ≡ false

-- a version at the first timestamp stands behind one at the second
pub record IsLeft (left ts : Timestamp) : Type 0 where
  pub some : is_no_time left ≡ false
  pub before : is_before left ts ≡ true

-- the pair of the key at the timestamp
abbrev pub pair_at : Key → Timestamp → List ℕ → Pair
pair_at key ts value = record { name = record { key = key; ts = ts }; value = value }

-- a version that was left behind is cleared
abbrev pub cleared_at : Key → Option Timestamp → List Point
cleared_at key None = []
cleared_at key (Some ts) = cleared_point (record { key = key; ts = ts }) ∷ []

-- a record and a version are set, and one that was left behind is cleared
abbrev pub points_at : Key → List ℕ → Timestamp → List ℕ → Option Timestamp → List Point
points_at key head ts value left = set_point (pair_at key no_time head) ∷ set_point (pair_at key ts value) ∷ cleared_at key left

-- the intent, unless its record is too long
abbrev pub unless_too_long : Intent → Result Intent Refusal
unless_too_long i = unless_fault (nat_lt max_stored_length (length (record_bytes (intent_record i)))) (IntentTooLong (length (record_bytes (intent_record i)))) i

-- the intent is put in the place of the old one, and its record is short enough
pub record IsPut (old : Option Intent) (new : Intent) (points : List PointOp) : Type 0 where
  pub points_are : points_of points ≡ intent_points old new
  pub short : nat_lt max_stored_length (length (record_bytes (intent_record new))) ≡ false

-- what puts a value: a version, or in a transaction an intent
abbrev pub points_by : Actor → Option Intent → Key → Timestamp → Body → List Point
points_by (At ts) old key local body = version_points (new_version key ts local body)
points_by (In t) old key local body = intent_points old (new_intent key t old local body)

-- the value is put, and the history after it is known
pub record Writes (h : History) (key : Key) (w : WriteRequest) (body : Body) (points : List PointOp) : Type 0 where
  pub after : History
  pub done : written h key w.who w.local body ≡ Ok after
  pub points_are : points_of points ≡ points_by w.who (intent_of key h) key w.local body
