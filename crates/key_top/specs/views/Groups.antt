-- How contracts see the top of a key as a group of its statistics.
use Rattle.std.specs.Prelude.{ℕ, ◌≤◌, List, length, Option, Some, None, option_map, IfSome}
use Rattle.std.specs.List.{AllByRecursion}
use Rattle.mvcc_key.specs.Order.{Timestamp}
use Rattle.stat_core.specs.ComputeStats.{KeyShape}
use Rattle.stat_core.specs.DeadSince.{VersionShape}
use Rattle.stat_delta.specs.Laws.{IsShortVersion, IsShortIntent}
use Rattle.stat_delta.specs.Shapes.{IntentShape}

-- the length of an intent's record, if there is one
abbrev pub record_length_of : Option IntentShape → ℕ
record_length_of None = 0
record_length_of (Some i) = i.record_length

-- an intent, if there is one, and at most two versions, each of them short
pub record AreShort (i : Option IntentShape) (vs : List VersionShape) : Type 0 where
  pub intent : IfSome i IsShortIntent
  pub versions : AllByRecursion IsShortVersion vs
  pub few : length vs ≤ 2

-- a key by its intent, if there is one, and all of its versions, the provisional one among them
abbrev pub group_shape : ℕ → List Timestamp → Option IntentShape → List VersionShape → KeyShape
group_shape key_length stack intent versions = record {
  key_length = key_length;
  record_length = record_length_of intent;
  intent = option_map (λ i. (i.provisional).ts) intent;
  versions = versions;
  stack = stack;
}
