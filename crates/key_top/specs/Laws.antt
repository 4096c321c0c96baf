-- The laws of the tops of keys.
use Rattle.std.specs.Prelude.{◌≡◌, ℕ, ◌≤◌, List, ◌++◌, length, map, option_map}
use Rattle.mvcc_key.specs.Limits.{max_key_length}
use Rattle.mvcc_key.specs.Order.{Key}
use Rattle.mvcc_key.specs.History.{Version, History, versions_of, intent_of}
use Rattle.mvcc_key.specs.Fragments.{fragments}
use Rattle.mvcc_key.specs.Field.{Field}
use Rattle.intent_meta.specs.LeftAlone.{LeavesOtherKeys}
use Rattle.intent_meta.specs.Valid.{IsValid}
use Rattle.stat_delta.specs.Laws.{stored_change}
use Rattle.stat_delta.specs.Shapes.{version_shape, intent_shape}
use Rattle.key_top.specs.Top.{Front, IsShortTop, front_change, intent_in, top_in, versions_in}

-- the top of a key of a valid history is short
abbrev pub TopsAreShort : Type 0
TopsAreShort = (h : History) (key : Key) → IsValid h → length key ≤ max_key_length → IsShortTop (top_in h key)

-- it stands in front of these versions of the key
pub record StandsInFront (h : History) (key : Key) (behind : List Version) (front : Front) : Type 0 where
  pub new : List Version
  pub intent_is : option_map intent_shape (intent_of key h) ≡ intent_in front
  pub versions_are : versions_of key h ≡ new ++ behind
  pub new_are : map version_shape new ≡ versions_in front

-- where it comes in front of all the versions of a key, and no other key changes, the statistics change by what it changes for the
-- top of the key
abbrev pub FrontsChange : Type 0
FrontsChange =
    (now : ℕ) (h h' : History) (key : Key) (front : Front) (f : Field) → IsValid h → IsValid h' → LeavesOtherKeys key h h'
    → StandsInFront h' key (versions_of key h) front
    → front_change now (top_in h key) front f ≡ stored_change now (fragments h.tombstones) h h' f
