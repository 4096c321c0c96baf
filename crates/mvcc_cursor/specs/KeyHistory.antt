-- What the points of a key tell of its history.
use Rattle.std.specs.Prelude.{◌≡◌, List, map}
use Rattle.mvcc_key.specs.Order.{Key}
use Rattle.mvcc_key.specs.History.{History, versions_of, intent_of}
use Rattle.mvcc_key.specs.Items.{items}
use Rattle.intent_meta.specs.Valid.{IsValid}
use Rattle.intent_meta.specs.KeyPairs.{key_pairs}
use Rattle.intent_meta.specs.PointPairs.{set_point}
use Rattle.run_block.specs.RunFormat.{Run}
use Rattle.lsm_store.specs.Shown.{shown}
use Rattle.mvcc_cursor.specs.WellFormed.{IsWellFormed, history_in}
use Rattle.mvcc_cursor.specs.KeyPoints.{points_of}
use Rattle.mvcc_cursor.specs.Standing.{sought_key}

-- the points of a key of a well-formed store are the two of its intent, where it has one, and its versions
abbrev pub KeyPointsAre : Type 0
KeyPointsAre = (store : List Run) (key : Key) → IsWellFormed (history_in store) store
    → points_of key (shown store) ≡ map set_point (key_pairs (intent_of key (history_in store)) (versions_of key (history_in store)))

-- what a history has of two keys is the same
pub record HasAlike (h : History) (a b : Key) : Type 0 where
  pub intent : intent_of a h ≡ intent_of b h
  pub items : items h a ≡ items h b

-- what a valid history has of a key that is longer than any bound is what it has of the first bytes of the key
abbrev pub LongKeysAreCut : Type 0
LongKeysAreCut = (h : History) (key : Key) → IsValid h → HasAlike h (sought_key key) key
