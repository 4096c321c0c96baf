-- How that moment moves where something comes to be stored.
use Rattle.std.specs.Prelude.{◌≡◌, ℕ, max}
use Rattle.mvcc_key.specs.History.{Version, History, with_version, Intent, with_intent}
use Rattle.mvcc_key.specs.Fragments.{fragments}
use Rattle.intent_meta.specs.StoredPairs.{stored_pairs}
use Rattle.intent_meta.specs.Valid.{IsValid}
use Rattle.stat_core.specs.Laws.{PairsAreBy, FragmentsAreBy}
use Rattle.stat_delta.specs.Moments.{stored_walls, greatest, IsStoredBy}

-- where nothing that a valid history stores is after a wall time, no pair and no tombstone of a fragment is
abbrev pub StoredIsBy : Type 0
StoredIsBy = (wall : ℕ) (h : History) → IsValid h → IsStoredBy wall h → PairsAreBy wall (stored_pairs h) × FragmentsAreBy wall (fragments h.tombstones)

-- nothing is after the greatest of all
abbrev pub GreatestIsLast : Type 0
GreatestIsLast = (last : ℕ) (h : History) → IsStoredBy (greatest last (stored_walls h)) h

-- where nothing is after a moment, that is the greatest
abbrev pub NothingMoves : Type 0
NothingMoves = (last : ℕ) (h : History) → IsStoredBy last h → greatest last (stored_walls h) ≡ last

-- where a version comes, the greatest is that or its wall time
abbrev pub VersionMoves : Type 0
VersionMoves = (last : ℕ) (h : History) (v : Version) → IsStoredBy last h → greatest last (stored_walls (with_version v h)) ≡ max last v.ts.wall

-- where an intent comes, or one replaces another
abbrev pub IntentMoves : Type 0
IntentMoves = (last : ℕ) (h : History) (i : Intent) → IsStoredBy last h → greatest last (stored_walls (with_intent i h)) ≡ max last i.ts.wall
