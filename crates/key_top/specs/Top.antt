-- The top of a key as the statistics see it, and what may stand in front of its newest committed version.
use Rattle.std.specs.Prelude.{ℕ, ◌≤◌, ◌^◌, max, ℤ, List, [], ◌∷◌, ◌++◌, length, Option, Some, None, option_map, option_to_list, IfSome, ⊤}
use Rattle.std.specs.List.Sorted.{IsStrictlySortedBy}
use Rattle.mvcc_key.specs.Lists.{first}
use Rattle.mvcc_key.specs.Order.{Timestamp, newer_first, Key}
use Rattle.mvcc_key.specs.History.{History, versions_of, intent_of}
use Rattle.mvcc_key.specs.Fragments.{fragments, stack_at}
use Rattle.mvcc_key.specs.Field.{Field}
use Rattle.stat_core.specs.DeadSince.{VersionShape}
use Rattle.stat_delta.specs.Shapes.{IntentShape, key_change, top_shape, version_shape, intent_shape}
use Rattle.stat_delta.specs.Laws.{IsShortVersion, IsShortIntent}

-- the length of a key, its intent, the newest of its committed versions, and the tombstones over it
pub record Top : Type 0 where
  pub key_length : ℕ
  pub intent : Option IntentShape
  pub newest : Option VersionShape
  pub stack : List Timestamp

-- that of a key of a history
abbrev pub top_in : History → Key → Top
top_in h key = record {
  key_length = length key;
  intent = option_map intent_shape (intent_of key h);
  newest = option_map version_shape (first (versions_of key h));
  stack = stack_at (fragments h.tombstones) key;
}

-- nothing, an intent, or one more version in front of the newest committed one
pub data Front : Type 0 where
  Nothing : Front
  Intent : (shape : IntentShape) → Front
  Version : (shape : VersionShape) → Front

-- its intent, if it is one
abbrev pub intent_in : Front → Option IntentShape
intent_in Nothing = None
intent_in (Intent i) = Some i
intent_in (Version v) = None

-- the committed version that it is, if it is one
abbrev pub versions_in : Front → List VersionShape
versions_in Nothing = []
versions_in (Intent i) = []
versions_in (Version v) = v ∷ []

-- the moment after it comes: the latest of the last one and of its own
abbrev pub moment_of : ℕ → Front → ℕ
moment_of last Nothing = last
moment_of last (Intent i) = max last (i.provisional).ts.wall
moment_of last (Version v) = max last v.ts.wall

-- by how much a statistic changes at a moment where it comes in the place of the intent, or of nothing
abbrev pub front_change : ℕ → Top → Front → Field → ℤ
front_change now t front f =
    key_change now (top_shape t.key_length t.stack t.intent (option_to_list t.newest))
    (top_shape t.key_length t.stack (intent_in front) (versions_in front ++ option_to_list t.newest)) f

-- each length is at most 2^25, and the tombstones are newest first
pub record IsShortTop (t : Top) : Type 0 where
  pub key : t.key_length ≤ 2 ^ 25
  pub intent : IfSome t.intent IsShortIntent
  pub newest : IfSome t.newest IsShortVersion
  pub stack : IsStrictlySortedBy newer_first t.stack

-- so are the lengths of what comes
abbrev pub IsShortFront : Front → Type 0
IsShortFront Nothing = ⊤
IsShortFront (Intent i) = IsShortIntent i
IsShortFront (Version v) = IsShortVersion v
