-- What a change of a history leaves alone.
use Rattle.std.specs.Prelude.{◌≡◌, Bool, false, not, filter}
use Rattle.mvcc_key.specs.Order.{Key, is_within, is_same_key}
use Rattle.mvcc_key.specs.History.{History, versions_of, intent_of}
use Rattle.mvcc_key.specs.Items.{tombstones_over}
use Rattle.mvcc_key.specs.Fragments.{fragments}
use Rattle.mvcc_key.specs.Canonical.{is_apart}
use Rattle.intent_meta.specs.StoredPairs.{stored_pairs}
use Rattle.intent_meta.specs.Valid.{IsValid}

-- the keys that are not touched have the versions, the intents and the tombstones over them that they had
pub record LeavesOthers (touched : Key → Bool) (old new : History) : Type 0 where
  pub versions : filter (λ v. not (touched v.key)) new.versions ≡ filter (λ v. not (touched v.key)) old.versions
  pub intents : filter (λ i. not (touched i.key)) new.intents ≡ filter (λ i. not (touched i.key)) old.intents
  pub stacks : (key : Key) → touched key ≡ false → tombstones_over new.tombstones key ≡ tombstones_over old.tombstones key

-- so have the keys outside a span
abbrev pub LeavesOutside : Key → Key → History → History → Type 0
LeavesOutside start end = LeavesOthers (is_within start end)

-- a key has the versions, the intent and the tombstones over it that it had
pub record LeavesKey (key : Key) (old new : History) : Type 0 where
  pub versions : versions_of key new ≡ versions_of key old
  pub intent : intent_of key new ≡ intent_of key old
  pub stack : tombstones_over new.tombstones key ≡ tombstones_over old.tombstones key

-- what leaves the keys that are not touched leaves each of them
abbrev pub OthersAreEach : Type 0
OthersAreEach = (touched : Key → Bool) (old new : History) (key : Key) → LeavesOthers touched old new → touched key ≡ false → LeavesKey key old new

-- two histories have the same versions and the same intent of the key
pub record AgreeAt (key : Key) (g h : History) : Type 0 where
  pub versions : versions_of key g ≡ versions_of key h
  pub intent : intent_of key g ≡ intent_of key h

-- the other keys have the versions and the intents that they had
pub record LeavesOtherKeys (key : Key) (old new : History) : Type 0 where
  pub versions : filter (λ v. not (is_same_key v.key key)) new.versions ≡ filter (λ v. not (is_same_key v.key key)) old.versions
  pub intents : filter (λ i. not (is_same_key i.key key)) new.intents ≡ filter (λ i. not (is_same_key i.key key)) old.intents

-- so have they, and no tombstone changes
pub record ChangesOnly (key : Key) (old new : History) : Type 0 where
  pub others : LeavesOtherKeys key old new
  pub tombstones : new.tombstones ≡ old.tombstones

-- what changes one key only leaves all keys but this one
abbrev pub ChangesOnlyLeaves : Type 0
ChangesOnlyLeaves = (key : Key) (old new : History) → ChangesOnly key old new → LeavesOthers (λ other. is_same_key other key) old new

-- so it leaves each other key
abbrev pub OtherKeyIsLeft : Type 0
OtherKeyIsLeft = (key other : Key) (old new : History) → ChangesOnly key old new → is_same_key key other ≡ false → LeavesKey other old new

-- valid histories that agree at each other key have the same versions and intents of the other keys
abbrev pub OtherKeysTell : Type 0
OtherKeysTell = (key : Key) (old new : History) → IsValid old → IsValid new → ((other : Key) → is_same_key other key ≡ false → AgreeAt other new old)
    → LeavesOtherKeys key old new

-- valid histories that agree at every key and have the same tombstones are one
abbrev pub KeysTell : Type 0
KeysTell = (g h : History) → IsValid g → IsValid h → ((key : Key) → AgreeAt key g h) → g.tombstones ≡ h.tombstones → g ≡ h

-- what leaves the keys that are not touched leaves their pairs
abbrev pub PairsAreLeft : Type 0
PairsAreLeft = (touched : Key → Bool) (old new : History) → LeavesOthers touched old new
    → filter (λ p. not (touched p.name.key)) (stored_pairs new) ≡ filter (λ p. not (touched p.name.key)) (stored_pairs old)

-- what leaves the keys outside a span leaves the fragments that neither overlap it nor abut it
abbrev pub FragmentsAreLeft : Type 0
FragmentsAreLeft = (start end : Key) (old new : History) → LeavesOutside start end old new
    → filter (is_apart start end) (fragments new.tombstones) ≡ filter (is_apart start end) (fragments old.tombstones)

-- the versions and the intents of the keys that pass a test
abbrev pub of_keys : (Key → Bool) → History → History
of_keys test h = record h { versions = filter (λ v. test v.key) h.versions; intents = filter (λ i. test i.key) h.intents }

-- the pairs of these keys are those of their versions and intents
abbrev pub PairsOfKeys : Type 0
PairsOfKeys = (test : Key → Bool) (h : History) → filter (λ p. test p.name.key) (stored_pairs h) ≡ stored_pairs (of_keys test h)
