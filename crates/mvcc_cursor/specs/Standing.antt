-- Where a cursor over the keys of a store stands, and what it tells of the key there.
use Rattle.std.specs.Prelude.{ℕ, ◌-◌, List, [], drop, take, Option, Some, None}
use Rattle.mvcc_key.specs.Lists.{first}
use Rattle.mvcc_key.specs.Order.{Timestamp, Key, is_no_time}
use Rattle.mvcc_key.specs.Limits.{max_bound_length}
use Rattle.mvcc_key.specs.History.{Version, History, versions_of}
use Rattle.mvcc_key.specs.Points.{Point}
use Rattle.mvcc_key.specs.Fragments.{Fragment, stack_at}
use Rattle.intent_meta.specs.KeyHistory.{KeyHistory, key_history}
use Rattle.merge_cursor.specs.Merged.{seek_looks, entries_below, entries_before}
use Rattle.run_block.specs.RunFormat.{Run}
use Rattle.lsm_store.specs.Shown.{points_in, shown, fragments_in}
use Rattle.mvcc_cursor.specs.WellFormed.{history_in}
use Rattle.mvcc_cursor.specs.KeyPoints.{record_name, points_of, versions_in, first_above, key_above, key_below, first_key, last_key, kept_if}

-- before the first stored key, at a key, or past the last one
pub data Place : Type 0 where
  BeforeFirst : Place
  AtKey : (key : Key) → Place
  PastLast : Place

-- the store, the place among its keys, and the versions of the key there that are still to be given
pub record Standing : Type 0 where
  pub store : List Run
  pub at : Place
  pub left : List Point

-- the stored points, in order
abbrev pub stored : Standing → List Point
stored s = shown s.store

-- those that each part has
abbrev pub parts : Standing → List (List Point)
parts s = points_in s.store

-- the stored points of the key at a place, and none past an end
abbrev pub points_at : Place → List Point → List Point
points_at BeforeFirst points = []
points_at (AtKey key) points = points_of key points
points_at PastLast points = []

-- the points of the key at which it stands: the record first, then the versions from the newest
abbrev pub here : Standing → List Point
here s = points_at s.at (stored s)

-- the record of the key, which is the first of its points
abbrev pub record_point : List Point → Option Point
record_point points = kept_if (λ p. is_no_time p.name.ts) (first points)

-- it stands at the place, and has given no version
abbrev pub at_place : Place → Standing → Standing
at_place at s = record s { at = at; left = versions_in (points_at at (stored s)) }

-- no version of the key is given
abbrev pub anew : Standing → Standing
anew s = at_place s.at s

-- one version more is given
abbrev pub after_one : Standing → Standing
after_one s = record s { left = drop 1 s.left }

-- over a store: before the first key
abbrev pub standing_over : List Run → Standing
standing_over store = record { store = store; at = BeforeFirst; left = [] }

-- at the key, or past the last where there is none
abbrev pub or_past : Option Key → Place
or_past None = PastLast
or_past (Some key) = AtKey key

-- at the key, or before the first where there is none
abbrev pub or_before : Option Key → Place
or_before None = BeforeFirst
or_before (Some key) = AtKey key

-- the next stored key
abbrev pub next_place : Place → List Point → Place
next_place BeforeFirst points = or_past (first_key points)
next_place (AtKey key) points = or_past (key_above key points)
next_place PastLast points = PastLast

-- the stored key before
abbrev pub previous_place : Place → List Point → Place
previous_place BeforeFirst points = BeforeFirst
previous_place (AtKey key) points = or_before (key_below key points)
previous_place PastLast points = or_before (last_key points)

-- the key at which a seek stands: of one that is longer than any stored key and any bound, so many bytes
abbrev pub sought_key : Key → Key
sought_key key = take max_bound_length key

-- what is told of no key
abbrev pub nothing_told : KeyHistory
nothing_told = record { key = []; intent = None; items = [] }

-- what a history has of the key at a place, and nothing past an end
abbrev pub told_at : Place → History → KeyHistory
told_at BeforeFirst h = nothing_told
told_at (AtKey key) h = key_history key h
told_at PastLast h = nothing_told

-- what is told of the key at which it stands: what the history has of it that the store is read back as
abbrev pub told : Standing → KeyHistory
told s = told_at s.at (history_in s.store)

-- the committed versions of the key at a place, and none past an end
abbrev pub committed_at : Place → History → List Version
committed_at BeforeFirst h = []
committed_at (AtKey key) h = versions_of key h
committed_at PastLast h = []

-- the committed versions of the key at which it stands
abbrev pub committed : Standing → List Version
committed s = committed_at s.at (history_in s.store)

-- the timestamps of the tombstones over the key at a place, newest first
abbrev pub stack_over : Place → List Fragment → List Timestamp
stack_over BeforeFirst fs = []
stack_over (AtKey key) fs = stack_at fs key
stack_over PastLast fs = []

-- the timestamps of the tombstones over the key at which it stands
abbrev pub stack_here : Standing → List Timestamp
stack_here s = stack_over s.at (fragments_in s.store)

-- the most looks that one seek takes in the parts, beside those at entries that it passes
abbrev pub one_seek : List Run → ℕ
one_seek store = seek_looks (points_in store)

-- how many part entries stand before the first stored point of a key above, or before the end where there is none
abbrev pub entries_up_to : Key → List Run → ℕ
entries_up_to key store = entries_before (first_above key (shown store)) (points_in store)

-- how many part entries stand from the key's record on up to there: those of the key, and cleared ones behind it
abbrev pub entries_of : Key → List Run → ℕ
entries_of key store = entries_up_to key store - entries_below (record_name key) (points_in store)
