-- How contracts see the cursor.
use Rattle.std.specs.Prelude.{◌≡◌, ℕ, ◌≤◌, ◌+◌, Bool, true, false, not, [], Option, Some, None, if◌then◌else◌, ◌&&◌, is_some}
use Rattle.std.specs.Borrow.{Fml, MutBor}
use Rattle.std.specs.Io.BufRead.{Rests}
use mir.Syntax.{named}
use Rattle.mvcc_key.specs.Lists.{first}
use Rattle.mvcc_key.specs.Order.{Key, Timestamp, is_no_time, is_before}
use Rattle.mvcc_key.specs.History.{Version}
use Rattle.mvcc_key.specs.Points.{Point, point_at, count_below}
use Rattle.lsm_store.specs.Shown.{shown}
use Rattle.intent_meta.specs.KeyHistory.{KeyHistory}
use Rattle.intent_meta.specs.views.Lent.{Stays}
use Rattle.mvcc_cursor.specs.KeyPoints.{kept_if, is_version, is_of_key}
use Rattle.mvcc_cursor.specs.Standing.{Standing, AtKey, after_one, anew, told, entries_up_to}
use Rattle.mvcc_cursor.specs.views.Under.{place_under, place_in, left_in, key_under, version_under, passed_in, begin_looks}
use Rattle.mvcc_cursor.specs.declared.cursor.MvccCursor.{MvccCursor}
use Rattle.mvcc_cursor.specs.contracts.cursor.MvccCursor.{the_row}

-- the store, the place among its keys, and the versions still to be given
abbrev pub seen : MvccCursor → Standing
seen c = record {
  store = c.places.store.now;
  at = place_in c.stand c.sought.items;
  left = left_in c.given (place_in c.stand c.sought.items) (shown c.places.store.now) (place_under c.places.versions);
}

-- what is told of the key
abbrev pub told_by : MvccCursor → KeyHistory
told_by c = told (seen c)

-- where it stands: over which store, and at which of its keys
abbrev pub place_by : MvccCursor → Standing
place_by c = anew (seen c)

-- the version at which it stands, where it is one of the key
abbrev pub version_now : MvccCursor → Option Point
version_now c =
    if c.stored then kept_if (λ p. is_of_key (key_under c.sought.items) p && is_version p) (point_at (shown c.places.store.now) (place_under c.places.versions))
    else None

-- a version up to the timestamp has to be sought: the newest of all is newer
abbrev pub seeks : Timestamp → Option Version → Bool
seeks ts None = false
seeks ts (Some v) = not (is_no_time ts) && is_before ts v.ts

-- it stands where a seek to the key's version at the timestamp goes
abbrev pub IsSought : Timestamp → MvccCursor → Type 0
IsSought ts c = place_under c.places.versions ≡ count_below (version_under c.sought.items ts) (shown c.places.store.now) + 1

-- how many entries of the parts stand before the version that was given last
abbrev pub passed : MvccCursor → ℕ
passed c = passed_in c.given c.sought.items c.places.store.now (place_under c.places.versions)

-- the looks that the next version takes beside those at entries that are passed
abbrev pub first_looks : MvccCursor → ℕ
first_looks c = begin_looks c.given c.places.store.now

-- one version more is given, and the looks taken are at the entries that are passed; the first version takes a seek
pub record HasGone (old : MvccCursor) (before after : ℕ) (new : MvccCursor) : Type 0 where
  pub stands : seen new ≡ after_one (seen old)
  pub looks : after + passed old ≤ before + passed new + first_looks old
  pub begun : is_some (first (seen old).left) ≡ true → first_looks new ≡ 0
  pub within : (key : Key) → (seen old).at ≡ AtKey key → passed new ≤ entries_up_to key (seen old).store

-- what `next_version` leaves once the version is no longer borrowed
abbrev pub EndsAfterOne : MutBor MvccCursor → ℕ → ℕ → Fml
EndsAfterOne c before after = Rests (the_row (record { mir = named 0; lft = [] })) c (HasGone c.now before after)

-- what `version_at_or_below` leaves once the version is no longer borrowed
abbrev pub EndsAnew : MutBor MvccCursor → Fml
EndsAnew c = Rests (the_row (record { mir = named 0; lft = [] })) c (λ new. seen new ≡ anew (seen c.now))

-- what a call of `KeyItems` leaves once the item is no longer borrowed
abbrev pub EndsTold : MutBor MvccCursor → Fml
EndsTold c = Rests (the_row (record { mir = named 0; lft = [] })) c (Stays told_by place_by c.now)
