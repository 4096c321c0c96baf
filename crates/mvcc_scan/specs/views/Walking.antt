-- Where a scan stands among its keys.
use Rattle.std.specs.Prelude.{◌≡◌, Bool, true, false, List, [], ◌∷◌, filter, reverse, is_some, option_map, Option, Result, Ok, Err, if◌then◌else◌, ⊤}
use Rattle.std.specs.declared.cmp.Ordering.{Ordering}
use Rattle.std.specs.Ordering.{is_lt, is_le}
use Rattle.mvcc_key.specs.Lists.{first}
use Rattle.mvcc_key.specs.Order.{Key, key_cmp, is_below, is_at_or_below}
use Rattle.mvcc_key.specs.History.{History}
use Rattle.read_rule.specs.Scan as scan
use Rattle.run_block.specs.RunFormat.{Run}
use Rattle.lsm_store.specs.Shown.{shown}
use Rattle.mvcc_cursor.specs.Standing.{Place, BeforeFirst, AtKey, PastLast, Standing}
use Rattle.mvcc_cursor.specs.KeyPoints.{points_of}
use Rattle.mvcc_cursor.specs.WellFormed.{IsWellFormed, history_in}
use Rattle.mvcc_scan.specs.declared.walk.Bounds.{Bounds as Code}
use Rattle.mvcc_scan.specs.declared.walk.Walk.{Walk}
use Rattle.mvcc_key.specs.Refusal.{Refusal}
use Rattle.mvcc_key.specs.declared.span.Span.{Span}
use Rattle.mvcc_scan.specs.declared.fault.ScanFault.{ScanFault}
use Rattle.mvcc_scan.specs.views.Seen.{IsRefusedFor, refusal_of, span_of}
use Rattle.mvcc_scan.specs.views.Taking.{IsTaken, stop_of}

-- the bounds of a walk, and its direction
pub record Bounds : Type 0 where
  pub start : Key
  pub end : Key
  pub backwards : Bool

-- the same of the code's
abbrev pub bounds_of : Code → Bounds
bounds_of b = record { start = b.start.now; end = b.end.now; backwards = b.reverse }

-- all stored keys, in the order of the walk
abbrev pub all_keys : Bool → History → List Key
all_keys false h = scan.stored_keys h
all_keys true h = reverse (scan.stored_keys h)

-- the order of the walk
abbrev pub way_cmp : Bool → Key → Key → Ordering
way_cmp false a b = key_cmp a b
way_cmp true a b = key_cmp b a

-- the key is not behind the first in the walk
abbrev pub is_on : Bool → Key → Key → Bool
is_on backwards k x = is_le (way_cmp backwards k x)

-- the key is further on than the first
abbrev pub is_beyond : Bool → Key → Key → Bool
is_beyond backwards k x = is_lt (way_cmp backwards k x)

-- within the bound at which the walk begins
abbrev pub is_near : Bounds → Key → Bool
is_near b x = if b.backwards then is_below x b.end else is_at_or_below b.start x

-- within the bound at which it ends
abbrev pub is_far : Bounds → Key → Bool
is_far b x = if b.backwards then is_at_or_below b.start x else is_below x b.end

-- the keys that are still to be met from a place on
abbrev pub ahead_from : Bool → Place → List Key → List Key
ahead_from backwards BeforeFirst keys = []
ahead_from backwards (AtKey k) keys = filter (is_on backwards k) keys
ahead_from backwards PastLast keys = []

-- the keys of the walk that are still to be met from a place of a store on
abbrev pub ahead_in : Bounds → List Run → Place → List Key
ahead_in b store at = ahead_from b.backwards at (scan.walked_keys (history_in store) b.start b.end b.backwards)

-- the key is a stored one, and the walk has begun
pub record IsStoredOnWay (b : Bounds) (store : List Run) (key : Key) : Type 0 where
  pub near : is_near b key ≡ true
  pub there : is_some (first (points_of key (shown store))) ≡ true
  pub among : filter (is_on b.backwards key) (all_keys b.backwards (history_in store)) ≡ key ∷ filter (is_beyond b.backwards key) (all_keys b.backwards (history_in store))

-- the same of the place's key, where it is at one
abbrev pub IsOnWayAt : Bounds → List Run → Place → Type 0
IsOnWayAt b store BeforeFirst = ⊤
IsOnWayAt b store (AtKey key) = IsStoredOnWay b store key
IsOnWayAt b store PastLast = ⊤

-- a place of a well-formed store, at a stored key on the way or past an end
pub record IsOnWayIn (b : Bounds) (store : List Run) (at : Place) : Type 0 where
  pub formed : IsWellFormed (history_in store) store
  pub on : IsOnWayAt b store at

-- the same of where a cursor stands
abbrev pub IsOnWay : Bounds → Standing → Type 0
IsOnWay b s = IsOnWayIn b s.store s.at

-- the keys of the walk that are still to be met from where a cursor stands on
abbrev pub ahead : Bounds → Standing → List Key
ahead b s = ahead_in b s.store s.at

-- a cursor stands on the way, with these keys still to be met
pub record HasAhead (b : Bounds) (keys : List Key) (s : Standing) : Type 0 where
  pub way : IsOnWay b s
  pub are : ahead b s ≡ keys

-- a walk has taken this, and ended so
pub record IsWalk (l : scan.ScanLimits) (w : scan.Walk) (c : Walk) : Type 0 where
  pub taken : IsTaken l c.taken w.taken
  pub stop : stop_of c.stop ≡ w.stop

-- a walk that stops so leaves this of its span, or is refused for this
abbrev pub IsResumed : Bounds → scan.Stop → Result (Option Span) ScanFault → Type 0
IsResumed b stop (Ok resume) =
    ((answer : Result scan.ScanAnswer Refusal) → scan.unless_refused stop answer ≡ answer) × (option_map span_of resume ≡ scan.resume_of b.start b.end b.backwards stop)
IsResumed b stop (Err why) = (answer : Result scan.ScanAnswer Refusal) → IsRefusedFor (refusal_of why) (scan.unless_refused stop answer)
