-- How contracts see what is gathered of the resolutions of several intents.
use Rattle.std.specs.Prelude.{◌≡◌, ℕ, max, ℤ, pos, ◌+ℤ◌, Bool, true, false, ◌||◌, if◌then◌else◌, List, [], ◌∷◌, ◌++◌, length, Result, Ok, Err, Some}
use Rattle.mvcc_key.specs.Field.{Field}
use Rattle.mvcc_key.specs.Order.{Key}
use Rattle.mvcc_key.specs.History.{Intent, History, intent_of}
use Rattle.mvcc_key.specs.Points.{Point}
use Rattle.mvcc_key.specs.views.SeenPoint.{points_of}
use Rattle.stat_core.specs.views.Seen.{number}
use Rattle.stat_delta.specs.declared.change.Change.{Change}
use Rattle.key_top.specs.Top.{front_change, top_in}
use Rattle.intent_resolve.specs.Resolve.{Update, Resolution, Gone, Stays, Becomes, resolution, resolved, resolve}
use Rattle.intent_resolve.specs.Resolved.{IsOwnIntent}
use Rattle.intent_resolve.specs.views.Left.{left_by, left_points}
use Rattle.intent_resolve.specs.views.Front.{front_by}
use Rattle.write_rule.specs.views.Seen.{Tells}
use Rattle.intent_resolve.specs.views.Seen.{refusal_of}
use Rattle.intent_resolve.specs.declared.fault.ResolveFault.{ResolveFault}
use Rattle.intent_resolve.specs.declared.gathered.Gathered.{Gathered}

-- an intent, and what becomes of it
pub record Done : Type 0 where
  pub intent : Intent
  pub resolution_is : Resolution

-- it is the intent of its key, of the transaction, and that is what becomes of it
pub record IsDone (u : Update) (h : History) (d : Done) : Type 0 where
  pub own : IsOwnIntent u h d.intent
  pub resolves : resolution u.status u d.intent ≡ Ok d.resolution_is

-- the intents, of which the last is first here, in their order
abbrev pub handled_of : List Done → List Intent
handled_of [] = []
handled_of (d ∷ ds) = handled_of ds ++ d.intent ∷ []

-- the points of all of them
abbrev pub all_points : List Done → List Point
all_points [] = []
all_points (d ∷ ds) = all_points ds ++ left_points d.intent.key d.intent.ts (left_by d.resolution_is)

-- by how much they change a statistic at a moment
abbrev pub all_change : ℕ → History → List Done → Field → ℤ
all_change now h [] f = pos 0
all_change now h (d ∷ ds) f = all_change now h ds f +ℤ front_change now (top_in h d.intent.key) (front_by d.resolution_is) f

-- something is left of the intent
abbrev pub is_left : Resolution → Bool
is_left Gone = false
is_left (Stays intent) = true
is_left (Becomes version) = true

-- something is left of one of them
abbrev pub any_left : List Done → Bool
any_left [] = false
any_left (d ∷ ds) = any_left ds || is_left d.resolution_is

-- the history after all of them
abbrev pub after_all : List Done → History → History
after_all [] h = h
after_all (d ∷ ds) h = resolved d.intent.key (after_all ds h) d.resolution_is

-- the moment of what is left of an intent
abbrev pub later_moment : ℕ → Update → ℕ
later_moment last u = max last u.ts.wall

-- the moment after all of them
abbrev pub moment_all : ℕ → Update → List Done → ℕ
moment_all last u ds = if any_left ds then later_moment last u else last

-- this is gathered of them
pub record IsGathered (h : History) (last : ℕ) (u : Update) (ds : List Done) (g : Gathered) : Type 0 where
  pub points : points_of g.batch.points ≡ all_points ds
  pub ranges : g.batch.ranges ≡ []
  pub last_is : g.last ≡ last
  pub later_is : g.later ≡ later_moment last u
  pub still : (f : Field) → number f g.still ≡ all_change last h ds f
  pub moved : (f : Field) → number f g.moved ≡ all_change (later_moment last u) h ds f
  pub leaves : g.leaves ≡ any_left ds
  pub count : g.count ≡ length ds

-- and of one more, the key's
pub record IsGatheredWith (h : History) (last : ℕ) (u : Update) (ds : List Done) (key : Key) (g : Gathered) : Type 0 where
  pub done : Done
  pub was : intent_of key h ≡ Some done.intent
  pub is_done : IsDone u h done
  pub gathered : IsGathered h last u (done ∷ ds) g

-- so it is, or the key's resolution is refused; nothing is said where memory was wanting
abbrev pub GathersKey : {A : Type 0} → Result A ResolveFault → History → ℕ → Update → List Done → Key → Gathered → Type 0
GathersKey (Ok done) h last u ds key g = IsGatheredWith h last u ds key g
GathersKey (Err why) h last u ds key g = Tells (refusal_of why) (resolve h key u)

-- the change has their points, and what they change at the moment after them
pub record IsChangeOfAll (h : History) (last : ℕ) (u : Update) (ds : List Done) (change : Change) : Type 0 where
  pub points : points_of change.batch.points ≡ all_points ds
  pub ranges : change.batch.ranges ≡ []
  pub moment : change.last ≡ moment_all last u ds
  pub delta : (f : Field) → number f change.delta ≡ all_change change.last h ds f
