-- How contracts see what becomes of an intent, in bytes, and the points by which it does.
use Rattle.std.specs.Prelude.{◌≡◌, ℕ, ◌≤◌, true, false, List, [], ◌∷◌, length, Option, Some, None, Result, Ok, Err, ⊤, if◌then◌else◌}
use Rattle.mvcc_key.specs.Limits.{max_stored_length}
use Rattle.mvcc_key.specs.Order.{Timestamp, no_time, is_no_time, is_up_to, is_same_time, Key}
use Rattle.mvcc_key.specs.Refusal.{Refusal}
use Rattle.mvcc_key.specs.Points.{Point}
use Rattle.mvcc_key.specs.views.Seen.{time_of}
use Rattle.intent_meta.specs.PointPairs.{cleared_point}
use Rattle.intent_meta.specs.Record.{record_bytes}
use Rattle.intent_meta.specs.StoredPairs.{intent_record, provisional}
use Rattle.write_rule.specs.views.Seen.{Tells}
use Rattle.mvcc_cursor.specs.views.Lent.{LentVersion, lent_version}
use Rattle.intent_resolve.specs.Resolve as rule
use Rattle.intent_resolve.specs.views.Seen.{refusal_of}
use Rattle.intent_resolve.specs.declared.fault.ResolveFault.{ResolveFault}
use Rattle.intent_resolve.specs.declared.resolution.NewVersion.{NewVersion}
use Rattle.intent_resolve.specs.declared.resolution.Resolution.{Resolution}
use Rattle.intent_resolve.specs.declared.resolution.Resolution.TheVariants as code

-- the intent goes, its record and its provisional version are put, or it becomes a version
pub data Left : Type 0 where
  Gone : Left
  Stays : (head : List ℕ) (version : LentVersion) → Left
  Becomes : (version : LentVersion) → Left

-- a version that is put
abbrev pub seen_new : NewVersion → LentVersion
seen_new v = record { ts = time_of v.ts; value = v.value }

-- what becomes of the intent
abbrev pub seen_left : Resolution → Left
seen_left code.Gone = Gone
seen_left (code.Stays head version) = Stays head (seen_new version)
seen_left (code.Becomes version) = Becomes (seen_new version)

-- what a resolution leaves
abbrev pub left_by : rule.Resolution → Left
left_by rule.Gone = Gone
left_by (rule.Stays i) = Stays (record_bytes (intent_record i)) (lent_version (provisional i))
left_by (rule.Becomes v) = Becomes (lent_version v)

-- it is what the rule makes of the intent
pub record IsRuled (outcome : Result rule.Resolution Refusal) (left : Left) : Type 0 where
  pub resolution_is : rule.Resolution
  pub resolves : outcome ≡ Ok resolution_is
  pub left_is : left ≡ left_by resolution_is

-- so it is, or it is refused with the rule's refusal; nothing is said where memory was wanting
abbrev pub Rules : Result Resolution ResolveFault → Result rule.Resolution Refusal → Type 0
Rules (Ok r) outcome = IsRuled outcome (seen_left r)
Rules (Err why) outcome = Tells (refusal_of why) outcome

-- a version that may be put where one at the old timestamp stood
pub record IsPutAbove (old : Timestamp) (v : LentVersion) : Type 0 where
  pub some : is_no_time v.ts ≡ false
  pub up : is_up_to old v.ts ≡ true
  pub short : length v.value ≤ max_stored_length

-- what may be stored in the place of an intent at the old timestamp
abbrev pub IsStorableLeft : Timestamp → Left → Type 0
IsStorableLeft old Gone = ⊤
IsStorableLeft old (Stays head v) = (length head ≤ max_stored_length) × IsPutAbove old v
IsStorableLeft old (Becomes v) = IsPutAbove old v

-- the old timestamp, if it is not the new one
abbrev pub time_left : Timestamp → Timestamp → Option Timestamp
time_left old ts = if is_same_time old ts then None else Some old

-- the version of the timestamp is cleared, if there is one
abbrev pub cleared_if : Key → Option Timestamp → List Point
cleared_if key None = []
cleared_if key (Some ts) = cleared_point (record { key = key; ts = ts }) ∷ []

-- what a name is set to, or that it is cleared
abbrev pub point_at : Key → Timestamp → Option (List ℕ) → Point
point_at key ts value = record { name = record { key = key; ts = ts }; value = value }

-- the record's name, the version's, and the old version's
abbrev pub kept_points : Key → Timestamp → Option (List ℕ) → LentVersion → List Point
kept_points key old head v = point_at key no_time head ∷ point_at key v.ts (Some v.value) ∷ cleared_if key (time_left old v.ts)

-- the points by which the key has what is left of its intent at the old timestamp
abbrev pub left_points : Key → Timestamp → Left → List Point
left_points key old Gone = point_at key no_time None ∷ point_at key old None ∷ []
left_points key old (Stays head v) = kept_points key old (Some head) v
left_points key old (Becomes v) = kept_points key old None v
