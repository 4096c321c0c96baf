-- The statistics of stored pairs and fragments: one sum over keys and fragments.
use Rattle.std.specs.Prelude.{ℕ, ◌+◌, ◌-◌, ◌*◌, ◌/◌, ℤ, pos, ◌-ℤ◌, Bool, List, [], ◌∷◌, length, map, filter, find, Option, Some, None, nat_lt, not, ◌==◌, if◌then◌else◌, option_map}
use Rattle.mvcc_key.specs.Lists.{in_order, first}
use Rattle.mvcc_key.specs.Order.{Timestamp, is_no_time, Key, key_cmp, is_same_key, is_within, Pair}
use Rattle.mvcc_key.specs.Fragments.{Fragment, stack_at, cut_to}
use Rattle.mvcc_key.specs.Field.{Field, KeyCount, KeyBytes, ValCount, ValBytes, LiveCount, LiveBytes, IntentCount, IntentBytes, IntentAge, GcBytesAge, RangeKeyCount, RangeKeyBytes, RangeValCount, RangeValBytes, all_fields}
use Rattle.stat_core.specs.DeadSince.{VersionShape, shape_of, dead_since}

-- the bounded statistics
pub record Sums : Type 0 where
  pub key_count : ℕ
  pub key_bytes : ℕ
  pub val_count : ℕ
  pub val_bytes : ℕ
  pub live_count : ℕ
  pub live_bytes : ℕ
  pub intent_count : ℕ
  pub intent_bytes : ℕ
  pub intent_age : ℕ
  pub gc_bytes_age : ℕ
  pub range_key_count : ℕ
  pub range_key_bytes : ℕ
  pub range_val_count : ℕ
  pub range_val_bytes : ℕ

-- nothing
abbrev pub no_sums : Sums
no_sums = record {
  key_count = 0;
  key_bytes = 0;
  val_count = 0;
  val_bytes = 0;
  live_count = 0;
  live_bytes = 0;
  intent_count = 0;
  intent_bytes = 0;
  intent_age = 0;
  gc_bytes_age = 0;
  range_key_count = 0;
  range_key_bytes = 0;
  range_val_count = 0;
  range_val_bytes = 0;
}

-- field by field
infixl 50 ◌⊕◌
abbrev pub ◌⊕◌ : Sums → Sums → Sums
s ⊕ t = record {
  key_count = s.key_count + t.key_count;
  key_bytes = s.key_bytes + t.key_bytes;
  val_count = s.val_count + t.val_count;
  val_bytes = s.val_bytes + t.val_bytes;
  live_count = s.live_count + t.live_count;
  live_bytes = s.live_bytes + t.live_bytes;
  intent_count = s.intent_count + t.intent_count;
  intent_bytes = s.intent_bytes + t.intent_bytes;
  intent_age = s.intent_age + t.intent_age;
  gc_bytes_age = s.gc_bytes_age + t.gc_bytes_age;
  range_key_count = s.range_key_count + t.range_key_count;
  range_key_bytes = s.range_key_bytes + t.range_key_bytes;
  range_val_count = s.range_val_count + t.range_val_count;
  range_val_bytes = s.range_val_bytes + t.range_val_bytes;
}

-- all of them, added
abbrev pub total : List Sums → Sums
total [] = no_sums
total (s ∷ ss) = s ⊕ total ss

-- the whole seconds from a wall time to another
abbrev pub age : ℕ → ℕ → ℕ
age now wall = now / 1000000000 - wall / 1000000000

-- bytes of points, live or garbage since a moment
abbrev pub live_or_garbage : ℕ → ℕ → Option Timestamp → Sums
live_or_garbage now bytes None = record no_sums { live_bytes = bytes }
live_or_garbage now bytes (Some ts) = record no_sums { gc_bytes_age = bytes * age now ts.wall }

-- a version: its timestamp counts 12 bytes
abbrev pub version_sums : ℕ → Option Timestamp → VersionShape → Sums
version_sums now dead v =
    record no_sums { val_count = 1; key_bytes = 12; val_bytes = v.value_length } ⊕ live_or_garbage now (12 + v.value_length) dead

-- the versions, newest first, behind a newer one where there is one
abbrev pub versions_sums : ℕ → Option Timestamp → List Timestamp → List VersionShape → Sums
versions_sums now newer stack [] = no_sums
versions_sums now newer stack (v ∷ vs) =
    version_sums now (dead_since newer stack v) v ⊕ versions_sums now (Some v.ts) stack vs

-- what the statistics see of a key: its length, its record's length, the timestamp of its intent,
-- its versions newest first, and the tombstones over it newest first
pub record KeyShape : Type 0 where
  pub key_length : ℕ
  pub record_length : ℕ
  pub intent : Option Timestamp
  pub versions : List VersionShape
  pub stack : List Timestamp

-- 1 for a live key
abbrev pub live_key : Option Timestamp → ℕ
live_key None = 1
live_key (Some ts) = 0

-- the key itself and its record, which go with the newest version
abbrev pub own_sums : ℕ → KeyShape → Option Timestamp → Sums
own_sums now k dead =
    record no_sums { key_count = 1; key_bytes = k.key_length + 1; val_bytes = k.record_length; live_count = live_key dead }
    ⊕ live_or_garbage now (k.key_length + 1 + k.record_length) dead

-- since when the newest version is garbage
abbrev pub newest_dead : KeyShape → List VersionShape → Option Timestamp
newest_dead k [] = None
newest_dead k (v ∷ vs) = dead_since None k.stack v

-- the length of the newest version's value
abbrev pub newest_length : List VersionShape → ℕ
newest_length [] = 0
newest_length (v ∷ vs) = v.value_length

-- an intent, by its provisional version
abbrev pub intent_sums : ℕ → KeyShape → Option Timestamp → Sums
intent_sums now k None = no_sums
intent_sums now k (Some ts) = record no_sums { intent_count = 1; intent_bytes = 12 + newest_length k.versions; intent_age = age now ts.wall }

-- what a key adds
unfoldable pub key_sums : ℕ → KeyShape → Sums
key_sums now k =
    own_sums now k (newest_dead k k.versions) ⊕ intent_sums now k k.intent ⊕ versions_sums now None k.stack k.versions

-- a tombstone of a fragment
abbrev pub tombstone_bytes : Timestamp → ℕ
tombstone_bytes ts = if ts.logical == 0 then 9 else 13

-- a tombstone of a fragment, garbage since its own timestamp
abbrev pub tombstone_sums : ℕ → Timestamp → Sums
tombstone_sums now ts =
    record no_sums { range_val_count = 1; range_key_bytes = tombstone_bytes ts; gc_bytes_age = tombstone_bytes ts * age now ts.wall }

-- the bounds of a fragment, garbage since its newest tombstone
abbrev pub bounds_sums : ℕ → ℕ → List Timestamp → Sums
bounds_sums now bytes [] = no_sums
bounds_sums now bytes (ts ∷ stack) =
    record no_sums { range_key_count = 1; range_key_bytes = bytes; gc_bytes_age = bytes * age now ts.wall }

-- what a fragment adds
unfoldable pub fragment_sums : ℕ → ℕ → ℕ → List Timestamp → Sums
fragment_sums now start_length end_length stack =
    bounds_sums now (start_length + 1 + (end_length + 1)) stack ⊕ total (map (tombstone_sums now) stack)

-- the key's pairs
abbrev pub pairs_of : Key → List Pair → List Pair
pairs_of key = filter (λ p. is_same_key p.name.key key)

-- the pair is an intent's record
abbrev pub is_record : Pair → Bool
is_record p = is_no_time p.name.ts

-- the length of a record, if there is one
abbrev pub length_of : Option Pair → ℕ
length_of None = 0
length_of (Some p) = length p.value

-- the timestamp of an intent: that of the newest version
abbrev pub intent_time : Option Pair → List VersionShape → Option Timestamp
intent_time None vs = None
intent_time (Some p) vs = option_map (λ v. v.ts) (first vs)

-- the shape of a key with these pairs, in their order
abbrev pub key_shape : Key → List Pair → List Timestamp → KeyShape
key_shape key pairs stack = record {
  key_length = length key;
  record_length = length_of (find is_record pairs);
  intent = intent_time (find is_record pairs) (map shape_of (filter (λ p. not (is_record p)) pairs));
  versions = map shape_of (filter (λ p. not (is_record p)) pairs);
  stack = stack;
}

-- the distinct keys of pairs, ascending
abbrev pub keys_of : List Pair → List Key
keys_of pairs = in_order key_cmp (map (λ p. p.name.key) pairs)

-- what the key adds among these pairs and fragments
abbrev pub sums_at : ℕ → List Pair → List Fragment → Key → Sums
sums_at now pairs fs key = key_sums now (key_shape key (pairs_of key pairs) (stack_at fs key))

-- what the fragment adds
abbrev pub sums_of_fragment : ℕ → Fragment → Sums
sums_of_fragment now f = fragment_sums now (length f.start) (length f.end) f.stack

-- the statistics of all pairs and fragments
unfoldable pub compute_stats : ℕ → List Pair → List Fragment → Sums
compute_stats now pairs fs = total (map (sums_at now pairs fs) (keys_of pairs)) ⊕ total (map (sums_of_fragment now) fs)

-- the statistics of a span: of its keys, and of the fragments cut to it
unfoldable pub compute_span : ℕ → Key → Key → List Pair → List Fragment → Sums
compute_span now start end pairs fs =
    total (map (sums_at now pairs fs) (filter (is_within start end) (keys_of pairs)))
    ⊕ total (map (sums_of_fragment now) (cut_to start end fs))

-- one of the statistics
abbrev pub field : Field → Sums → ℕ
field KeyCount s = s.key_count
field KeyBytes s = s.key_bytes
field ValCount s = s.val_count
field ValBytes s = s.val_bytes
field LiveCount s = s.live_count
field LiveBytes s = s.live_bytes
field IntentCount s = s.intent_count
field IntentBytes s = s.intent_bytes
field IntentAge s = s.intent_age
field GcBytesAge s = s.gc_bytes_age
field RangeKeyCount s = s.range_key_count
field RangeKeyBytes s = s.range_key_bytes
field RangeValCount s = s.range_val_count
field RangeValBytes s = s.range_val_bytes

-- the first statistic that passes the bound
unfoldable pub overflowing : ℕ → Sums → Option Field
overflowing count_max s = find (λ f. nat_lt count_max (field f s)) all_fields

-- the bytes that are not live
abbrev pub garbage_bytes : Sums → ℕ
garbage_bytes s = s.key_bytes + s.val_bytes + s.range_key_bytes + s.range_val_bytes - s.live_bytes

-- the sums of the same pairs at a later moment
abbrev pub aged : ℕ → ℕ → Sums → Sums
aged last now s = record s {
  intent_age = s.intent_age + s.intent_count * age now last;
  gc_bytes_age = s.gc_bytes_age + garbage_bytes s * age now last;
}

-- how much after is above before, in one of the statistics
abbrev pub difference : Sums → Sums → Field → ℤ
difference before after f = pos (field f after) -ℤ pos (field f before)

-- what counting one fragment as two counts too much, where it is cut at a key of this length
abbrev pub cut_correction : ℕ → ℕ → List Timestamp → Sums
cut_correction now cut_length stack = fragment_sums now cut_length cut_length stack
