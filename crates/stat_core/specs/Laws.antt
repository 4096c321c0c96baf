-- The laws of the statistics, as contracts name them, and the words in which they are said.
use Rattle.std.specs.Prelude.{◌≡◌, ℕ, ◌≤◌, pos, Bool, true, false, ◌&&◌, not, cond, List, [], ◌∷◌, ◌++◌, length, filter, find, map}
use Rattle.std.specs.List.{AllByRecursion}
use Rattle.std.specs.List.Sorted.{IsStrictlySortedBy}
use Rattle.mvcc_key.specs.Lists.{is_empty, put_in_order}
use Rattle.mvcc_key.specs.Order.{Timestamp, Key, is_before, is_same_key, is_below, is_within, Pair, pair_cmp}
use Rattle.mvcc_key.specs.Fragments.{Fragment, stack_of, stack_at}
use Rattle.mvcc_key.specs.Canonical.{IsCanonical, is_apart}
use Rattle.mvcc_key.specs.Field.{Field}
use Rattle.stat_core.specs.DeadSince.{VersionShape}
use Rattle.stat_core.specs.ComputeStats.{Sums, no_sums, ◌⊕◌, total, is_record, pairs_of, keys_of, KeyShape, key_shape, key_sums, sums_at, sums_of_fragment, compute_stats, compute_span, field, difference, aged, cut_correction}
use Rattle.stat_core.specs.Running.{Running}
use Rattle.stat_core.specs.views.Seen.{number}
use Rattle.stat_core.specs.Settling.{NoDebt, aged_number, settled_number, aged_to, settled_stats}
use Rattle.stat_core.specs.declared.group.Group.{Group}

-- the pairs of the other keys
abbrev pub others_of : Key → List Pair → List Pair
others_of key = filter (λ p. not (is_same_key p.name.key key))

-- what the key adds: a key without pairs adds nothing
abbrev pub share : ℕ → List Pair → List Fragment → Key → Sums
share now pairs fs key = cond (is_empty (pairs_of key pairs)) no_sums (sums_at now pairs fs key)

-- one key changes: the statistics are those before, less what the key added, plus what it adds
abbrev pub OneKeyChanges : Type 0
OneKeyChanges =
    (now : ℕ) (before after : List Pair) (fs : List Fragment) (k : Key) → others_of k before ≡ others_of k after
    → compute_stats now after fs ⊕ share now before fs k ≡ compute_stats now before fs ⊕ share now after fs k

-- so each of the statistics changes by what the key's share changes
abbrev pub OneKeyDiffers : Type 0
OneKeyDiffers =
    (now : ℕ) (before after : List Pair) (fs : List Fragment) (k : Key) (f : Field) → others_of k before ≡ others_of k after
    → difference (compute_stats now before fs) (compute_stats now after fs) f ≡ difference (share now before fs k) (share now after fs k) f

-- a key comes
abbrev pub KeyComes : Type 0
KeyComes =
    (now : ℕ) (before after : List Pair) (fs : List Fragment) (k : Key) (p : Pair) (ps : List Pair)
    → others_of k before ≡ others_of k after → pairs_of k before ≡ [] → pairs_of k after ≡ p ∷ ps
    → compute_stats now after fs ≡ compute_stats now before fs ⊕ key_sums now (key_shape k (p ∷ ps) (stack_at fs k))

-- the key with these versions
abbrev pub with_versions : KeyShape → List VersionShape → KeyShape
with_versions k vs = record k { versions = vs }

-- whatever stands in front of an older version, those behind it count the same: what two keys under one stack
-- differ by is what they differ by without them
abbrev pub OlderShapesStay : Type 0
OlderShapesStay =
    (now : ℕ) (j k : KeyShape) (fronts fronts' : List VersionShape) (old : VersionShape) (rest : List VersionShape) (f : Field)
    → j.stack ≡ k.stack
    → difference (key_sums now (with_versions j (fronts ++ old ∷ rest))) (key_sums now (with_versions k (fronts' ++ old ∷ rest))) f
    ≡ difference (key_sums now (with_versions j (fronts ++ old ∷ []))) (key_sums now (with_versions k (fronts' ++ old ∷ []))) f

-- none of the pairs is a record
abbrev pub HasNoRecord : List Pair → Type 0
HasNoRecord = AllByRecursion (λ p. is_record p ≡ false)

-- one key changes in front of an older version: the statistics change by what the key changes with this version alone
abbrev pub OlderVersionsStay : Type 0
OlderVersionsStay =
    (now : ℕ) (before after : List Pair) (fs : List Fragment) (k : Key) (fronts fronts' : List Pair) (old : Pair) (rest : List Pair) (f : Field)
    → others_of k before ≡ others_of k after
    → pairs_of k before ≡ fronts ++ old ∷ rest → pairs_of k after ≡ fronts' ++ old ∷ rest → HasNoRecord (old ∷ rest)
    → difference (compute_stats now before fs) (compute_stats now after fs) f
    ≡ difference (key_sums now (key_shape k (fronts ++ old ∷ []) (stack_at fs k))) (key_sums now (key_shape k (fronts' ++ old ∷ []) (stack_at fs k))) f

-- a version is put on top of a key's versions: the statistics change by what it changes with the newest of them alone
abbrev pub VersionComesOnTop : Type 0
VersionComesOnTop =
    (now : ℕ) (pairs : List Pair) (fs : List Fragment) (p old : Pair) (rest : List Pair) (f : Field)
    → IsStrictlySortedBy pair_cmp pairs → pairs_of p.name.key pairs ≡ old ∷ rest → HasNoRecord (old ∷ rest)
    → is_before old.name.ts p.name.ts ≡ true
    → difference (compute_stats now pairs fs) (compute_stats now (put_in_order pair_cmp p pairs) fs) f
    ≡ difference (key_sums now (key_shape p.name.key (old ∷ []) (stack_at fs p.name.key)))
    (key_sums now (key_shape p.name.key (p ∷ old ∷ []) (stack_at fs p.name.key))) f

-- a key's first version is put: the statistics gain what this version adds
abbrev pub FirstVersionComes : Type 0
FirstVersionComes =
    (now : ℕ) (pairs : List Pair) (fs : List Fragment) (p : Pair) (f : Field)
    → IsStrictlySortedBy pair_cmp pairs → pairs_of p.name.key pairs ≡ []
    → difference (compute_stats now pairs fs) (compute_stats now (put_in_order pair_cmp p pairs) fs) f
    ≡ pos (field f (key_sums now (key_shape p.name.key (p ∷ []) (stack_at fs p.name.key))))

-- the pairs whose keys pass the test
abbrev pub pairs_in : (Key → Bool) → List Pair → List Pair
pairs_in test = filter (λ p. test p.name.key)

-- the pairs whose keys do not
abbrev pub pairs_out : (Key → Bool) → List Pair → List Pair
pairs_out test = filter (λ p. not (test p.name.key))

-- what the keys of pairs add
abbrev pub sums_of_keys : ℕ → List Pair → List Fragment → Sums
sums_of_keys now pairs fs = total (map (sums_at now pairs fs) (keys_of pairs))

-- what the keys of a span add, and the fragments that overlap it or abut it
abbrev pub span_share : ℕ → Key → Key → List Pair → List Fragment → Sums
span_share now start end pairs fs =
    sums_of_keys now (pairs_in (is_within start end) pairs) fs
    ⊕ total (map (sums_of_fragment now) (filter (λ f. not (is_apart start end f)) fs))

-- a span changes: the statistics are those before, less what the span added, plus what it adds
abbrev pub SpanChanges : Type 0
SpanChanges =
    (now : ℕ) (start end : Key) (before after : List Pair) (fs gs : List Fragment)
    → pairs_out (is_within start end) before ≡ pairs_out (is_within start end) after
    → ((key : Key) → is_within start end key ≡ false → stack_at fs key ≡ stack_at gs key)
    → filter (is_apart start end) fs ≡ filter (is_apart start end) gs
    → compute_stats now after gs ⊕ span_share now start end before fs ≡ compute_stats now before fs ⊕ span_share now start end after gs

-- no pair is after the wall time
abbrev pub PairsAreBy : ℕ → List Pair → Type 0
PairsAreBy wall = AllByRecursion (λ p. p.name.ts.wall ≤ wall)

-- no tombstone of a fragment is
abbrev pub FragmentsAreBy : ℕ → List Fragment → Type 0
FragmentsAreBy wall = AllByRecursion (λ f. AllByRecursion (λ t. t.wall ≤ wall) f.stack)

-- the statistics of what is not after a moment are known at each later one
abbrev pub StatisticsAge : Type 0
StatisticsAge =
    (last now : ℕ) (pairs : List Pair) (fs : List Fragment) → PairsAreBy last pairs → FragmentsAreBy last fs → last ≤ now
    → compute_stats now pairs fs ≡ aged last now (compute_stats last pairs fs)

-- the running statistics are those of these pairs and fragments, of which none is after their moment
pub record AreOf (s : Running) (pairs : List Pair) (fs : List Fragment) : Type 0 where
  pub sums : s.sums ≡ compute_stats s.last pairs fs
  pub pairs_by : PairsAreBy s.last pairs
  pub fragments_by : FragmentsAreBy s.last fs

-- the running statistics of these pairs and fragments at a moment
abbrev pub computed : Running → ℕ → List Pair → List Fragment → Running
computed s now pairs fs = record { sums = compute_stats now pairs fs; last = now; count_max = s.count_max }

-- running statistics that are aged are those of the same pairs and fragments at the later moment
abbrev pub AgeingComputes : Type 0
AgeingComputes =
    (s : Running) (pairs : List Pair) (fs : List Fragment) (now : ℕ) → AreOf s pairs fs → s.last ≤ now
    → aged_to s now ≡ computed s now pairs fs

-- and none of them is negative
abbrev pub AgeingOwesNothing : Type 0
AgeingOwesNothing =
    (s : Running) (pairs : List Pair) (fs : List Fragment) (now : ℕ) → AreOf s pairs fs → s.last ≤ now → NoDebt (aged_number s now)

-- the group is what the statistics change by, at the moment
abbrev pub IsChange : Group → ℕ → List Pair → List Pair → List Fragment → List Fragment → Type 0
IsChange delta now before after fs gs =
    (f : Field) → number f delta ≡ difference (compute_stats now before fs) (compute_stats now after gs) f

-- running statistics that are settled_stats with a change are those of the pairs and fragments after it
abbrev pub SettlingComputes : Type 0
SettlingComputes =
    (s : Running) (before after : List Pair) (fs gs : List Fragment) (delta : Group) (now : ℕ) → AreOf s before fs → s.last ≤ now
    → IsChange delta now before after fs gs → settled_stats s delta now ≡ computed s now after gs

-- and none of them is negative
abbrev pub SettlingOwesNothing : Type 0
SettlingOwesNothing =
    (s : Running) (before after : List Pair) (fs gs : List Fragment) (delta : Group) (now : ℕ) → AreOf s before fs → s.last ≤ now
    → IsChange delta now before after fs gs → NoDebt (settled_number s delta now)

-- each of the statistics of the first is at most that of the second
abbrev pub IsAtMost : Sums → Sums → Type 0
IsAtMost s t = (f : Field) → field f s ≤ field f t

-- what a key adds is at most the whole
abbrev pub SharesAreParts : Type 0
SharesAreParts = (now : ℕ) (pairs : List Pair) (fs : List Fragment) (k : Key) → IsAtMost (share now pairs fs k) (compute_stats now pairs fs)

-- the key lies strictly inside the fragment
abbrev pub is_inside : Key → Fragment → Bool
is_inside b f = is_below f.start b && is_below b f.end

-- the stack of the fragment within which the key lies strictly, or nothing
abbrev pub stack_inside : Key → List Fragment → List Timestamp
stack_inside b fs = stack_of (find (is_inside b) fs)

-- the statistics of a span and those of its two parts
abbrev pub SpansAddUp : Type 0
SpansAddUp =
    (now : ℕ) (a b c : Key) (pairs : List Pair) (fs : List Fragment) → is_below a b ≡ true → is_below b c ≡ true → IsCanonical fs
    → compute_span now a b pairs fs ⊕ compute_span now b c pairs fs ≡ compute_span now a c pairs fs ⊕ cut_correction now (length b) (stack_inside b fs)
