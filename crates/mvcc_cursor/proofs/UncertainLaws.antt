-- The newest uncertain version, found by a walk from the newest version that is not above the window.
use Rattle.std.proofs.Common.{◌≡◌, ℕ, suc, ◌+◌, ◌-◌, ◌<◌, ◌≤◌, Bool, true, false, cond, List, [], ◌∷◌, length, drop, refl, sym, ap, subst, ◌∙◌, arith, inl, inr}
use Rattle.std.proofs.lemmas.Bool.{cases_order}
use Rattle.std.proofs.Math.ListN.{drop_of_length-le}
use Rattle.std.specs.Prelude.{◌&&◌, ◌||◌, map, filter, find, min, not, Some, None, is_some, IfSome}
use Rattle.std.specs.declared.option.Option.{Option}
use Rattle.std.specs.declared.cmp.Ordering.{Ordering}
use Rattle.std.specs.declared.cmp.Ordering.TheVariants.{Less}
use Rattle.std.specs.Option.{option_map}
use Rattle.std.specs.List.{AllByRecursion}
use Rattle.std.specs.List.Sorted.{IsStrictlySortedBy}
use Rattle.std.specs.Ordering.{on, is_lt, is_le}
use Rattle.std.proofs.lemmas.Bool.Decides.{nat_tests}
use Rattle.std.proofs.lemmas.List.Kept.{IsStrictlySortedBy-filter}
use Rattle.mvcc_key.specs.Lists.{first}
use Rattle.mvcc_key.specs.Order.{Timestamp, is_no_time, is_up_to, is_before, time_cmp, newer_first, Key, is_same_key}
use Rattle.mvcc_key.specs.views.Seen.{time_of}
use Rattle.mvcc_key.specs.declared.timestamp.Timestamp.{Timestamp as Declared}
use Rattle.mvcc_key.specs.Points.{Point, IsRising, count_below, point_at}
use Rattle.mvcc_key.specs.History.{Version, version_cmp, Intent, History, versions_of, intent_of}
use Rattle.mvcc_key.specs.Items.{Item, tombstone_item, version_item, items}
use Rattle.mvcc_key.proofs.EachLaws.{all_pass, All-weaker, All-both, All-map, All-filter, All-at_first}
use Rattle.mvcc_key.proofs.FindLaws.{find-none}
use Rattle.mvcc_key.proofs.HistoryLaws.{first_is_newer, intent_of-key}
use Rattle.mvcc_key.proofs.ItemLaws.{items-versions}
use Rattle.mvcc_key.proofs.TimeLaws.{not_up_to, not_before, up_to_itself, up_to_not_before, up_to_along, before_up_to}
use Rattle.run_block.specs.RunFormat.{Run}
use Rattle.lsm_store.specs.Shown.{shown, fragments_in}
use Rattle.intent_meta.specs.KeyHistory.{is_uncertain}
use Rattle.intent_meta.specs.KeyPairs.{key_pairs}
use Rattle.intent_meta.specs.PointPairs.{set_point}
use Rattle.intent_meta.specs.StoredPairs.{VersionOf, provisional, stored_pair}
use Rattle.intent_meta.specs.Valid.{IsValid, IsStoredVersion, IsStoredIntent}
use Rattle.intent_meta.specs.views.Lent.{LentItem, item_times, seen_times}
use Rattle.intent_meta.proofs.ChangedLaws.{intent_of-stored}
use Rattle.intent_meta.proofs.KeyPairsLaws.{own_versions}
use Rattle.mvcc_cursor.specs.KeyPoints.{record_name, kept_if, is_of_key, is_version, points_of, versions_in}
use Rattle.mvcc_cursor.specs.Standing.{Standing, stack_here, Place, BeforeFirst, AtKey, PastLast, points_at, here, anew, committed, committed_at}
use Rattle.mvcc_cursor.specs.WellFormed.{IsWellFormed, history_in}
use Rattle.mvcc_cursor.specs.views.Lent.{LentVersion, lent_version, times_in, version_in}
use Rattle.mvcc_cursor.specs.views.Newer.{newer_times}
use Rattle.mvcc_cursor.specs.views.Seen.{IsSought, seen, told_by, version_now}
use Rattle.mvcc_cursor.specs.views.Under.{before_key, is_stored, key_under, place_in, place_under, version_under}
use Rattle.mvcc_cursor.specs.declared.stand.Stand.{Stand}
use Rattle.mvcc_cursor.specs.declared.stand.Stand.TheVariants.{Before, At, Past}
use Rattle.mvcc_cursor.proofs.HistoryLaws.{points-key}
use Rattle.mvcc_cursor.proofs.ItemLaws.{items-found, newer-timed}
use Rattle.mvcc_cursor.proofs.KeyLaws.{front, versions-from}
use Rattle.mvcc_cursor.proofs.ListLaws.{drop-more, find-filter, rest-front}
use Rattle.mvcc_cursor.proofs.MergeLaws.{newer}
use Rattle.mvcc_cursor.proofs.SeenLaws.{behind-first, behind-next, given-version}
use Rattle.mvcc_cursor.proofs.VersionLaws.{item-lent, lent-first, stored-by}
use Rattle.mvcc_cursor.proofs.StoreLaws.{placed, shown-rising, shown-set}
use Rattle.mvcc_cursor.specs.declared.cursor.MvccCursor.{MvccCursor}

-- timestamps of an item that are uncertain
abbrev pub are_uncertain : Timestamp → Timestamp → Timestamp → Timestamp × Timestamp → Bool
are_uncertain above limit local_limit t = is_before above t.0 && is_up_to t.0 limit && (is_no_time local_limit || is_up_to t.1 local_limit)

-- the newer first
abbrev pub newer_times_first : Timestamp × Timestamp → Timestamp × Timestamp → Ordering
newer_times_first = on (λ t. t.0) newer_first

-- the timestamps of a version that is a point
abbrev pub times_at : Point → Timestamp × Timestamp
times_at p = times_in (version_in p)

-- the timestamps of a version as an item
abbrev pub times_of : Version → Timestamp × Timestamp
times_of v = item_times (version_item v)

-- the points of the key from the place on
abbrev pub points_from : MvccCursor → List Point
points_from c = points_at (seen c).at (drop (place_under c.places.versions - 1) (shown c.places.store.now))

-- their timestamps
abbrev pub times_from : MvccCursor → List (Timestamp × Timestamp)
times_from c = map times_at (points_from c)

-- what the walk keeps: no version that it passed is uncertain, and none from here on is above the window
pub record IsWalked (above limit local_limit : Timestamp) (old new : MvccCursor) : Type 0 where
  pub anew : seen new ≡ anew (seen old)
  pub given : new.given ≡ false
  pub stored : new.stored ≡ true
  pub behind : before_key new.sought.items (shown new.places.store.now) < place_under new.places.versions
  pub here : version_now new ≡ first (points_from new)
  pub up_to : AllByRecursion (λ t. is_up_to t.0 limit ≡ true) (times_from new)
  pub newest_first : IsStrictlySortedBy newer_times_first (times_from new)
  pub found : option_map item_times (find (is_uncertain above limit local_limit) (map version_item (committed (seen old)))) ≡ find (are_uncertain above limit local_limit) (times_from new)

-- the first of them
pub first-times : (ps : List Point) → option_map times_in (option_map version_in (first ps)) ≡ first (map times_at ps)
first-times [] = refl
first-times (p ∷ ps) = refl

-- those behind it
pub rest-times : (ps : List Point) → map times_at (drop 1 ps) ≡ drop 1 (map times_at ps)
rest-times [] = refl
rest-times (p ∷ ps) = refl

-- the first version whose timestamps pass
pub find-times : (test : Timestamp × Timestamp → Bool) (vs : List Version) → option_map item_times (find (λ i. test (item_times i)) (map version_item vs)) ≡ find test (map times_of vs)
find-times test [] = refl
find-times test (v ∷ vs) = by (test (times_of v)) (find-times test vs)
  where
    by : (b : Bool) → option_map item_times (find (λ i. test (item_times i)) (map version_item vs)) ≡ find test (map times_of vs)
        → option_map item_times (cond b (Some (version_item v)) (find (λ i. test (item_times i)) (map version_item vs))) ≡ cond b (Some (times_of v)) (find test (map times_of vs))
    by true rest = refl
    by false rest = rest

-- those that are left out do not pass
find-left : {X : Type 0} (test keep : X → Bool) (xs : List X) → AllByRecursion (λ x. test x ≡ true → keep x ≡ true) xs → find test xs ≡ find test (filter keep xs)
find-left test keep [] all = refl
find-left {X} test keep (x ∷ xs) all = by (test x) refl (keep x) refl (find-left test keep xs all.1)
  where
    by : (b : Bool) → test x ≡ b → (c : Bool) → keep x ≡ c → find test xs ≡ find test (filter keep xs)
        → cond b (Some x) (find test xs) ≡ find test (cond c (x ∷ filter keep xs) (filter keep xs))
    by true there true kept rest = sym (ap (λ (b : Bool). cond b (Some x) (find test (filter keep xs))) there)
    by true there false kept rest = absurd (let e : keep x ≡ true = all.0 there in cc)
    by false there true kept rest = rest ∙ sym (ap (λ (b : Bool). cond b (Some x) (find test (filter keep xs))) there)
    by false there false kept rest = rest

-- of timestamps that are newest first
module _ (above limit local_limit : Timestamp) where
  -- one that is not above the start of the window is not uncertain
  low-is : (t : Timestamp × Timestamp) → is_up_to t.0 above ≡ true → are_uncertain above limit local_limit t ≡ false
  low-is t low = rw (up_to_not_before t.0 above low) refl

  -- where the first is not above the start, none is uncertain
  pub none-low : (ts : List (Timestamp × Timestamp)) → IsStrictlySortedBy newer_times_first ts → (t : Timestamp × Timestamp) → first ts ≡ Some t → is_up_to t.0 above ≡ true
      → find (are_uncertain above limit local_limit) ts ≡ None
  unfolding IsStrictlySortedBy
  none-low [] sorted t is low = refl
  none-low (x ∷ xs) sorted t is low =
      (let same : x ≡ t = cc in
      let low' : is_up_to x.0 above ≡ true = ap (λ (u : Timestamp × Timestamp). is_up_to u.0 above) same ∙ low in
      find-none (are_uncertain above limit local_limit) (x ∷ xs) (
        low-is x low',
        All-weaker (λ u. newer_times_first x u ≡ Less) (λ u. are_uncertain above limit local_limit u ≡ false) xs
            (λ u h. low-is u (up_to_along u.0 x.0 above (before_up_to u.0 x.0 (ap is_lt h)) low')) sorted.0,
      ))

  -- where there is none, none is
  pub none-left : (ts : List (Timestamp × Timestamp)) → first ts ≡ None → find (are_uncertain above limit local_limit) ts ≡ None
  none-left [] is = refl
  none-left (x ∷ xs) is = cc

  -- the first is, where it is in the window and written in time
  pub first-is : (ts : List (Timestamp × Timestamp)) → AllByRecursion (λ t. is_up_to t.0 limit ≡ true) ts → (t : Timestamp × Timestamp) → first ts ≡ Some t → is_up_to t.0 above ≡ false
      → (is_no_time local_limit || is_up_to t.1 local_limit) ≡ true → find (are_uncertain above limit local_limit) ts ≡ Some t
  first-is [] all t is high early = cc
  first-is (x ∷ xs) all t is high early =
      (let same : x ≡ t = cc in
      let later : is_before above x.0 ≡ true = ap (λ (u : Timestamp × Timestamp). is_before above u.0) same ∙ not_up_to t.0 above high in
      let early' : (is_no_time local_limit || is_up_to x.1 local_limit) ≡ true = ap (λ (u : Timestamp × Timestamp). is_no_time local_limit || is_up_to u.1 local_limit) same ∙ early in
      let test : are_uncertain above limit local_limit x ≡ true = rw (later, all.0, early') refl in
      ap (λ (b : Bool). cond b (Some x) (find (are_uncertain above limit local_limit) xs)) test ∙ ap Some same)

  -- and it is passed where it is not
  pub first-not : (ts : List (Timestamp × Timestamp)) (t : Timestamp × Timestamp) → first ts ≡ Some t → (is_no_time local_limit || is_up_to t.1 local_limit) ≡ false
      → find (are_uncertain above limit local_limit) ts ≡ find (are_uncertain above limit local_limit) (drop 1 ts)
  first-not [] t is late = refl
  first-not (x ∷ xs) t is late =
      (let same : x ≡ t = cc in
      let late' : (is_no_time local_limit || is_up_to x.1 local_limit) ≡ false = ap (λ (u : Timestamp × Timestamp). is_no_time local_limit || is_up_to u.1 local_limit) same ∙ late in
      let test : are_uncertain above limit local_limit x ≡ false = rw late' (by (is_before above x.0) (is_up_to x.0 limit)) in
      ap (λ (b : Bool). cond b (Some x) (find (are_uncertain above limit local_limit) xs)) test)
    where
      by : (a b : Bool) → (a && b && false) ≡ false
      by true true = refl
      by true false = refl
      by false b = refl

-- what holds of all holds behind the first
pub all-rest : {X : Type 0} (P : X → Type 0) (xs : List X) → AllByRecursion P xs → AllByRecursion P (drop 1 xs)
all-rest P [] all = tt
all-rest P (x ∷ xs) all = all.1

-- and those behind the first descend as all do
pub sorted-rest : {X : Type 0} (cmp : X → X → Ordering) (xs : List X) → IsStrictlySortedBy cmp xs → IsStrictlySortedBy cmp (drop 1 xs)
unfolding IsStrictlySortedBy
sorted-rest cmp [] sorted = tt
sorted-rest cmp (x ∷ xs) sorted = sorted.1

-- the earlier of two timestamps
abbrev pub earlier : Timestamp → Timestamp → Timestamp
earlier s t = cond (is_before t s) t s

-- the one that a call takes
pub earlier-is : (a b least : Declared) → least ≡ cond (is_before (time_of b) (time_of a)) b a → time_of least ≡ earlier (time_of a) (time_of b)
earlier-is a b least is = ap time_of is ∙ by (is_before (time_of b) (time_of a))
  where
    by : (c : Bool) → time_of (cond c b a) ≡ cond c (time_of b) (time_of a)
    by true = refl
    by false = refl

-- it is not newer than the first
earlier-first : (s t : Timestamp) → is_up_to (earlier s t) s ≡ true
earlier-first s t = by (is_before t s) refl
  where
    by : (b : Bool) → is_before t s ≡ b → is_up_to (cond b t s) s ≡ true
    by true h = before_up_to t s h
    by false h = up_to_itself s

-- nor than the second
earlier-second : (s t : Timestamp) → is_up_to (earlier s t) t ≡ true
earlier-second s t = by (is_before t s) refl
  where
    by : (b : Bool) → is_before t s ≡ b → is_up_to (cond b t s) t ≡ true
    by true h = up_to_itself t
    by false h = not_before t s h

-- what is newer than neither is not newer than it
earlier-both : (r s t : Timestamp) → is_up_to r s ≡ true → is_up_to r t ≡ true → is_up_to r (earlier s t) ≡ true
earlier-both r s t h k = by (is_before t s)
  where
    by : (b : Bool) → is_up_to r (cond b t s) ≡ true
    by true = k
    by false = h

-- how one timestamp stands to another, as a call tells it
pub as-told : (s t : Timestamp) (o : Ordering) (b d : Bool) → o ≡ time_cmp s t → b ≡ is_le o → b ≡ d → is_up_to s t ≡ d
as-told s t o b d compared is told = ap is_le (sym compared) ∙ sym is ∙ told

-- what is above a timestamp is one
pub above-timed : (s t : Timestamp) → is_up_to t s ≡ false → is_no_time t ≡ false
above-timed s t h = grind (arith, nat_tests)

-- the timestamps of the versions of one key descend
times-descend : (key : Key) (vs : List Version) → AllByRecursion (λ v. (is_same_key v.key key ≡ true) × (is_no_time v.ts ≡ false)) vs → IsStrictlySortedBy version_cmp vs
    → IsStrictlySortedBy newer_times_first (map times_of vs)
unfolding IsStrictlySortedBy
times-descend key [] own sorted = tt
times-descend key (v ∷ vs) own sorted = (
  All-map (λ t. newer_times_first (times_of v) t ≡ Less) times_of vs
      (All-both (λ w. (is_same_key w.key key ≡ true) × (is_no_time w.ts ≡ false)) (λ w. version_cmp v w ≡ Less) (λ w. newer_times_first (times_of v) (times_of w) ≡ Less) vs
      (λ w a b. first_is_newer v w key own.0.0 a.0 own.0.1 a.1 b) own.1 sorted.0),
  times-descend key vs own.1 sorted.1,
)

-- none is newer than the first
up_to-first : (ts : List (Timestamp × Timestamp)) → IsStrictlySortedBy newer_times_first ts → (t : Timestamp × Timestamp) → first ts ≡ Some t → AllByRecursion (λ u. is_up_to u.0 t.0 ≡ true) ts
unfolding IsStrictlySortedBy
up_to-first [] sorted t is = tt
up_to-first (x ∷ xs) sorted t is =
    (let same : x ≡ t = cc in
    subst (λ (y : Timestamp × Timestamp). AllByRecursion (λ u. is_up_to u.0 y.0 ≡ true) (x ∷ xs)) same
    (up_to_itself x.0, All-weaker (λ u. newer_times_first x u ≡ Less) (λ u. is_up_to u.0 x.0 ≡ true) xs (λ u h. before_up_to u.0 x.0 (ap is_lt h)) sorted.0))

-- the timestamps of a version, by what is stored of it
times-stored : (v : Version) → IsStoredVersion v → times_at (set_point (stored_pair (VersionOf v))) ≡ times_of v
times-stored v stored = ap (λ (x : LentItem). (v.ts, cond (is_no_time x.local) v.ts x.local)) (item-lent v stored)

module _ (from : Timestamp) where
  -- the versions that are not newer, as points
  kept-times : (vs : List Version) → AllByRecursion IsStoredVersion vs → AllByRecursion (λ v. is_no_time v.ts ≡ false) vs
      → map times_at (filter (λ p. is_up_to p.name.ts from) (filter is_version (map set_point (map (λ v. stored_pair (VersionOf v)) vs)))) ≡ filter (λ t. is_up_to t.0 from) (map times_of vs)
  kept-times [] stored timed = refl
  kept-times (v ∷ vs) stored timed =
      ap (λ (b : Bool). map times_at (filter (λ p. is_up_to p.name.ts from) (cond (not b) (set_point (stored_pair (VersionOf v)) ∷ filter is_version (map set_point (map (λ v. stored_pair (VersionOf v)) vs)))
      (filter is_version (map set_point (map (λ v. stored_pair (VersionOf v)) vs)))))) timed.0
      ∙ by (is_up_to v.ts from) (kept-times vs stored.1 timed.1)
    where
      by : (b : Bool)
          → map times_at (filter (λ p. is_up_to p.name.ts from) (filter is_version (map set_point (map (λ v. stored_pair (VersionOf v)) vs)))) ≡ filter (λ t. is_up_to t.0 from) (map times_of vs)
          → map times_at (cond b (set_point (stored_pair (VersionOf v)) ∷ filter (λ p. is_up_to p.name.ts from) (filter is_version (map set_point (map (λ v. stored_pair (VersionOf v)) vs))))
          (filter (λ p. is_up_to p.name.ts from) (filter is_version (map set_point (map (λ v. stored_pair (VersionOf v)) vs)))))
          ≡ cond b (times_of v ∷ filter (λ t. is_up_to t.0 from) (map times_of vs)) (filter (λ t. is_up_to t.0 from) (map times_of vs))
      by true rest = λ i. times-stored v stored.0 i ∷ rest i
      by false rest = rest

  -- the provisional version is newer than all of them
  all-kept : (o : Option Intent) (vs : List Version) → IfSome o (λ i. is_up_to i.ts from ≡ false) → AllByRecursion IsStoredVersion vs → AllByRecursion (λ v. is_no_time v.ts ≡ false) vs
      → map times_at (filter (λ p. is_up_to p.name.ts from) (versions_in (map set_point (key_pairs o vs)))) ≡ filter (λ t. is_up_to t.0 from) (map times_of vs)
  unfolding versions_in
  all-kept None vs newer stored timed = kept-times vs stored timed
  all-kept (Some i) vs newer stored timed =
      ap (map times_at) (by (is_version (set_point (stored_pair (VersionOf (provisional i))))) (filter is_version (map set_point (map (λ v. stored_pair (VersionOf v)) vs)))) ∙ kept-times vs stored timed
    where
      by : (b : Bool) (ps : List Point) → filter (λ p. is_up_to p.name.ts from) (cond b (set_point (stored_pair (VersionOf (provisional i))) ∷ ps) ps) ≡ filter (λ p. is_up_to p.name.ts from) ps
      by true ps = ap (λ (b : Bool). cond b (set_point (stored_pair (VersionOf (provisional i))) ∷ filter (λ p. is_up_to p.name.ts from) ps) (filter (λ p. is_up_to p.name.ts from) ps)) newer
      by false ps = refl

module _ (h : History) (key : Key) (valid : IsValid h) where
  -- the timestamps of its versions descend
  versions-descend : IsStrictlySortedBy newer_times_first (map times_of (versions_of key h))
  versions-descend = times-descend key (versions_of key h) (own_versions h key valid) (IsStrictlySortedBy-filter version_cmp (λ v. is_same_key v.key key) h.versions valid.versions_in_order)

  -- an intent is above what is not above the newest version
  intent-newer : (v : Version) → first (versions_of key h) ≡ Some v → (from : Timestamp) → is_up_to from v.ts ≡ true → (o : Option Intent) → intent_of key h ≡ o → IfSome o (λ i. is_up_to i.ts from ≡ false)
  intent-newer v at from up None is = tt
  intent-newer v at from up (Some i) is = by (is_up_to i.ts from) refl
    where
      stored : IsStoredIntent h i
      stored = intent_of-stored key h i valid is

      older : is_before v.ts i.ts ≡ true
      older =
          All-at_first (λ w. is_before w.ts i.ts ≡ true) (versions_of key h) v
          (items-versions (λ t. is_before t i.ts ≡ true) h key (subst (λ k. AllByRecursion (λ (item : Item). is_before item.ts i.ts ≡ true) (items h k)) (intent_of-key key h i is) stored.above_items)) at

      by : (b : Bool) → is_up_to i.ts from ≡ b → is_up_to i.ts from ≡ false
      by false e = e
      by true e = (let never : is_before v.ts i.ts ≡ false = up_to_not_before i.ts v.ts (up_to_along i.ts from v.ts e up) in let apart : true ≡ false = sym older ∙ never in absurd cc)

  -- so the points of the key up to there are its versions up to there
  pub key-kept : (points : List Point) → points_of key points ≡ map set_point (key_pairs (intent_of key h) (versions_of key h)) → (v : Version) → first (versions_of key h) ≡ Some v
      → (from : Timestamp) → is_up_to from v.ts ≡ true
      → map times_at (filter (λ p. is_up_to p.name.ts from) (versions_in (points_of key points))) ≡ filter (λ t. is_up_to t.0 from) (map times_of (versions_of key h))
  key-kept points are v at from up =
      ap (λ ps. map times_at (filter (λ p. is_up_to p.name.ts from) (versions_in ps))) are
      ∙ all-kept from (intent_of key h) (versions_of key h) (intent-newer v at from up (intent_of key h) refl)
      (All-filter IsStoredVersion (λ v. is_same_key v.key key) h.versions valid.versions)
      (All-weaker (λ v. (is_same_key v.key key ≡ true) × (is_no_time v.ts ≡ false)) (λ v. is_no_time v.ts ≡ false) (versions_of key h) (λ v own. own.1) (own_versions h key valid))

-- the committed versions at a place descend
pub committed-descend : (at : Place) (h : History) → IsValid h → IsStrictlySortedBy newer_times_first (map times_of (committed_at at h))
unfolding IsStrictlySortedBy
committed-descend BeforeFirst h valid = tt
committed-descend (AtKey key) h valid = versions-descend h key valid
committed-descend PastLast h valid = tt

-- what is ahead where a seek to a timestamp that is not above the newest version went
record IsAhead (sought : List ℕ) (at : Place) (points : List Point) (h : History) (stored : Bool) (place : ℕ) (from : Timestamp) : Type 0 where
  pub stored_is : stored ≡ true
  pub behind : before_key sought points < place
  pub points_are : points_at at (drop (place - 1) points) ≡ filter (λ p. is_up_to p.name.ts from) (versions_in (points_at at points))
  pub times_are : map times_at (filter (λ p. is_up_to p.name.ts from) (versions_in (points_at at points))) ≡ filter (λ t. is_up_to t.0 from) (map times_of (committed_at at h))

module _ (h : History) (store : List Run) (well : IsWellFormed h store) (sought : List ℕ) (v : Version) (from : Timestamp) (up : is_up_to from v.ts ≡ true) (some : is_no_time from ≡ false) (place : ℕ) where
  -- a point of the key is stored, and those from the place on are its versions up to the timestamp
  ahead-is : (stand : Stand) (stored : Bool) → first (committed_at (place_in stand sought) h) ≡ Some v → stored ≡ is_stored (place_in stand sought) (shown store)
      → (stored ≡ true → place ≡ count_below (version_under sought from) (shown store) + 1)
      → IsAhead sought (place_in stand sought) (shown store) h stored place from
  ahead-is Before stored at found goes = cc
  ahead-is Past stored at found goes = cc
  ahead-is At stored at found goes =
      (let is = stored-by h (shown store) (fragments_in store) well (shown-set store) (AtKey (key_under sought)) stored found (ap is_some at) in
      let there = goes is in
      let less : place - 1 ≡ count_below (version_under sought from) (shown store) = omega arith in
      record {
        stored_is = is;
        behind = behind-first sought (shown store) from (shown-rising store) some place there;
        points_are = ap (λ (n : ℕ). points_of (key_under sought) (drop n (shown store))) less ∙ versions-from (key_under sought) (shown store) (shown-rising store) from some;
        times_are = key-kept h (key_under sought) well.valid (shown store) (points-key h (shown store) (fragments_in store) well (shown-set store) (key_under sought)) v at from up;
      })

-- where no version is above the limit and the newest, the newest uncertain one is among those up to the earlier of the two
module _ (above limit local_limit newest : Timestamp) (ts : List (Timestamp × Timestamp)) (descend : IsStrictlySortedBy newer_times_first ts) (t : Timestamp × Timestamp) (at : first ts ≡ Some t) (is : t.0 ≡ newest) where
  -- an uncertain one is not newer than either
  up-to-both : AllByRecursion (λ u. are_uncertain above limit local_limit u ≡ true → is_up_to u.0 (earlier newest limit) ≡ true) ts
  up-to-both =
      All-weaker (λ u. is_up_to u.0 t.0 ≡ true) (λ u. are_uncertain above limit local_limit u ≡ true → is_up_to u.0 (earlier newest limit) ≡ true) ts
      (λ u low test. earlier-both u.0 newest limit (ap (is_up_to u.0) (sym is) ∙ low) (second (is_before above u.0) (is_up_to u.0 limit) (is_no_time local_limit || is_up_to u.1 local_limit) test))
      (up_to-first ts descend t at)
    where
      second : (a b c : Bool) → (a && b && c) ≡ true → b ≡ true
      second true true c e = refl
      second true false c e = cc
      second false b c e = cc

  pub found-kept : find (are_uncertain above limit local_limit) ts ≡ find (are_uncertain above limit local_limit) (filter (λ u. is_up_to u.0 (earlier newest limit)) ts)
  found-kept = find-left (are_uncertain above limit local_limit) (λ u. is_up_to u.0 (earlier newest limit)) ts up-to-both

  -- and there is none where that is not above the start
  pub found-none : is_up_to (earlier newest limit) above ≡ true → find (are_uncertain above limit local_limit) ts ≡ None
  found-none low =
      found-kept
      ∙ find-none (are_uncertain above limit local_limit) (filter (λ u. is_up_to u.0 (earlier newest limit)) ts)
      (All-weaker (λ u. is_up_to u.0 (earlier newest limit) ≡ true) (λ u. are_uncertain above limit local_limit u ≡ false) (filter (λ u. is_up_to u.0 (earlier newest limit)) ts)
      (λ u h. low-is above limit local_limit u (up_to_along u.0 (earlier newest limit) above h low)) (all_pass (λ u. is_up_to u.0 (earlier newest limit)) ts))

-- the timestamps of the first version
first-of : (vs : List Version) (v : Version) → first vs ≡ Some v → first (map times_of vs) ≡ Some (times_of v)
first-of [] v is = cc
first-of (w ∷ ws) v is = (let same : w ≡ v = cc in ap (λ x. Some (times_of x)) same)

module _ (above limit local_limit : Timestamp) (old : MvccCursor) (s : Standing) (stands : s ≡ anew (seen old)) (n : LentVersion) (newest_there : Some n ≡ option_map lent_version (first (committed s))) where
  -- the newest version, before the versions were given anew
  newest : Some n ≡ option_map lent_version (first (committed (seen old)))
  newest = newest_there ∙ ap (λ t. option_map lent_version (first (committed t))) stands

  -- where the window ends at its start, or before, no version is uncertain
  pub window-empty : is_up_to (earlier n.ts limit) above ≡ true
      → option_map item_times (find (is_uncertain above limit local_limit) (map version_item (committed (seen old)))) ≡ None
  window-empty low =
      (let v = lent-first n (first (committed (seen old))) newest in
      let same : v.0.ts ≡ n.ts = ap (λ x. x.ts) (sym v.2) in
      find-times (are_uncertain above limit local_limit) (committed (seen old))
      ∙ found-none above limit local_limit n.ts (map times_of (committed (seen old))) (committed-descend (seen old).at (history_in old.places.store.now) old.well_formed.valid)
      (times_of v.0) (first-of (committed (seen old)) v.0 v.1) same low)

  -- the walk begins where a seek to its end goes
  pub walk-starts : (new : MvccCursor) (from : Timestamp) → from ≡ earlier n.ts limit → is_no_time from ≡ false → seen new ≡ anew s → new.given ≡ false
      → (new.stored ≡ true → IsSought from new)
      → version_now new ≡ find (λ p. is_up_to p.name.ts from) (versions_in (here s))
      → IsWalked above limit local_limit old new
  walk-starts new from is some same' given goes finds' =
      (let same : seen new ≡ anew (seen old) = same' ∙ ap (λ t. anew t) stands in
      let finds : version_now new ≡ find (λ p. is_up_to p.name.ts from) (versions_in (here (seen old))) = finds' ∙ ap (λ t. find (λ p. is_up_to p.name.ts from) (versions_in (here t))) stands in
      let U = are_uncertain above limit local_limit in
      let same_committed : committed (seen new) ≡ committed (seen old) = ap committed same in
      let v = lent-first n (first (committed (seen new))) (newest ∙ ap (λ vs. option_map lent_version (first vs)) (sym same_committed)) in
      let newest_time : v.0.ts ≡ n.ts = ap (λ x. x.ts) (sym v.2) in
      let up : is_up_to from v.0.ts ≡ true = ap (λ t. is_up_to t v.0.ts) is ∙ ap (is_up_to (earlier n.ts limit)) newest_time ∙ earlier-first n.ts limit in
      let a = ahead-is (history_in new.places.store.now) new.places.store.now new.well_formed new.sought.items v.0 from up some (place_under new.places.versions) new.stand new.stored v.1 new.found goes in
      let times : times_from new ≡ filter (λ t. is_up_to t.0 from) (map times_of (committed (seen new))) = ap (map times_at) a.points_are ∙ a.times_are in
      let descend = committed-descend (seen new).at (history_in new.places.store.now) new.well_formed.valid in
      record {
        anew = same;
        given = given;
        stored = a.stored_is;
        behind = a.behind;
        here = finds ∙ ap (λ s. find (λ p. is_up_to p.name.ts from) (versions_in (here s))) (sym same) ∙ find-filter (λ p. is_up_to p.name.ts from) (versions_in (here (seen new))) ∙ ap first (sym a.points_are);
        up_to = subst (AllByRecursion (λ t. is_up_to t.0 limit ≡ true)) (sym times)
            (All-weaker (λ t. is_up_to t.0 from ≡ true) (λ t. is_up_to t.0 limit ≡ true) (filter (λ t. is_up_to t.0 from) (map times_of (committed (seen new))))
            (λ t low. up_to_along t.0 from limit low (ap (λ x. is_up_to x limit) is ∙ earlier-second n.ts limit)) (all_pass (λ t. is_up_to t.0 from) (map times_of (committed (seen new)))));
        newest_first = subst (IsStrictlySortedBy newer_times_first) (sym times) (IsStrictlySortedBy-filter newer_times_first (λ t. is_up_to t.0 from) (map times_of (committed (seen new))) descend);
        found =
            ap (λ vs. option_map item_times (find (is_uncertain above limit local_limit) (map version_item vs))) (sym same_committed)
            ∙ find-times U (committed (seen new))
            ∙ found-kept above limit local_limit n.ts (map times_of (committed (seen new))) descend (times_of v.0) (first-of (committed (seen new)) v.0 v.1) newest_time
            ∙ ap (λ x. find U (filter (λ t. is_up_to t.0 x) (map times_of (committed (seen new))))) (sym is)
            ∙ ap (find U) (sym times);
      })

-- a step behind a place from the record on
module _ (sought : List ℕ) (points : List Point) (rising : IsRising points) (place place' : ℕ) (behind : before_key sought points < place) (next : place' ≡ min (place + 1) (length points + 1)) (within : place ≤ length points + 1) where
  -- the place behind the step
  same-rest : drop (place' - 1) points ≡ drop place points
  same-rest = elim (cases_order place (length points + 1)) [
    | inl at_end ↦
        (let same : place' - 1 ≡ length points = omega arith in
        let all : drop (length points) points ≡ [] = drop_of_length-le points (omega arith) in
        let none : drop place points ≡ [] = drop_of_length-le points (omega arith) in
        ap (λ (n : ℕ). drop n points) same ∙ all ∙ sym none)
    | inr (inl inside) ↦ (let same : place' - 1 ≡ place = omega arith in ap (λ (n : ℕ). drop n points) same)
    | inr (inr past) ↦ absurd (omega arith)
  ]

  -- what is ahead then is what was ahead, without its first
  step-rest : (stand : Stand) → points_at (place_in stand sought) (drop (place' - 1) points) ≡ drop 1 (points_at (place_in stand sought) (drop (place - 1) points))
  unfolding points_of
  step-rest Before = refl
  step-rest Past = refl
  step-rest At =
      (let le : before_key sought points ≤ place - 1 = omega arith in
      let one : place ≡ suc (place - 1) = omega arith in
      ap (filter (is_of_key (key_under sought))) (same-rest ∙ ap (λ (n : ℕ). drop n points) one ∙ sym (drop-more (place - 1) points))
      ∙ rest-front (is_of_key (key_under sought)) (drop (place - 1) points) (front (key_under sought) points rising (place - 1) le))

  -- and its first is the version at which it stands
  step-here : (stand : Stand) (stored : Bool) → stored ≡ true → stored ≡ is_stored (place_in stand sought) points
      → cond stored (kept_if (λ p. is_of_key (key_under sought) p && is_version p) (point_at points place')) None ≡ first (points_at (place_in stand sought) (drop (place' - 1) points))
  step-here stand stored is found =
      given-version sought points rising place place' behind next within stand stored is found
      ∙ ap (λ ps. first (points_at (place_in stand sought) ps)) (sym same-rest)

-- where there is a first, fewer are behind it
fewer-behind : (ps qs : List Point) (t : Timestamp × Timestamp) → first (map times_at ps) ≡ Some t → qs ≡ drop 1 ps → length qs < length ps
fewer-behind [] qs t is same = cc
fewer-behind (p ∷ ps) qs t is same = (let e : length qs ≡ length ps = ap length same in omega arith)

module _ (above limit local_limit : Timestamp) (old mid new : MvccCursor) (w : IsWalked above limit local_limit old mid)
    (same : seen new ≡ seen mid) (stored : new.stored ≡ mid.stored) (sought : new.sought.items ≡ mid.sought.items)
    (next : place_under new.places.versions ≡ min (place_under mid.places.versions + 1) (length (shown mid.places.store.now) + 1)) where
  -- the step keeps the store
  same_store : new.places.store.now ≡ mid.places.store.now
  same_store = ap (λ s. s.store) same

  -- the place before it was from the record on
  same_behind : before_key new.sought.items (shown new.places.store.now) < place_under mid.places.versions
  same_behind =
      (let e : before_key new.sought.items (shown new.places.store.now) ≡ before_key mid.sought.items (shown mid.places.store.now) =
      ap (λ l. before_key l (shown new.places.store.now)) sought ∙ ap (λ s. before_key mid.sought.items (shown s)) same_store in
      let b = w.behind in
      omega arith)

  -- by the store after it
  same_next : place_under new.places.versions ≡ min (place_under mid.places.versions + 1) (length (shown new.places.store.now) + 1)
  same_next = next ∙ ap (λ s. min (place_under mid.places.versions + 1) (length (shown s) + 1)) (sym same_store)

  -- the place before it was at most one past the last point
  same_within : place_under mid.places.versions ≤ length (shown new.places.store.now) + 1
  same_within = subst (λ s. place_under mid.places.versions ≤ length (shown s) + 1) (sym same_store) (placed mid.places.store.now mid.places.versions mid.places.versions_over)

  -- what is ahead after it
  walk-rest : points_from new ≡ drop 1 (points_from mid)
  walk-rest =
      step-rest new.sought.items (shown new.places.store.now) (shown-rising new.places.store.now) (place_under mid.places.versions) (place_under new.places.versions) same_behind same_next same_within new.stand
      ∙ ap (λ s. drop 1 (points_at s.at (drop (place_under mid.places.versions - 1) (shown s.store)))) same

  -- the walk comes nearer to its end
  pub walk-ends : (t : Timestamp × Timestamp) → Some t ≡ option_map times_in (option_map version_in (version_now mid)) → length (points_from new) < length (points_from mid)
  walk-ends t is =
      fewer-behind (points_from mid) (points_from new) t (sym (is ∙ ap (λ o. option_map times_in (option_map version_in o)) w.here ∙ first-times (points_from mid))) walk-rest

  -- it goes past a version that was written too late
  pub walk-goes : new.given ≡ false → (t : Timestamp × Timestamp) → Some t ≡ option_map times_in (option_map version_in (version_now mid)) → (is_no_time local_limit || is_up_to t.1 local_limit) ≡ false
      → IsWalked above limit local_limit old new
  walk-goes given t is late =
      (let U = are_uncertain above limit local_limit in
      let there : first (times_from mid) ≡ Some t = sym (is ∙ ap (λ o. option_map times_in (option_map version_in o)) w.here ∙ first-times (points_from mid)) in
      let times : times_from new ≡ drop 1 (times_from mid) = ap (map times_at) walk-rest ∙ rest-times (points_from mid) in
      record {
        anew = same ∙ w.anew;
        given = given;
        stored = stored ∙ w.stored;
        behind = behind-next (record_name (key_under new.sought.items)) (shown new.places.store.now) (place_under mid.places.versions) (place_under new.places.versions) same_behind same_next;
        here = step-here new.sought.items (shown new.places.store.now) (shown-rising new.places.store.now) (place_under mid.places.versions) (place_under new.places.versions) same_behind same_next same_within new.stand new.stored (stored ∙ w.stored) new.found;
        up_to = subst (AllByRecursion (λ t. is_up_to t.0 limit ≡ true)) (sym times) (all-rest (λ t. is_up_to t.0 limit ≡ true) (times_from mid) w.up_to);
        newest_first = subst (IsStrictlySortedBy newer_times_first) (sym times) (sorted-rest newer_times_first (times_from mid) w.newest_first);
        found = w.found ∙ first-not above limit local_limit (times_from mid) t there late ∙ ap (find U) (sym times);
      })

-- where the walk ends
module _ (above limit local_limit : Timestamp) (old mid : MvccCursor) (w : IsWalked above limit local_limit old mid) where
  -- past the last version
  pub walk-none : (o : Option (Declared × Declared)) → o ≡ None → option_map seen_times o ≡ option_map times_in (option_map version_in (version_now mid))
      → None ≡ option_map item_times (find (is_uncertain above limit local_limit) (map version_item (committed (seen old))))
  walk-none o none told =
      sym (w.found ∙ none-left above limit local_limit (times_from mid)
      (sym (ap (option_map seen_times) (sym none) ∙ told ∙ ap (λ q. option_map times_in (option_map version_in q)) w.here ∙ first-times (points_from mid))))

  module _ (t : Timestamp × Timestamp) (is : Some t ≡ option_map times_in (option_map version_in (version_now mid))) where
    -- its timestamps are the first of those ahead
    there : first (times_from mid) ≡ Some t
    there = sym (is ∙ ap (λ o. option_map times_in (option_map version_in o)) w.here ∙ first-times (points_from mid))

    -- at one that is not above the start of the window
    pub walk-low : is_up_to t.0 above ≡ true → None ≡ option_map item_times (find (is_uncertain above limit local_limit) (map version_item (committed (seen old))))
    walk-low low = sym (w.found ∙ none-low above limit local_limit (times_from mid) w.newest_first t there low)

    -- at one that is uncertain
    pub walk-finds : is_up_to t.0 above ≡ false → (is_no_time local_limit || is_up_to t.1 local_limit) ≡ true
        → Some t ≡ option_map item_times (find (is_uncertain above limit local_limit) (map version_item (committed (seen old))))
    walk-finds high early = sym (w.found ∙ first-is above limit local_limit (times_from mid) w.up_to t there high early)

-- the newest uncertain item is the newer of the newest uncertain version and the newest uncertain tombstone
module _ (above limit local_limit : Timestamp) (c : MvccCursor) (s : Standing) (stands : s ≡ anew (seen c)) (version over result : Option (Timestamp × Timestamp)) (times : List Timestamp) where
  -- whether an item is uncertain
  abbrev test : Item → Bool
  test = is_uncertain above limit local_limit

  pub uncertain-joined : version ≡ option_map item_times (find test (map version_item (committed (seen c)))) → times ≡ stack_here s → over ≡ option_map item_times (find test (map tombstone_item times))
      → result ≡ newer_times version over → result ≡ option_map item_times (find test (told_by c).items)
  uncertain-joined found here over_found joined =
      (let all : times ≡ stack_here (seen c) = here ∙ ap stack_here stands in
      let version_found : Option Item = find test (map version_item (committed (seen c))) in
      let tombstone_found : Option Item = find test (map tombstone_item (stack_here (seen c))) in
      let same : over ≡ option_map item_times tombstone_found = over_found ∙ ap (λ ts. option_map item_times (find test (map tombstone_item ts))) all in
      let newest : find test (told_by c).items ≡ newer version_found tombstone_found =
      items-found (history_in c.places.store.now) (shown c.places.store.now) (fragments_in c.places.store.now) c.well_formed (seen c).at test in
      joined ∙ (λ i. newer_times (found i) (same i)) ∙ sym (newer-timed version_found tombstone_found) ∙ ap (option_map item_times) (sym newest))
