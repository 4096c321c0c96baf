-- The intent and the versions of a key, by the points where they stand.
use Rattle.std.proofs.Common.{◌≡◌, ℕ, ◌+◌, Bool, true, false, cond, List, [], ◌∷◌, refl, sym, ap, subst, ◌∙◌, arith}
use Rattle.std.specs.Prelude.{◌&&◌, map, filter, find, not, Some, None, Ok, is_some, IsOk, slice_get, Result}
use Rattle.std.specs.declared.option.Option.{Option}
use Rattle.std.specs.Option.{option_map, option_and_then}
use Rattle.std.specs.List.{AllByRecursion}
use Rattle.mvcc_key.specs.Lists.{first}
use Rattle.mvcc_key.specs.Order.{Timestamp, is_no_time, is_up_to, is_before, Key, is_same_key}
use Rattle.mvcc_key.specs.Points.{Point, IsRising, point_at, value_at, count_below}
use Rattle.mvcc_key.specs.History.{Version, Intent, History, versions_of, intent_of}
use Rattle.mvcc_key.specs.Items.{Item, version_item, items}
use Rattle.mvcc_key.specs.Fragments.{Fragment}
use Rattle.mvcc_key.proofs.EachLaws.{All-filter}
use Rattle.mvcc_key.proofs.ItemLaws.{items-versions}
use Rattle.mvcc_key.proofs.HistoryLaws.{intent_of-key}
use Rattle.mvcc_key.proofs.PointLaws.{point_at-next}
use Rattle.mvcc_key.proofs.TimeLaws.{before_along, before_up_to, not_up_to}
use Rattle.intent_meta.specs.StoredPairs.{RecordOf, VersionOf, provisional, stored_pair, stored_value, intent_record}
use Rattle.intent_meta.specs.Record.{IntentRecord, record_bytes, record_of}
use Rattle.intent_meta.specs.declared.fault.IntentFault.{IntentFault}
use Rattle.intent_meta.specs.KeyPairs.{key_pairs}
use Rattle.intent_meta.specs.PointPairs.{set_point}
use Rattle.intent_meta.specs.Valid.{IsStoredVersion}
use Rattle.intent_meta.specs.views.WholeKeys.{IsWholeItem}
use Rattle.intent_meta.specs.views.Lent.{lent_item}
use Rattle.intent_meta.specs.views.Listed.{known_value}
use Rattle.intent_meta.proofs.ChangedLaws.{intent_of-stored}
use Rattle.intent_meta.proofs.KeyHistoryLaws.{whole_item-read}
use Rattle.intent_meta.proofs.ReadBackLaws.{IsEncodable-stored, stored_timed, IsRecord-intent}
use Rattle.intent_meta.proofs.RecordLaws.{record_of-record_bytes}
use Rattle.mvcc_cursor.specs.WellFormed.{IsOfHistory}
use Rattle.mvcc_cursor.specs.KeyPoints.{is_of_key, is_version, versions_in, kept_if}
use Rattle.mvcc_cursor.specs.Standing.{Place, BeforeFirst, AtKey, PastLast, points_at, told_at, committed_at}
use Rattle.mvcc_cursor.specs.views.Short.{AreSet}
use Rattle.mvcc_cursor.specs.views.Lent.{LentVersion, bytes_in, version_in, lent_version, item_in}
use Rattle.mvcc_cursor.specs.views.Seen.{seeks}
use Rattle.mvcc_key.proofs.OrderLaws.{not_up_to-none}
use Rattle.mvcc_cursor.specs.views.Under.{key_under, version_under, place_in, has_record, is_stored}
use Rattle.mvcc_cursor.specs.declared.stand.Stand.{Stand}
use Rattle.mvcc_cursor.specs.declared.stand.Stand.TheVariants.{Before, At, Past}
use Rattle.mvcc_cursor.proofs.KeyLaws.{before, kept-both, first-here}
use Rattle.mvcc_cursor.proofs.HistoryLaws.{points-key, nth-here, record-intent, points-intent}
use Rattle.mvcc_cursor.proofs.SeenLaws.{absent, found-version}

-- the point of a version
abbrev pub version_point : Version → Point
version_point v = set_point (stored_pair (VersionOf v))

-- the points of versions
abbrev pub version_points : List Version → List Point
version_points vs = map set_point (map (λ v. stored_pair (VersionOf v)) vs)

kept-some : (T : Point → Bool) (o : Option Point) (p : Point) → kept_if T o ≡ Some p → o ≡ Some p
kept-some T None p is = cc
kept-some T (Some q) p is = by (T q) is
  where
    by : (b : Bool) → cond b (Some q) None ≡ Some p → Some q ≡ Some p
    by true is = is
    by false is = cc

-- a version that may be stored is whole as an item
whole : (v : Version) → IsStoredVersion v → IsWholeItem (version_item v)
whole v h = record { local = h.local; body = IsEncodable-stored v.body h.body }

-- what is lent of a version tells its item
pub item-lent : (v : Version) → IsStoredVersion v → item_in (lent_version v) ≡ lent_item (version_item v)
item-lent v h =
    (let read = whole_item-read (version_item v) (whole v h) in
    λ i. record { ts = v.ts; local = (known_value (read i)).local; bytes = stored_value v })

-- the items of versions that pass a test
pub items-lent : (test : Item → Bool) (vs : List Version) → AllByRecursion IsStoredVersion vs
    → option_map lent_item (find test (map version_item vs)) ≡ option_map item_in (option_map lent_version (find (λ v. test (version_item v)) vs))
items-lent test [] all = refl
items-lent test (v ∷ vs) all = by (test (version_item v)) (items-lent test vs all.1)
  where
    by : (b : Bool) → option_map lent_item (find test (map version_item vs)) ≡ option_map item_in (option_map lent_version (find (λ w. test (version_item w)) vs))
        → option_map lent_item (cond b (Some (version_item v)) (find test (map version_item vs))) ≡ option_map item_in (option_map lent_version (cond b (Some v) (find (λ w. test (version_item w)) vs)))
    by true rest = ap Some (sym (item-lent v all.0))
    by false rest = rest

-- versions among their points
find-points : (ts : Timestamp) (vs : List Version) → AllByRecursion IsStoredVersion vs
    → option_map version_in (find (λ p. is_up_to p.name.ts ts) (filter is_version (version_points vs))) ≡ option_map lent_version (find (λ v. is_up_to v.ts ts) vs)
find-points ts [] all = refl
find-points ts (v ∷ vs) all =
    ap (λ (b : Bool). option_map version_in (find (λ p. is_up_to p.name.ts ts) (cond b (version_point v ∷ filter is_version (version_points vs)) (filter is_version (version_points vs))))) (ap not (stored_timed v.ts all.0.ts))
    ∙ by (is_up_to v.ts ts) (find-points ts vs all.1)
  where
    by : (b : Bool) → option_map version_in (find (λ p. is_up_to p.name.ts ts) (filter is_version (version_points vs))) ≡ option_map lent_version (find (λ w. is_up_to w.ts ts) vs)
        → option_map version_in (cond b (Some (version_point v)) (find (λ p. is_up_to p.name.ts ts) (filter is_version (version_points vs)))) ≡ option_map lent_version (cond b (Some v) (find (λ w. is_up_to w.ts ts) vs))
    by true rest = refl
    by false rest = rest

-- the newest of them
first-point : (vs : List Version) → AllByRecursion IsStoredVersion vs → option_map version_in (kept_if is_version (first (version_points vs))) ≡ option_map lent_version (first vs)
first-point [] all = refl
first-point (v ∷ vs) all = ap (λ (b : Bool). option_map version_in (cond b (Some (version_point v)) None)) (ap not (stored_timed v.ts all.0.ts))

module _ (h : History) (points : List Point) (fs : List Fragment) (of : IsOfHistory h points fs) (set : AreSet points) where
  -- the versions at a place may be stored
  pub stored-at : (at : Place) → AllByRecursion IsStoredVersion (committed_at at h)
  stored-at BeforeFirst = tt
  stored-at (AtKey key) = All-filter IsStoredVersion (λ v. is_same_key v.key key) h.versions of.valid.versions
  stored-at PastLast = tt

  -- a stored intent has a record
  pub told-record : (stand : Stand) (sought : List ℕ) (i : Intent) → (told_at (place_in stand sought) h).intent ≡ Some i → has_record (place_in stand sought) points ≡ true
  told-record Before sought i is = cc
  told-record At sought i is = record-intent h points fs of set (key_under sought) ∙ ap is_some is
  told-record Past sought i is = cc

  module _ (rising : IsRising points) where
    -- the value of the record is that of the intent
    pub record-value : (stand : Stand) (sought : List ℕ) → has_record (place_in stand sought) points ≡ true
        → (i : Intent) × ((told_at (place_in stand sought) h).intent ≡ Some i) × (slice_get points (before (key_under sought) points) ≡ Some (set_point (stored_pair (RecordOf i))))
    record-value Before sought has = absurd cc
    record-value Past sought has = absurd cc
    record-value At sought has = by (intent_of (key_under sought) h) refl
      where
        key : Key
        key = key_under sought

        by : (o : Option Intent) → intent_of (key_under sought) h ≡ o
            → (i : Intent) × (intent_of (key_under sought) h ≡ Some i) × (slice_get points (before (key_under sought) points) ≡ Some (set_point (stored_pair (RecordOf i))))
        by None is = absurd (let e : true ≡ false = sym has ∙ record-intent h points fs of set (key_under sought) ∙ ap is_some is in cc)
        by (Some i) is =
            (let e : before (key_under sought) points + 0 ≡ before (key_under sought) points = omega arith in (
              i,
              is,
              kept-some (is_of_key (key_under sought)) (slice_get points (before (key_under sought) points)) (set_point (stored_pair (RecordOf i)))
                  (ap (λ (n : ℕ). kept_if (is_of_key (key_under sought)) (slice_get points n)) (sym e) ∙ nth-here (key_under sought) points rising 0 ∙ ap (λ ps. slice_get ps 0) (points-intent h points fs of set (key_under sought) i is)),
            ))

    -- and behind it is the provisional version
    pub provisional-value : (stand : Stand) (sought : List ℕ) (i : Intent) → (told_at (place_in stand sought) h).intent ≡ Some i
        → slice_get points (before (key_under sought) points + 1) ≡ Some (version_point (provisional i))
    provisional-value Before sought i is = absurd cc
    provisional-value Past sought i is = absurd cc
    provisional-value At sought i is =
        kept-some (is_of_key (key_under sought)) (slice_get points (before (key_under sought) points + 1)) (version_point (provisional i))
        (nth-here (key_under sought) points rising 1 ∙ ap (λ ps. slice_get ps 1) (points-intent h points fs of set (key_under sought) i is))

    -- the record is read
    pub record-read : (stand : Stand) (sought : List ℕ) (i : Intent) → (told_at (place_in stand sought) h).intent ≡ Some i → record_of (record_bytes (intent_record i)) ≡ Ok (intent_record i)
    record-read Before sought i is = absurd cc
    record-read Past sought i is = absurd cc
    record-read At sought i is = record_of-record_bytes (intent_record i) (IsRecord-intent h i (intent_of-stored (key_under sought) h i of.valid is))

    -- the newest version, where the key has an intent: behind the two points of that
    pub newest-behind : (stand : Stand) (sought : List ℕ) → has_record (place_in stand sought) points ≡ true
        → option_map version_in (kept_if (λ p. is_of_key (key_under sought) p && is_version p) (slice_get points (before (key_under sought) points + 2))) ≡ option_map lent_version (first (committed_at (place_in stand sought) h))
    newest-behind Before sought has = absurd cc
    newest-behind Past sought has = absurd cc
    newest-behind At sought has =
        (let there = record-value At sought has in
        ap (option_map version_in) (kept-both (is_of_key (key_under sought)) is_version (slice_get points (before (key_under sought) points + 2)))
        ∙ ap (λ o. option_map version_in (kept_if is_version o)) (nth-here (key_under sought) points rising 2 ∙ ap (λ ps. slice_get ps 2) (points-intent h points fs of set (key_under sought) there.0 there.1) ∙ third (versions_of (key_under sought) h))
        ∙ first-point (versions_of (key_under sought) h) (stored-at (AtKey (key_under sought))))
      where
        third : (vs : List Version) → slice_get (version_points vs) 0 ≡ first (version_points vs)
        third [] = refl
        third (v ∷ vs) = refl

    -- and else where the record would stand
    pub newest-first : (stand : Stand) (sought : List ℕ) (stored : Bool) → stored ≡ true → (stored ≡ true → stand ≡ At) → has_record (place_in stand sought) points ≡ false
        → option_map version_in (kept_if (λ p. is_of_key (key_under sought) p && is_version p) (point_at points (before (key_under sought) points + 1))) ≡ option_map lent_version (first (committed_at (place_in stand sought) h))
    newest-first Before sought stored is there has = absurd (let e : Before ≡ At = there is in cc)
    newest-first Past sought stored is there has = absurd (let e : Past ≡ At = there is in cc)
    newest-first At sought stored is there has =
        ap (option_map version_in) (kept-both (is_of_key (key_under sought)) is_version (point_at points (before (key_under sought) points + 1)))
        ∙ ap (λ o. option_map version_in (kept_if is_version o)) (sym (first-here (key_under sought) points rising (before (key_under sought) points + 1) refl))
        ∙ ap (λ ps. option_map version_in (kept_if is_version (first ps))) (points-key h points fs of set (key_under sought) ∙ ap (λ o. map set_point (key_pairs o (versions_of (key_under sought) h))) (none (intent_of (key_under sought) h) refl))
        ∙ first-point (versions_of (key_under sought) h) (stored-at (AtKey (key_under sought)))
      where
        none : (o : Option Intent) → intent_of (key_under sought) h ≡ o → intent_of (key_under sought) h ≡ None
        none None e = e
        none (Some i) e = absurd (let f : true ≡ false = sym (record-intent h points fs of set (key_under sought) ∙ ap is_some e) ∙ has in cc)

  -- where no point is stored no version is
  pub none-committed : (at : Place) → points_at at points ≡ [] → committed_at at h ≡ []
  none-committed BeforeFirst none = refl
  none-committed PastLast none = refl
  none-committed (AtKey key) none = by (intent_of key h) (versions_of key h) (sym (points-key h points fs of set key) ∙ none)
    where
      by : (o : Option Intent) (vs : List Version) → map set_point (key_pairs o vs) ≡ [] → vs ≡ []
      by None [] e = refl
      by None (v ∷ vs) e = cc
      by (Some i) vs e = cc

  -- a seek below the newest committed version finds a committed one, and no provisional one
  pub committed-seek : (at : Place) (ts : Timestamp) (v : Version) → first (committed_at at h) ≡ Some v → is_up_to v.ts ts ≡ false
      → option_map version_in (find (λ p. is_up_to p.name.ts ts) (versions_in (points_at at points))) ≡ option_map lent_version (find (λ v. is_up_to v.ts ts) (committed_at at h))
  unfolding versions_in
  committed-seek BeforeFirst ts v is newer = refl
  committed-seek PastLast ts v is newer = refl
  committed-seek (AtKey key) ts v is newer =
      ap (λ ps. option_map version_in (find (λ p. is_up_to p.name.ts ts) (filter is_version ps))) (points-key h points fs of set key)
      ∙ by (intent_of key h) refl
    where
      by : (o : Option Intent) → intent_of key h ≡ o
          → option_map version_in (find (λ p. is_up_to p.name.ts ts) (filter is_version (map set_point (key_pairs o (versions_of key h))))) ≡ option_map lent_version (find (λ v. is_up_to v.ts ts) (versions_of key h))
      by None e = find-points ts (versions_of key h) (stored-at (AtKey key))
      by (Some i) e =
          (let stored = intent_of-stored key h i of.valid e in
          let timed : is_no_time i.ts ≡ false = stored_timed i.ts stored.ts in
          let above = items-versions (λ t. is_before t i.ts ≡ true) h key (subst (λ (k : Key). AllByRecursion (λ (item : Item). is_before item.ts i.ts ≡ true) (items h k)) (intent_of-key key h i e) stored.above_items) in
          let lower : is_before v.ts i.ts ≡ true = first-of (versions_of key h) is above in
          ap (λ (b : Bool). option_map version_in (find (λ p. is_up_to p.name.ts ts) (cond b (version_point (provisional i) ∷ filter is_version (version_points (versions_of key h))) (filter is_version (version_points (versions_of key h)))))) (ap not timed)
          ∙ ap (λ (b : Bool). option_map version_in (cond b (Some (version_point (provisional i))) (find (λ p. is_up_to p.name.ts ts) (filter is_version (version_points (versions_of key h)))))) (passes (is_up_to i.ts ts) refl lower)
          ∙ find-points ts (versions_of key h) (stored-at (AtKey key)))
        where
          first-of : (vs : List Version) → first vs ≡ Some v → AllByRecursion (λ w. is_before w.ts i.ts ≡ true) vs → is_before v.ts i.ts ≡ true
          first-of [] e all = cc
          first-of (w ∷ ws) e all = (let same : w ≡ v = cc in subst (λ (x : Version). is_before x.ts i.ts ≡ true) same all.0)

          passes : (b : Bool) → is_up_to i.ts ts ≡ b → is_before v.ts i.ts ≡ true → b ≡ false
          passes false e lower = refl
          passes true e lower = (let f : is_up_to v.ts ts ≡ true = before_up_to v.ts ts (before_along v.ts i.ts ts lower e) in cc)

-- ---- what is read at the places

-- the value of the point at a place
pub value-at : (points mine : List Point) (place n : ℕ) (p : Point) → mine ≡ points → place ≡ n + 1 → slice_get points n ≡ Some p → bytes_in (value_at mine place) ≡ bytes_in p.value
value-at points mine place n p same at is =
    ap (λ l. bytes_in (value_at l place)) same
    ∙ ap (λ m. bytes_in (value_at points m)) at
    ∙ ap (λ o. bytes_in (option_and_then (λ (q : Point). q.value) o)) (point_at-next points n ∙ is)

-- it stands at a key, where that has an intent
pub intent-at : (stand : Stand) (sought : List ℕ) (points : List Point) → has_record (place_in stand sought) points ≡ true → stand ≡ At
intent-at Before sought points has = cc
intent-at At sought points has = refl
intent-at Past sought points has = cc

-- and where a point of that is stored
pub stored-there : (stand : Stand) (sought : List ℕ) (points : List Point) (stored : Bool) → stored ≡ is_stored (place_in stand sought) points → stored ≡ true → stand ≡ At
stored-there Before sought points stored found is = cc
stored-there At sought points stored found is = refl
stored-there Past sought points stored found is = cc

-- no record, and no intent
pub told-none : (h : History) (points : List Point) (fs : List Fragment) → IsOfHistory h points fs → AreSet points → (stand : Stand) (sought : List ℕ) → has_record (place_in stand sought) points ≡ false
    → (told_at (place_in stand sought) h).intent ≡ None
told-none h points fs of set Before sought has = refl
told-none h points fs of set Past sought has = refl
told-none h points fs of set At sought has = by (intent_of (key_under sought) h) refl
  where
    by : (o : Option Intent) → intent_of (key_under sought) h ≡ o → intent_of (key_under sought) h ≡ None
    by None e = e
    by (Some i) e = absurd (let f : true ≡ false = sym (record-intent h points fs of set (key_under sought) ∙ ap is_some e) ∙ has in cc)

pub ok-is : (r : Result IntentRecord IntentFault) (x : IntentRecord) → r ≡ Ok x → IsOk r
ok-is r x e = rw e refl

-- ---- up to a timestamp

-- the key at which it stands
pub key-known : (stand : Stand) (sought : List ℕ) (key : Key) → place_in stand sought ≡ AtKey key → key_under sought ≡ key
key-known Before sought key is = cc
key-known At sought key is = cc
key-known Past sought key is = cc

-- where a version has to be sought there is one
pub seeks-some : (ts : Timestamp) (o : Option Version) → seeks ts o ≡ true → is_some o ≡ true
seeks-some ts None h = cc
seeks-some ts (Some v) h = refl

pub seeks-timed : (ts : Timestamp) (o : Option Version) → seeks ts o ≡ true → is_no_time ts ≡ false
seeks-timed ts None h = cc
seeks-timed ts (Some v) h = by (is_no_time ts) refl h
  where
    by : (b : Bool) → is_no_time ts ≡ b → (not b && is_before ts v.ts) ≡ true → is_no_time ts ≡ false
    by false e h = e
    by true e h = cc

-- the lent newest version tells whether one has to be sought
pub seeks-by : (ts t : Timestamp) (bytes : List ℕ) (o : Option Version) → Some (record { ts = t; value = bytes }) ≡ option_map lent_version o → (not (is_no_time ts) && is_before ts t) ≡ seeks ts o
seeks-by ts t bytes None is = cc
seeks-by ts t bytes (Some v) is =
    (let e : ◌≡◌ {A = LentVersion} (record { ts = t; value = bytes }) (lent_version v) = cc in
    ap (λ (m : LentVersion). not (is_no_time ts) && is_before ts m.ts) e)

pub seeks-none : (ts : Timestamp) (o : Option Version) → None ≡ option_map lent_version o → false ≡ seeks ts o
seeks-none ts None is = refl
seeks-none ts (Some v) is = cc

module _ (ts : Timestamp) (vs : List Version) (all : AllByRecursion IsStoredVersion vs) where
  -- the newest is
  pub up_to-newest : (l : LentVersion) → Some l ≡ option_map lent_version (first vs) → is_up_to l.ts ts ≡ true → Some (item_in l) ≡ option_map lent_item (find (λ i. is_up_to i.ts ts) (map version_item vs))
  up_to-newest l is up = by vs all is
    where
      by : (ws : List Version) → AllByRecursion IsStoredVersion ws → Some l ≡ option_map lent_version (first ws) → Some (item_in l) ≡ option_map lent_item (find (λ i. is_up_to i.ts ts) (map version_item ws))
      by [] whole e = cc
      by (w ∷ ws) whole e =
          (let same : l ≡ lent_version w = cc in
          ap Some (ap item_in same ∙ item-lent w whole.0)
          ∙ sym (ap (λ (b : Bool). option_map lent_item (cond b (Some (version_item w)) (find (λ i. is_up_to i.ts ts) (map version_item ws)))) (ap (λ (m : LentVersion). is_up_to m.ts ts) (sym same) ∙ up)))

  -- none is up to no timestamp
  pub up_to-no_time : is_no_time ts ≡ true → None ≡ option_map lent_item (find (λ i. is_up_to i.ts ts) (map version_item vs))
  up_to-no_time none = by vs all
    where
      by : (ws : List Version) → AllByRecursion IsStoredVersion ws → None ≡ option_map lent_item (find (λ i. is_up_to i.ts ts) (map version_item ws))
      by [] whole = refl
      by (w ∷ ws) whole =
          by ws whole.1
          ∙ sym (ap (λ (b : Bool). option_map lent_item (cond b (Some (version_item w)) (find (λ i. is_up_to i.ts ts) (map version_item ws)))) (not_up_to-none w.ts ts (stored_timed w.ts whole.0.ts) none))

-- the first as an item
pub first-item : (vs : List Version) → AllByRecursion IsStoredVersion vs → (r : Option LentVersion) → r ≡ option_map lent_version (first vs) → option_map item_in r ≡ option_map lent_item (first (map version_item vs))
first-item vs all r is = ap (option_map item_in) is ∙ by vs all
  where
    by : (ws : List Version) → AllByRecursion IsStoredVersion ws → option_map item_in (option_map lent_version (first ws)) ≡ option_map lent_item (first (map version_item ws))
    by [] whole = refl
    by (w ∷ ws) whole = ap Some (item-lent w whole.0)

-- what is lent of the newest version is that of the first
pub lent-first : (l : LentVersion) (o : Option Version) → Some l ≡ option_map lent_version o → (v : Version) × (o ≡ Some v) × (l ≡ lent_version v)
lent-first l None is = cc
lent-first l (Some v) is = (v, refl, cc)

-- a point of the key is stored where a version is
pub stored-by : (h : History) (points : List Point) (fs : List Fragment) → IsOfHistory h points fs → AreSet points → (at : Place) (stored : Bool) → stored ≡ is_stored at points → is_some (first (committed_at at h)) ≡ true → stored ≡ true
stored-by h points fs of set at true found some = refl
stored-by h points fs of set at false found some = absurd (let none = none-committed h points fs of set at (absent false at points refl found) in let e : is_some (first (committed_at at h)) ≡ false = ap (λ vs. is_some (first vs)) none in cc)

-- where the newest is newer, and there is a timestamp, one has to be sought
seeks-true : (ts : Timestamp) (l : LentVersion) (o : Option Version) → Some l ≡ option_map lent_version o → is_up_to l.ts ts ≡ false → is_no_time ts ≡ false → seeks ts o ≡ true
seeks-true ts l o is newer some =
    (let there = lent-first l o is in
    ap (seeks ts) there.1
    ∙ ap (λ b. not b && is_before ts there.0.ts) some
    ∙ not_up_to there.0.ts ts (ap (λ (m : LentVersion). is_up_to m.ts ts) (sym there.2) ∙ newer))

-- what is found where one was sought
pub sought-item : (h : History) (points : List Point) (fs : List Fragment) → IsOfHistory h points fs → AreSet points → IsRising points → (stand : Stand) (sought : List ℕ) (stored : Bool) (place : ℕ) (ts : Timestamp) (l : LentVersion)
    → stored ≡ is_stored (place_in stand sought) points → Some l ≡ option_map lent_version (first (committed_at (place_in stand sought) h)) → is_up_to l.ts ts ≡ false → is_no_time ts ≡ false
    → (seeks ts (first (committed_at (place_in stand sought) h)) ≡ true → place ≡ count_below (version_under sought ts) points + 1)
    → option_map item_in (option_map version_in (cond stored (kept_if (λ p. is_of_key (key_under sought) p && is_version p) (point_at points place)) None))
    ≡ option_map lent_item (find (λ i. is_up_to i.ts ts) (map version_item (committed_at (place_in stand sought) h)))
sought-item h points fs of set rising stand sought stored place ts l found is newer some at =
    (let there = lent-first l (first (committed_at (place_in stand sought) h)) is in
    let older : is_up_to there.0.ts ts ≡ false = ap (λ (m : LentVersion). is_up_to m.ts ts) (sym there.2) ∙ newer in
    ap (λ o. option_map item_in (option_map version_in o)) (found-version sought points rising ts place stand stored some found (λ _. at (seeks-true ts l (first (committed_at (place_in stand sought) h)) is newer some)))
    ∙ ap (option_map item_in) (committed-seek h points fs of set (place_in stand sought) ts there.0 there.1 older)
    ∙ sym (items-lent (λ i. is_up_to i.ts ts) (committed_at (place_in stand sought) h) (stored-at h points fs of set (place_in stand sought))))
