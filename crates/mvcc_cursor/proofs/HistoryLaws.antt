-- The points of a key, by the history of the store.
use Rattle.std.proofs.Common.{◌≡◌, ℕ, zero, suc, ◌+◌, Bool, true, false, cond, List, [], ◌∷◌, drop, refl, sym, ap, subst, ◌∙◌, arith}
use Rattle.std.specs.Prelude.{map, filter, Some, None, is_some, IsSome, slice_get}
use Rattle.std.specs.declared.option.Option.{Option}
use Rattle.std.specs.List.{AllByRecursion}
use Rattle.mvcc_key.specs.Lists.{first}
use Rattle.mvcc_key.specs.Order.{is_no_time, Key, is_same_key}
use Rattle.mvcc_key.specs.Points.{Point, IsRising}
use Rattle.mvcc_key.specs.History.{Version, Intent, History, versions_of, intent_of}
use Rattle.mvcc_key.specs.Fragments.{Fragment}
use Rattle.mvcc_key.proofs.FilterLaws.{filter-map}
use Rattle.intent_meta.specs.StoredPairs.{VersionOf, provisional, stored_pair}
use Rattle.intent_meta.specs.KeyPairs.{key_pairs, is_pair_of}
use Rattle.intent_meta.specs.PointPairs.{set_point}
use Rattle.intent_meta.specs.Valid.{IsStoredKey, IsStoredVersion}
use Rattle.intent_meta.proofs.KeyPairsLaws.{key_pairs-are, own_versions}
use Rattle.lsm_store.specs.Shown.{pairs_of}
use Rattle.mvcc_cursor.specs.WellFormed.{IsOfHistory}
use Rattle.mvcc_cursor.specs.KeyPoints.{is_of_key, points_of, kept_if}
use Rattle.mvcc_key.proofs.PointLaws.{point_at-next}
use Rattle.mvcc_cursor.specs.Standing.{AtKey, record_point}
use Rattle.mvcc_cursor.specs.views.Under.{has_record}
use Rattle.mvcc_cursor.specs.views.Short.{AreSet, AreShortKeys}
use Rattle.mvcc_key.proofs.EachLaws.{All-passing}
use Rattle.mvcc_key.proofs.HistoryLaws.{intent_of-key}
use Rattle.intent_meta.proofs.ChangedLaws.{intent_of-stored}
use Rattle.mvcc_cursor.proofs.OrderLaws.{key_is}
use Rattle.mvcc_cursor.proofs.MoveLaws.{stored-any}
use Rattle.mvcc_cursor.proofs.ListLaws.{first-drop, drop-more, first-front, rest-front}
use Rattle.mvcc_cursor.proofs.KeyLaws.{before, front, pairs-from, first-here}

pairs-first : (p : Point) (ps : List Point) (bytes : List ℕ) → p.value ≡ Some bytes → pairs_of (p ∷ ps) ≡ record { name = p.name; value = bytes } ∷ pairs_of ps
unfolding pairs_of
pairs-first p ps bytes is = rw is refl

-- points that are set are those of their pairs
points-set : (points : List Point) → AreSet points → map set_point (pairs_of points) ≡ points
unfolding pairs_of
points-set [] set = refl
points-set (p ∷ ps) set = by p.value refl (set 0 p refl) (points-set ps (λ j q at. set (suc j) q at))
  where
    by : (v : Option (List ℕ)) → p.value ≡ v → IsSome v → map set_point (pairs_of ps) ≡ ps → map set_point (pairs_of (p ∷ ps)) ≡ p ∷ ps
    by None is some rest = absurd cc
    by (Some bytes) is some rest = ap (map set_point) (pairs-first p ps bytes is) ∙ (λ i. record { name = p.name; value = sym is i } ∷ rest i)

module _ (h : History) (points : List Point) (fs : List Fragment) (of : IsOfHistory h points fs) (set : AreSet points) (key : Key) where
  -- the points of a key are its intent's two, where it has one, and its versions
  pub points-key : points_of key points ≡ map set_point (key_pairs (intent_of key h) (versions_of key h))
  unfolding points_of
  points-key =
      ap (filter (is_of_key key)) (sym (points-set points set))
      ∙ filter-map (is_of_key key) set_point (pairs_of points)
      ∙ ap (map set_point) (ap (filter (is_pair_of key)) of.pairs ∙ key_pairs-are h key of.valid)

-- the n-th point of a key stands so many places behind the first
pub nth-here : (key : Key) (points : List Point) → IsRising points → (j : ℕ) → kept_if (is_of_key key) (slice_get points (before key points + j)) ≡ slice_get (points_of key points) j
unfolding points_of
nth-here key points rising j =
    ap (kept_if (is_of_key key)) (sym (first-drop (before key points + j) points))
    ∙ sym (first-front (is_of_key key) (drop (before key points + j) points) (front key points rising (before key points + j) (omega arith)))
    ∙ ap first (dropped j)
    ∙ first-drop j (filter (is_of_key key) points)
  where
    dropped : (j : ℕ) → filter (is_of_key key) (drop (before key points + j) points) ≡ drop j (filter (is_of_key key) points)
    dropped zero = (let e : before key points + 0 ≡ before key points = omega arith in ap (λ (n : ℕ). filter (is_of_key key) (drop n points)) e ∙ pairs-from key points rising)
    dropped (suc j) =
        (let e : before key points + suc j ≡ suc (before key points + j) = omega arith in
        ap (λ (n : ℕ). filter (is_of_key key) (drop n points)) e
        ∙ ap (filter (is_of_key key)) (sym (drop-more (before key points + j) points))
        ∙ rest-front (is_of_key key) (drop (before key points + j) points) (front key points rising (before key points + j) (omega arith))
        ∙ ap (drop 1) (dropped j)
        ∙ drop-more j (filter (is_of_key key) points))

-- where a key has an intent, its second point is the provisional version
module _ (h : History) (points : List Point) (fs : List Fragment) (of : IsOfHistory h points fs) (set : AreSet points) (key : Key) where
  -- its record is stored where it has one
  pub record-intent : has_record (AtKey key) points ≡ is_some (intent_of key h)
  record-intent = ap (λ ps. is_some (record_point ps)) (points-key h points fs of set key) ∙ by (intent_of key h) (versions_of key h) (own_versions h key of.valid)
    where
      by : (o : Option Intent) (vs : List Version) → AllByRecursion (λ v. (is_same_key v.key key ≡ true) × (is_no_time v.ts ≡ false)) vs
          → is_some (record_point (map set_point (key_pairs o vs))) ≡ is_some o
      by (Some i) vs timed = refl
      by None [] timed = refl
      by None (v ∷ vs) timed = ap (λ (b : Bool). is_some (cond b (Some (set_point (stored_pair (VersionOf v)))) None)) timed.0.1

  -- the points of a key with an intent
  pub points-intent : (i : Intent) → intent_of key h ≡ Some i → points_of key points ≡ map set_point (key_pairs (Some i) (versions_of key h))
  points-intent i is = points-key h points fs of set key ∙ ap (λ o. map set_point (key_pairs o (versions_of key h))) is

  -- then two points of the key are stored at least
  pub second-own : IsRising points → has_record (AtKey key) points ≡ true → (p : Point) × (slice_get points (before key points + 1) ≡ Some p) × (is_of_key key p ≡ true)
  second-own rising has = by (intent_of key h) refl
    where
      kept : (o : Option Point) (q : Point) → kept_if (is_of_key key) o ≡ Some q → (p : Point) × (o ≡ Some p) × (is_of_key key p ≡ true)
      kept None q e = absurd cc
      kept (Some p) q e = with (is_of_key key p) refl e
        where
          with : (b : Bool) → is_of_key key p ≡ b → cond b (Some p) None ≡ Some q → (r : Point) × (Some p ≡ Some r) × (is_of_key key r ≡ true)
          with true own e = (p, refl, own)
          with false own e = absurd cc

      by : (o : Option Intent) → intent_of key h ≡ o → (p : Point) × (slice_get points (before key points + 1) ≡ Some p) × (is_of_key key p ≡ true)
      by None is = absurd (let e : true ≡ false = sym has ∙ record-intent ∙ ap is_some is in cc)
      by (Some i) is =
          kept (slice_get points (before key points + 1)) (set_point (stored_pair (VersionOf (provisional i))))
          (nth-here key points rising 1 ∙ ap (λ ps. slice_get ps 1) (points-intent i is))

  -- and the first of them is where its record would stand
  pub first-own : IsRising points → has_record (AtKey key) points ≡ true → (p : Point) × (slice_get points (before key points) ≡ Some p) × (is_of_key key p ≡ true)
  first-own rising has = by (slice_get points (before key points)) refl
    where
      there : is_some (kept_if (λ p. is_no_time p.name.ts) (kept_if (is_of_key key) (slice_get points (before key points)))) ≡ true
      there =
          ap (λ o. is_some (kept_if (λ p. is_no_time p.name.ts) (kept_if (is_of_key key) o))) (sym (point_at-next points (before key points)))
          ∙ ap (λ o. is_some (kept_if (λ p. is_no_time p.name.ts) o)) (sym (first-here key points rising (before key points + 1) refl)) ∙ has

      by : (o : Option Point) → slice_get points (before key points) ≡ o → (p : Point) × (slice_get points (before key points) ≡ Some p) × (is_of_key key p ≡ true)
      by None is = absurd (let e : false ≡ true = sym (ap (λ o. is_some (kept_if (λ p. is_no_time p.name.ts) (kept_if (is_of_key key) o))) is) ∙ there in cc)
      by (Some p) is = (p, is, with (is_of_key key p) refl (sym (ap (λ o. is_some (kept_if (λ p. is_no_time p.name.ts) (kept_if (is_of_key key) o))) is) ∙ there))
        where
          with : (b : Bool) → is_of_key key p ≡ b → is_some (kept_if (λ q. is_no_time q.name.ts) (cond b (Some p) None)) ≡ true → is_of_key key p ≡ true
          with true own e = own
          with false own e = absurd cc

-- each stored key has 1 to 4,096 bytes
pub short-keys : (h : History) (points : List Point) (fs : List Fragment) → IsOfHistory h points fs → AreSet points → AreShortKeys points
short-keys h points fs of set i p at =
    (let own = by (intent_of p.name.key h) refl (versions_of p.name.key h) (All-passing IsStoredVersion (λ v. is_same_key v.key p.name.key) h.versions of.valid.versions)
    (sym (ap (λ ps. is_some (first ps)) (points-key h points fs of set p.name.key)) ∙ stored-any points i p at) in
    record { some = omega (arith, own.0); short = own.1 })
  where
    by : (o : Option Intent) → intent_of p.name.key h ≡ o → (vs : List Version) → AllByRecursion (λ v. (is_same_key v.key p.name.key ≡ true) × IsStoredVersion v) vs
        → is_some (first (map set_point (key_pairs (intent_of p.name.key h) vs))) ≡ true → IsStoredKey p.name.key
    by (Some i) is vs all some = subst IsStoredKey (intent_of-key p.name.key h i is) (intent_of-stored p.name.key h i of.valid is).key
    by None is [] all some = absurd (let e : false ≡ true = sym (ap (λ o. is_some (first (map set_point (key_pairs o [])))) is) ∙ some in cc)
    by None is (v ∷ vs) all some = subst IsStoredKey (key_is v.key p.name.key all.0.0) all.0.1.key
