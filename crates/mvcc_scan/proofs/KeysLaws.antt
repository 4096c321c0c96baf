-- The keys of a store's points are those of its history.
use Rattle.std.specs.Prelude.{ℕ, suc, Bool, true, false, List, [], ◌∷◌, ◌++◌, map, filter, find, Option, Some, None, IfSome, IsSome, is_some, unwrap_or, cond}
use Rattle.std.specs.declared.cmp.Ordering.{Ordering}
use Rattle.std.specs.declared.cmp.Ordering.TheVariants.{Less, Equal, Greater}
use Rattle.std.specs.Ordering.{match_ordering, ordering_then, nat_cmp, on, then_cmp}
use Rattle.std.specs.List.{AllByRecursion}
use Rattle.std.specs.List.Sorted.{IsStrictlySortedBy}
use Rattle.std.proofs.Common.{◌≡◌, refl, sym, ap, subst, ◌∙◌, ◌⊎◌, inl, inr}
use Rattle.mvcc_key.specs.Lists.{first, last, put_in_order, in_order}
use Rattle.mvcc_key.specs.Order.{Key, Name, Pair, key_cmp, name_cmp, record_first, newer_first, is_same_key}
use Rattle.mvcc_key.specs.Points.{Point}
use Rattle.mvcc_key.specs.History.{Version, Intent, History}
use Rattle.mvcc_key.specs.Fragments.{Fragment}
use Rattle.mvcc_key.proofs.OrderLaws.{key_cmp-total, key_cmp-IsAntisymmetric, name_cmp-key}
use Rattle.mvcc_key.proofs.EachLaws.{All-in_order, All-from_in_order, All-append, All-split, All-map, All-unmap, All-weaker, All-filter, none_first}
use Rattle.mvcc_key.proofs.SameElementsLaws.{in_order-same_elements}
use Rattle.mvcc_key.proofs.PlaceLaws.{filter-in_order_alike}
use Rattle.mvcc_key.proofs.FilterLaws.{filter-map}
use Rattle.mvcc_key.proofs.FindLaws.{find-holds}
use Rattle.mvcc_key.proofs.FragmentLaws.{same_key}
use Rattle.intent_meta.specs.StoredPairs.{Stored, RecordOf, VersionOf, provisional, stored_name, stored_cmp, stored, stored_pair, stored_pairs}
use Rattle.lsm_store.specs.Shown.{pairs_of}
use Rattle.read_rule.specs.Scan.{stored_keys}
use Rattle.mvcc_cursor.specs.WellFormed.{IsOfHistory}
use Rattle.mvcc_cursor.specs.KeyPoints.{key_in, is_of_key, points_of}
use Rattle.mvcc_cursor.specs.views.Short.{AreSet}
use Rattle.mvcc_scan.proofs.ListLaws.{last-or, last-map, find-map}

-- ---- keys that repeat, in order

-- no key is above a later one
abbrev pub IsWeak : List Key → Type 0
IsWeak [] = Unit {0}
IsWeak (k ∷ ks) = AllByRecursion (λ x. key_cmp k x ≡ Greater → ⊥) ks × IsWeak ks

-- a key that is above none comes first, or is the first already
record IsFirst (k : Key) (ks : List Key) : Type 0 where
  rest : List Key
  is : put_in_order key_cmp k ks ≡ k ∷ rest
  of : (ks ≡ rest) ⊎ (ks ≡ k ∷ rest)

put-first : (k : Key) (ks : List Key) → AllByRecursion (λ x. key_cmp k x ≡ Greater → ⊥) ks → IsFirst k ks
put-first k [] low = record { rest = []; is = refl; of = inl refl }
put-first k (x ∷ xs) low = by (key_cmp k x) refl
  where
    placed : (o : Ordering) → key_cmp k x ≡ o → put_in_order key_cmp k (x ∷ xs) ≡ match_ordering o (k ∷ x ∷ xs) (k ∷ xs) (x ∷ put_in_order key_cmp k xs)
    placed o e = ap (λ p. match_ordering p (k ∷ x ∷ xs) (k ∷ xs) (x ∷ put_in_order key_cmp k xs)) e

    by : (o : Ordering) → key_cmp k x ≡ o → IsFirst k (x ∷ xs)
    by Less e = record { rest = x ∷ xs; is = placed Less e; of = inl refl }
    by Equal e = record { rest = xs; is = placed Equal e; of = inr (ap (λ y. y ∷ xs) (sym (key_cmp-IsAntisymmetric k x e))) }
    by Greater e = absurd (low.0 e)

-- what is found among the keys in order is what is found among all
find-put : (test : Key → Bool) (k : Key) (ks : List Key) → AllByRecursion (λ x. key_cmp k x ≡ Greater → ⊥) ks → find test (put_in_order key_cmp k ks) ≡ cond (test k) (Some k) (find test ks)
find-put test k ks low =
    let f = put-first k ks low in
    ap (find test) f.is ∙ by f.rest f.of
  where
    twice : (b : Bool) (o : Option Key) → cond b (Some k) o ≡ cond b (Some k) (cond b (Some k) o)
    twice true o = refl
    twice false o = refl

    by : (rest : List Key) → (ks ≡ rest) ⊎ (ks ≡ k ∷ rest) → cond (test k) (Some k) (find test rest) ≡ cond (test k) (Some k) (find test ks)
    by rest (inl e) = ap (λ xs. cond (test k) (Some k) (find test xs)) (sym e)
    by rest (inr e) = twice (test k) (find test rest) ∙ ap (λ xs. cond (test k) (Some k) (find test xs)) (sym e)

find-keys : (test : Key → Bool) (ks : List Key) → IsWeak ks → find test (in_order key_cmp ks) ≡ find test ks
find-keys test [] weak = refl
find-keys test (k ∷ ks) weak =
    find-put test k (in_order key_cmp ks) (All-in_order key_cmp (λ x. key_cmp k x ≡ Greater → ⊥) ks weak.0) ∙ ap (λ o. cond (test k) (Some k) o) (find-keys test ks weak.1)

-- and so is the last one
last-put : (k : Key) (ks : List Key) → AllByRecursion (λ x. key_cmp k x ≡ Greater → ⊥) ks → last (put_in_order key_cmp k ks) ≡ last (k ∷ ks)
last-put k ks low =
    let f = put-first k ks low in
    ap last f.is ∙ by f.rest f.of
  where
    by : (rest : List Key) → (ks ≡ rest) ⊎ (ks ≡ k ∷ rest) → last (k ∷ rest) ≡ last (k ∷ ks)
    by rest (inl e) = ap (λ xs. last (k ∷ xs)) (sym e)
    by rest (inr e) = ap (λ xs. last (k ∷ xs)) (sym e)

last-keys : (ks : List Key) → IsWeak ks → last (in_order key_cmp ks) ≡ last ks
last-keys [] weak = refl
last-keys (k ∷ ks) weak =
    last-put k (in_order key_cmp ks) (All-in_order key_cmp (λ x. key_cmp k x ≡ Greater → ⊥) ks weak.0)
    ∙ last-or k (in_order key_cmp ks) ∙ ap (λ o. Some (unwrap_or o k)) (last-keys ks weak.1) ∙ sym (last-or k ks)

-- those that pass repeat in order too
weak-filter : (test : Key → Bool) (ks : List Key) → IsWeak ks → IsWeak (filter test ks)
weak-filter test [] weak = tt
weak-filter test (k ∷ ks) weak = by (test k) (weak-filter test ks weak.1)
  where
    by : (b : Bool) → IsWeak (filter test ks) → IsWeak (cond b (k ∷ filter test ks) (filter test ks))
    by true rest = (All-filter (λ x. key_cmp k x ≡ Greater → ⊥) test ks weak.0, rest)
    by false rest = rest

-- ---- the keys of points

-- the keys of points, one for each
abbrev pub keys : List Point → List Key
keys points = map (λ p. p.name.key) points

-- a name before another has no key above the other's
key-below : (m n : Name) → name_cmp m n ≡ Less → key_cmp m.key n.key ≡ Greater → ⊥
key-below m n less more =
    let rest : Ordering = then_cmp (on (λ (x : Name). record_first x.ts) nat_cmp) (on (λ (x : Name). x.ts) newer_first) m n in
    let turned : ordering_then Greater rest ≡ Less = sym (ap (λ o. ordering_then o rest) more) ∙ less in absurd cc

sorted-weak : (points : List Point) → IsStrictlySortedBy (λ p q. name_cmp p.name q.name) points → IsWeak (keys points)
unfolding IsStrictlySortedBy
sorted-weak [] s = tt
sorted-weak (p ∷ ps) s = (
  All-map (λ x. key_cmp p.name.key x ≡ Greater → ⊥) (λ q. q.name.key) ps
      (All-weaker (λ q. name_cmp p.name q.name ≡ Less) (λ q. key_cmp p.name.key q.name.key ≡ Greater → ⊥) ps (λ q h. key-below p.name q.name h) s.0),
  sorted-weak ps s.1,
)

pairs-first : (p : Point) (ps : List Point) (bytes : List ℕ) → p.value ≡ Some bytes → pairs_of (p ∷ ps) ≡ record { name = p.name; value = bytes } ∷ pairs_of ps
unfolding pairs_of
pairs-first p ps bytes is = rw is refl

-- the first key that passes, and the last one, are those of points
found-key : (test : Key → Bool) (points : List Point) → key_in (find (λ p. test p.name.key) points) ≡ find test (keys points)
found-key test points = sym (find-map test (λ p. p.name.key) points)

last-key : (test : Key → Bool) (points : List Point) → key_in (last (filter (λ p. test p.name.key) points)) ≡ last (filter test (keys points))
last-key test points = sym (last-map (λ p. p.name.key) (filter (λ p. test p.name.key) points)) ∙ ap last (sym (filter-map test (λ p. p.name.key) points))

module _ (points : List Point) (sorted : IsStrictlySortedBy (λ p q. name_cmp p.name q.name) points) where
  -- so are they among the keys in order
  pub found-in_order : (test : Key → Bool) → key_in (find (λ p. test p.name.key) points) ≡ find test (in_order key_cmp (keys points))
  found-in_order test = found-key test points ∙ sym (find-keys test (keys points) (sorted-weak points sorted))

  pub last-in_order : (test : Key → Bool) → key_in (last (filter (λ p. test p.name.key) points)) ≡ last (filter test (in_order key_cmp (keys points)))
  last-in_order test =
      last-key test points
      ∙ sym (last-keys (filter test (keys points)) (weak-filter test (keys points) (sorted-weak points sorted)))
      ∙ ap last (sym (filter-in_order_alike key_cmp-total test (λ a b tie. ap test (key_cmp-IsAntisymmetric a b tie)) (keys points)))

  pub last-of-all : key_in (last points) ≡ last (in_order key_cmp (keys points))
  last-of-all = sym (last-map (λ p. p.name.key) points) ∙ sym (last-keys (keys points) (sorted-weak points sorted))

-- a key that is found has a point
pub found-stored : (test : Key → Bool) (points : List Point) (ks : List Key) → ((P : Key → Type 0) → AllByRecursion P (in_order key_cmp (keys points)) → AllByRecursion P ks)
    → (k : Key) → find test ks ≡ Some k → is_some (first (points_of k points)) ≡ true
unfolding points_of
found-stored test points ks covers k e = by (filter (is_of_key k) points) refl
  where
    by : (ps : List Point) → filter (is_of_key k) points ≡ ps → is_some (first (filter (is_of_key k) points)) ≡ true
    by (p ∷ ps) is = ap (λ qs. is_some (first qs)) is
    by [] is =
        let none : AllByRecursion (λ p. is_same_key p.name.key k ≡ false) points = none_first (is_of_key k) points (ap first is) in
        let each : AllByRecursion (λ x. is_same_key x k ≡ false) (in_order key_cmp (keys points)) =
        All-in_order key_cmp (λ x. is_same_key x k ≡ false) (keys points) (All-map (λ x. is_same_key x k ≡ false) (λ p. p.name.key) points none) in
        let no : is_same_key k k ≡ false = subst (λ o. IfSome o (λ x. is_same_key x k ≡ false)) e (find-holds (λ x. is_same_key x k ≡ false) test ks (covers (λ x. is_same_key x k ≡ false) each)) in
        let yes : is_same_key k k ≡ true = same_key k in
        absurd cc

-- ---- the keys of a history

-- what holds of the keys of points that are set holds of those of their pairs
to-pairs : (P : Key → Type 0) (points : List Point) → AreSet points → AllByRecursion (λ (p : Point). P p.name.key) points → AllByRecursion (λ (p : Pair). P p.name.key) (pairs_of points)
unfolding pairs_of
to-pairs P [] set all = tt
to-pairs P (p ∷ ps) set all = by p.value refl (set 0 p refl) (to-pairs P ps (λ j q at. set (suc j) q at) all.1)
  where
    by : (v : Option (List ℕ)) → p.value ≡ v → IsSome v → AllByRecursion (λ (q : Pair). P q.name.key) (pairs_of ps) → AllByRecursion (λ (q : Pair). P q.name.key) (pairs_of (p ∷ ps))
    by None is some rest = absurd cc
    by (Some bytes) is some rest = subst (AllByRecursion (λ (q : Pair). P q.name.key)) (sym (pairs-first p ps bytes is)) (all.0, rest)

-- and the other way round
from-pairs : (P : Key → Type 0) (points : List Point) → AreSet points → AllByRecursion (λ (p : Pair). P p.name.key) (pairs_of points) → AllByRecursion (λ (p : Point). P p.name.key) points
unfolding pairs_of
from-pairs P [] set all = tt
from-pairs P (p ∷ ps) set all = by p.value refl (set 0 p refl) (from-pairs P ps (λ j q at. set (suc j) q at))
  where
    by : (v : Option (List ℕ)) → p.value ≡ v → IsSome v → (AllByRecursion (λ (q : Pair). P q.name.key) (pairs_of ps) → AllByRecursion (λ (q : Point). P q.name.key) ps)
        → AllByRecursion (λ (q : Point). P q.name.key) (p ∷ ps)
    by None is some rest = absurd cc
    by (Some bytes) is some rest =
        let both : AllByRecursion (λ (q : Pair). P q.name.key) (record { name = p.name; value = bytes } ∷ pairs_of ps) = subst (AllByRecursion (λ (q : Pair). P q.name.key)) (pairs-first p ps bytes is) all in
        (both.0, rest both.1)

-- what holds of the keys of all that is stored holds of those of versions and intents
module _ (P : Key → Type 0) (h : History) where
  abbrev all_stored : List Stored
  all_stored = map RecordOf h.intents ++ map (λ i. VersionOf (provisional i)) h.intents ++ map VersionOf h.versions

  stored-tied : (x y : Stored) → stored_cmp x y ≡ Equal → P (stored_name x).key → P (stored_name y).key
  stored-tied x y tie p = subst P (name_cmp-key (stored_name x) (stored_name y) tie) p

  to-history : AllByRecursion (λ (p : Pair). P p.name.key) (stored_pairs h) → AllByRecursion P (map (λ v. v.key) h.versions ++ map (λ i. i.key) h.intents)
  unfolding stored_pairs
  to-history all =
      let each : AllByRecursion (λ x. P (stored_name x).key) all_stored =
      All-from_in_order stored_cmp (λ x. P (stored_name x).key) stored-tied all_stored (All-unmap (λ (p : Pair). P p.name.key) stored_pair (stored h) all) in
      let parts = All-split (λ x. P (stored_name x).key) (map RecordOf h.intents ++ map (λ i. VersionOf (provisional i)) h.intents) (map VersionOf h.versions) each in
      let heads = All-split (λ x. P (stored_name x).key) (map RecordOf h.intents) (map (λ i. VersionOf (provisional i)) h.intents) parts.0 in
      All-append P (map (λ v. v.key) h.versions) (map (λ i. i.key) h.intents)
      (All-map P (λ (v : Version). v.key) h.versions (All-unmap (λ x. P (stored_name x).key) VersionOf h.versions parts.1))
      (All-map P (λ (i : Intent). i.key) h.intents (All-unmap (λ x. P (stored_name x).key) RecordOf h.intents heads.0))

  from-history : AllByRecursion P (map (λ v. v.key) h.versions ++ map (λ i. i.key) h.intents) → AllByRecursion (λ (p : Pair). P p.name.key) (stored_pairs h)
  unfolding stored_pairs
  from-history all =
      let parts = All-split P (map (λ v. v.key) h.versions) (map (λ i. i.key) h.intents) all in
      let versions : AllByRecursion (λ (v : Version). P v.key) h.versions = All-unmap P (λ (v : Version). v.key) h.versions parts.0 in
      let intents : AllByRecursion (λ (i : Intent). P i.key) h.intents = All-unmap P (λ (i : Intent). i.key) h.intents parts.1 in
      All-map (λ (p : Pair). P p.name.key) stored_pair (stored h)
      (All-in_order stored_cmp (λ x. P (stored_name x).key) all_stored
      (All-append (λ x. P (stored_name x).key) (map RecordOf h.intents ++ map (λ i. VersionOf (provisional i)) h.intents) (map VersionOf h.versions)
      (All-append (λ x. P (stored_name x).key) (map RecordOf h.intents) (map (λ i. VersionOf (provisional i)) h.intents)
      (All-map (λ x. P (stored_name x).key) RecordOf h.intents intents)
      (All-map (λ x. P (stored_name x).key) (λ (i : Intent). VersionOf (provisional i)) h.intents intents))
      (All-map (λ x. P (stored_name x).key) VersionOf h.versions versions)))

-- the keys of the points of a history's store are the history's
pub keys-stored : (h : History) (points : List Point) (fs : List Fragment) → IsOfHistory h points fs → AreSet points → in_order key_cmp (keys points) ≡ stored_keys h
keys-stored h points fs of set =
    in_order-same_elements key_cmp-total key_cmp-IsAntisymmetric (keys points) (map (λ v. v.key) h.versions ++ map (λ i. i.key) h.intents)
    (λ P all. to-history P h (subst (AllByRecursion (λ (p : Pair). P p.name.key)) of.pairs (to-pairs P points set (All-unmap P (λ (p : Point). p.name.key) points all))))
    (λ P all. All-map P (λ (p : Point). p.name.key) points (from-pairs P points set (subst (AllByRecursion (λ (p : Pair). P p.name.key)) (sym of.pairs) (from-history P h all))))
