-- A cursor over the keys of a store goes the way of a walk.
use Rattle.std.specs.Prelude.{◌≤◌, Bool, true, false, not, List, [], ◌∷◌, filter, find, reverse, Option, Some, None, IfSome, is_some, cond, length}
use Rattle.std.specs.declared.cmp.Ordering.TheVariants.{Less}
use Rattle.std.specs.Ordering.{is_lt, is_le}
use Rattle.std.specs.List.{AllByRecursion}
use Rattle.std.specs.List.Sorted.{IsStrictlySortedBy}
use Rattle.std.proofs.Common.{◌≡◌, refl, sym, ap, subst, ◌∙◌}
use Rattle.std.proofs.lemmas.List.{take_all}
use Rattle.mvcc_key.specs.Lists.{first, last, in_order, is_empty}
use Rattle.mvcc_key.specs.Order.{Key, key_cmp, is_below, is_at_or_below}
use Rattle.mvcc_key.specs.Points.{Point}
use Rattle.mvcc_key.specs.History.{History}
use Rattle.mvcc_key.proofs.EachLaws.{All-weaker, none_found, all_pass}
use Rattle.mvcc_key.proofs.FilterLaws.{filter-all, filter-none}
use Rattle.mvcc_key.proofs.FindLaws.{find-holds}
use Rattle.mvcc_key.proofs.TimeLaws.{less_from}
use Rattle.mvcc_key.proofs.StackLaws.{same_key_is}
use Rattle.lsm_store.specs.Shown.{shown, fragments_in, points_in}
use Rattle.lsm_store.proofs.ApplyLaws.{sorted-shown}
use Rattle.run_block.specs.RunFormat.{Run}
use Rattle.read_rule.specs.Scan.{stored_keys, walked_keys}
use Rattle.mvcc_cursor.specs.WellFormed.{IsWellFormed, history_in}
use Rattle.mvcc_cursor.specs.KeyPoints.{key_in, is_of_key, points_of, key_from}
use Rattle.mvcc_cursor.specs.Standing.{Place, BeforeFirst, AtKey, PastLast, Standing, stored, points_at, here, at_place, or_past, or_before, next_place, previous_place, sought_key}
use Rattle.mvcc_cursor.proofs.StoreLaws.{shown-set}
use Rattle.mvcc_scan.specs.views.Walking.{Bounds, all_keys, is_beyond, is_near, is_far, ahead, HasAhead, ahead_in, IsStoredOnWay, IsOnWayAt, IsOnWay}
use Rattle.mvcc_scan.proofs.ListLaws.{find-reverse, All-reverse, found-from}
use Rattle.mvcc_scan.proofs.KeysLaws.{keys, found-in_order, last-in_order, last-of-all, found-stored, keys-stored}
use Rattle.mvcc_scan.proofs.WalkLaws.{way-total, all_keys-sorted, within_bounds, place_at, near-on, ahead-begun, ahead-first, ahead-none, ahead-next, le-self, le-lt, le-turned, not-both}

-- what is found passes
found-passes : (test : Key → Bool) (ks : List Key) (k : Key) → find test ks ≡ Some k → test k ≡ true
found-passes test [] k e = absurd cc
found-passes test (x ∷ xs) k e = by (test x) refl (found-passes test xs k) e
  where
    by : (t : Bool) → test x ≡ t → (find test xs ≡ Some k → test k ≡ true) → cond t (Some x) (find test xs) ≡ Some k → test k ≡ true
    by true h rest f = let same : x ≡ k = cc in subst (λ y. test y ≡ true) same h
    by false h rest f = rest f

module _ (store : List Run) (formed : IsWellFormed (history_in store) store) where
  abbrev pub h : History
  h = history_in store

  abbrev pub points : List Point
  points = shown store

  keys-are : in_order key_cmp (keys points) ≡ stored_keys h
  keys-are = keys-stored h points (fragments_in store) formed (shown-set store)

  -- the first stored key that passes, and the last one
  first-stored : (test : Key → Bool) → key_in (find (λ p. test p.name.key) points) ≡ find test (stored_keys h)
  first-stored test = found-in_order points (sorted-shown (points_in store)) test ∙ ap (find test) keys-are

  last-stored : (test : Key → Bool) → key_in (last (filter (λ p. test p.name.key) points)) ≡ last (filter test (stored_keys h))
  last-stored test = last-in_order points (sorted-shown (points_in store)) test ∙ ap (λ ks. last (filter test ks)) keys-are

  -- the place beside a key
  pub beside : (d : Bool) (k : Key) → cond d (previous_place (AtKey k) points) (next_place (AtKey k) points) ≡ place_at d (find (is_beyond d k) (all_keys d h))
  beside false k = ap or_past (first-stored (is_below k))
  beside true k = ap or_before (last-stored (λ x. is_below x k) ∙ sym (find-reverse (λ x. is_below x k) (stored_keys h)))

  -- the first place upwards
  pub begun-upwards : (start : Key) → or_past (key_from start points) ≡ place_at false (find (is_at_or_below start) (stored_keys h))
  begun-upwards start = ap or_past (first-stored (is_at_or_below start))

  -- where the first key at or above a bound is known, those below it are those below the bound
  below-same : (end k : Key) (ks : List Key) → IsStrictlySortedBy key_cmp ks → find (is_at_or_below end) ks ≡ Some k → filter (λ x. is_below x k) ks ≡ filter (λ x. is_below x end) ks
  unfolding IsStrictlySortedBy
  below-same end k [] s e = refl
  below-same end k (x ∷ xs) s e = by (is_at_or_below end x) refl (below-same end k xs s.1) e
    where
      no : (t : Bool) → (t ≡ true → ⊥) → t ≡ false
      no true f = absurd (f refl)
      no false f = refl

      at : is_at_or_below end x ≡ true → filter (λ y. is_below y x) (x ∷ xs) ≡ filter (λ y. is_below y end) (x ∷ xs)
      at up =
          filter-none (λ y. is_below y x) (x ∷ xs) (
            no (is_below x x) (λ b. not-both x x (le-self x) b),
            All-weaker (λ y. key_cmp x y ≡ Less) (λ y. is_below y x ≡ false) xs (λ y less. no (is_below y x) (λ b. not-both x y (ap is_le less) b)) s.0,
          )
          ∙ sym (filter-none (λ y. is_below y end) (x ∷ xs) (
            no (is_below x end) (λ b. not-both end x up b),
            All-weaker (λ y. key_cmp x y ≡ Less) (λ y. is_below y end ≡ false) xs (λ y less. no (is_below y end) (λ b. not-both end y (le-lt end x y up less) b)) s.0,
          ))

      by : (t : Bool) → is_at_or_below end x ≡ t → (find (is_at_or_below end) xs ≡ Some k → filter (λ y. is_below y k) xs ≡ filter (λ y. is_below y end) xs)
          → cond t (Some x) (find (is_at_or_below end) xs) ≡ Some k → filter (λ y. is_below y k) (x ∷ xs) ≡ filter (λ y. is_below y end) (x ∷ xs)
      by true up rest f = let same : x ≡ k = cc in subst (λ z. filter (λ y. is_below y z) (x ∷ xs) ≡ filter (λ y. is_below y end) (x ∷ xs)) same (at up)
      by false up rest f =
          let less : key_cmp x k ≡ Less = subst (λ o. IfSome o (λ y. key_cmp x y ≡ Less)) f (find-holds (λ y. key_cmp x y ≡ Less) (is_at_or_below end) xs s.0) in
          ap (λ t. cond t (x ∷ filter (λ y. is_below y k) xs) (filter (λ y. is_below y k) xs)) (ap is_lt less)
          ∙ ap (λ ys. x ∷ ys) (rest f)
          ∙ sym (ap (λ t. cond t (x ∷ filter (λ y. is_below y end) xs) (filter (λ y. is_below y end) xs)) (le-turned end x up))

  -- the first place downwards
  pub begun-downwards : (end : Key) → previous_place (or_past (key_from end points)) points ≡ place_at true (find (λ x. is_below x end) (reverse (stored_keys h)))
  begun-downwards end =
      ap (λ o. previous_place (or_past o) points) (first-stored (is_at_or_below end)) ∙ by (find (is_at_or_below end) (stored_keys h)) refl
      ∙ ap or_before (sym (find-reverse (λ x. is_below x end) (stored_keys h)))
    where
      by : (o : Option Key) → find (is_at_or_below end) (stored_keys h) ≡ o → previous_place (or_past o) points ≡ or_before (last (filter (λ x. is_below x end) (stored_keys h)))
      by None e =
          ap or_before (last-of-all points (sorted-shown (points_in store)) ∙ ap last keys-are
          ∙ ap last (sym (filter-all (λ x. is_below x end) (stored_keys h)
          (All-weaker (λ x. is_at_or_below end x ≡ false) (λ x. is_below x end ≡ true) (stored_keys h) (λ x up. le-turned end x up) (none_found (is_at_or_below end) (stored_keys h) e)))))
      by (Some k) e = ap or_before (last-stored (λ x. is_below x k) ∙ ap last (below-same end k (stored_keys h) (all_keys-sorted false h) e))

  -- what holds of all keys of points holds of all keys of the walk
  each-key : (d : Bool) (P : Key → Type 0) → AllByRecursion P (in_order key_cmp (keys points)) → AllByRecursion P (all_keys d h)
  each-key false P each = subst (AllByRecursion P) keys-are each
  each-key true P each = All-reverse P (stored_keys h) (subst (AllByRecursion P) keys-are each)

  -- a place at a key that is found is on the way, where that is within the near bound
  pub found-on_way : (b : Bounds) (test : Key → Bool) → ((k : Key) → test k ≡ true → is_near b k ≡ true)
      → IsOnWayAt b store (place_at b.backwards (find test (all_keys b.backwards h)))
  found-on_way b test near = placed b.backwards (find test (all_keys b.backwards h)) there
    where
      there : (k : Key) → find test (all_keys b.backwards h) ≡ Some k → IsStoredOnWay b store k
      there k e = record {
        near = near k (found-passes test (all_keys b.backwards h) k e);
        there = found-stored test points (all_keys b.backwards h) (each-key b.backwards) k e;
        among = found-from (way-total b.backwards) test (all_keys b.backwards h) (all_keys-sorted b.backwards h) k e;
      }

      placed : (d : Bool) (o : Option Key) → ((k : Key) → o ≡ Some k → IsStoredOnWay b store k) → IsOnWayAt b store (place_at d o)
      placed false None f = tt
      placed false (Some k) f = f k refl
      placed true None f = tt
      placed true (Some k) f = f k refl

  -- at the first key of the near bound the whole walk is ahead
  pub begun : (b : Bounds) (s : Standing) → s.store ≡ store → s.at ≡ place_at b.backwards (find (is_near b) (all_keys b.backwards h)) → HasAhead b (walked_keys h b.start b.end b.backwards) s
  begun b s same at =
      subst (λ (q : List Run × Place). HasAhead b (walked_keys h b.start b.end b.backwards) (record s { store = q.0; at = q.1 })) (λ i. (sym same i, sym at i)) (record {
        way = record { formed = formed; on = found-on_way b (is_near b) (λ k n. n) };
        are = ahead-begun b h;
      })

  -- beside a key of the walk the others are ahead
  gone_on : (b : Bounds) (s : Standing) → s.store ≡ store → (k : Key) → IsStoredOnWay b store k → (key : Key) (keys : List Key) → ahead_in b store (AtKey k) ≡ key ∷ keys
      → s.at ≡ place_at b.backwards (find (is_beyond b.backwards k) (all_keys b.backwards h)) → HasAhead b keys s
  gone_on b s same k on key keys is at =
      subst (λ (q : List Run × Place). HasAhead b keys (record s { store = q.0; at = q.1 })) (λ i. (sym same i, sym at i)) (record {
        way = record { formed = formed; on = found-on_way b (is_beyond b.backwards k) (λ x n. near-on b k x (less_from _ n) on.near) };
        are = ahead-next b h k on.near on.among key keys is;
      })

  -- so it goes on from any place with a key ahead
  pub goes_on : (b : Bounds) (at : Place) (s : Standing) → s.store ≡ store → IsOnWayAt b store at → (key : Key) (keys : List Key) → ahead_in b store at ≡ key ∷ keys
      → s.at ≡ cond b.backwards (previous_place at points) (next_place at points) → HasAhead b keys s
  goes_on b BeforeFirst s same on key keys is at = absurd cc
  goes_on b (AtKey k) s same on key keys is at = gone_on b s same k on key keys is (at ∙ beside b.backwards k)
  goes_on b PastLast s same on key keys is at = absurd cc

-- ---- where it stands

-- the key of a place
abbrev pub key_at : Place → Option Key
key_at BeforeFirst = None
key_at (AtKey key) = Some key
key_at PastLast = None

-- the points of a key tell it
key-of : (k : Key) (ps : List Point) → is_some (first (points_of k ps)) ≡ true → key_in (first (points_of k ps)) ≡ Some k
unfolding points_of
key-of k ps some = by (filter (is_of_key k) ps) refl some (all_pass (is_of_key k) ps)
  where
    by : (qs : List Point) → filter (is_of_key k) ps ≡ qs → is_some (first (filter (is_of_key k) ps)) ≡ true → AllByRecursion (λ p. is_of_key k p ≡ true) (filter (is_of_key k) ps) → key_in (first (filter (is_of_key k) ps)) ≡ Some k
    by [] is s all = let no : is_some (first {X = Point} []) ≡ true = subst (λ qs. is_some (first qs) ≡ true) is s in absurd cc
    by (q ∷ qs) is s all =
        let h = subst (AllByRecursion (λ p. is_of_key k p ≡ true)) is all in
        ap (λ rs. key_in (first rs)) is ∙ ap Some (same_key_is q.name.key k h.0)

-- so a cursor at a stored key shows it
pub here-key : (s : Standing) (k : Key) → s.at ≡ AtKey k → is_some (first (here s)) ≡ true → key_in (first (here s)) ≡ Some k
here-key s k at some =
    ap (λ p. key_in (first (points_at p (stored s)))) at ∙ key-of k (stored s) (sym (ap (λ p. is_some (first (points_at p (stored s)))) at) ∙ some)

-- and a cursor on the way shows the key of its place
pub on_way-key : (b : Bounds) (s : Standing) → IsOnWay b s → key_in (first (here s)) ≡ key_at s.at
on_way-key b s way = by s.at way.on
  where
    by : (at : Place) → IsOnWayAt b s.store at → key_in (first (points_at at (stored s))) ≡ key_at at
    by BeforeFirst on = refl
    by (AtKey k) on = key-of k (stored s) on.there
    by PastLast on = refl

-- at a key it is inside where that is within the far bound
pub is-inside : (b : Bounds) (s : Standing) → IsOnWay b s → (key : Key) → Some key ≡ key_in (first (here s)) → is_far b key ≡ not (is_empty (ahead b s))
is-inside b s way key e = by s.at way.on (e ∙ on_way-key b s way)
  where
    far : (k : Key) → IsStoredOnWay b s.store k → (t : Bool) → is_far b k ≡ t → t ≡ not (is_empty (ahead_in b s.store (AtKey k)))
    far k on true f = sym (ap (λ ks. not (is_empty ks)) (ahead-first b (history_in s.store) k on.near on.among f))
    far k on false f = sym (ap (λ ks. not (is_empty ks)) (ahead-none b (history_in s.store) k on.among f))

    by : (at : Place) → IsOnWayAt b s.store at → Some key ≡ key_at at → is_far b key ≡ not (is_empty (ahead_in b s.store at))
    by BeforeFirst on f = absurd cc
    by (AtKey k) on f = let same : key ≡ k = cc in ap (is_far b) same ∙ far k on (is_far b k) refl
    by PastLast on f = absurd cc

-- past an end it is not
pub is-outside : (b : Bounds) (s : Standing) → IsOnWay b s → None ≡ key_in (first (here s)) → false ≡ not (is_empty (ahead b s))
is-outside b s way e = by s.at (e ∙ on_way-key b s way)
  where
    by : (at : Place) → None ≡ key_at at → false ≡ not (is_empty (ahead_in b s.store at))
    by BeforeFirst f = refl
    by (AtKey k) f = absurd cc
    by PastLast f = refl

-- where a key is ahead, it is the cursor's
pub at-first : (b : Bounds) (s : Standing) → IsOnWay b s → not (is_empty (ahead b s)) ≡ true → (k : Key) × (s.at ≡ AtKey k) × (is_some (first (here s)) ≡ true) × ((ks : List Key) × (ahead b s ≡ k ∷ ks))
at-first b s way some = by s.at refl way.on some
  where
    by : (at : Place) → s.at ≡ at → IsOnWayAt b s.store at → not (is_empty (ahead_in b s.store at)) ≡ true
        → (k : Key) × (s.at ≡ AtKey k) × (is_some (first (here s)) ≡ true) × ((ks : List Key) × (ahead b s ≡ k ∷ ks))
    by BeforeFirst is on f = absurd cc
    by PastLast is on f = absurd cc
    by (AtKey k) is on f = (k, is, ap (λ p. is_some (first (points_at p (stored s)))) is ∙ on.there, far (is_far b k) refl)
      where
        far : (t : Bool) → is_far b k ≡ t → (ks : List Key) × (ahead b s ≡ k ∷ ks)
        far true g = (
          filter (within_bounds b) (filter (is_beyond b.backwards k) (all_keys b.backwards (history_in s.store))),
          ap (ahead_in b s.store) is ∙ ahead-first b (history_in s.store) k on.near on.among g,
        )
        far false g =
            let none : not (is_empty {X = Key} []) ≡ true = sym (ap (λ ks. not (is_empty ks)) (ahead-none b (history_in s.store) k on.among g)) ∙ f in absurd cc

-- ---- where it begins

pub begun-back : (b : Bounds) (s mid last : Standing) → IsWellFormed (history_in s.store) s.store → b.backwards ≡ true → length b.end ≤ 4097
    → mid ≡ at_place (or_past (key_from (sought_key b.end) (stored s))) s → last ≡ at_place (previous_place mid.at (stored mid)) mid
    → HasAhead b (walked_keys (history_in s.store) b.start b.end b.backwards) last
begun-back b s mid last formed back short seek prev =
    begun s.store formed b last (ap (λ x. x.store) prev ∙ ap (λ x. x.store) seek)
    (ap (λ x. x.at) prev ∙ ap (λ m. previous_place m.at (stored m)) seek
    ∙ ap (λ k. previous_place (or_past (key_from k (stored s))) (stored s)) (take_all 4097 b.end short)
    ∙ begun-downwards s.store formed b.end
    ∙ ap (λ d. place_at d (find (λ x. cond d (is_below x b.end) (is_at_or_below b.start x)) (all_keys d (history_in s.store)))) (sym back))

pub begun-on : (b : Bounds) (s last : Standing) → IsWellFormed (history_in s.store) s.store → b.backwards ≡ false → length b.start ≤ 4097
    → last ≡ at_place (or_past (key_from (sought_key b.start) (stored s))) s
    → HasAhead b (walked_keys (history_in s.store) b.start b.end b.backwards) last
begun-on b s last formed on short seek =
    begun s.store formed b last (ap (λ x. x.store) seek)
    (ap (λ x. x.at) seek
    ∙ ap (λ k. or_past (key_from k (stored s))) (take_all 4097 b.start short)
    ∙ begun-upwards s.store formed b.start
    ∙ ap (λ d. place_at d (find (λ x. cond d (is_below x b.end) (is_at_or_below b.start x)) (all_keys d (history_in s.store)))) (sym on))
