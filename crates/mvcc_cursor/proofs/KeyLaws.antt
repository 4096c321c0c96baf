-- The pairs of one key, as a cursor finds them.
use Rattle.std.proofs.Common.{◌≡◌, ℕ, suc, ◌+◌, ◌<◌, ◌≤◌, Bool, true, false, cond, List, [], ◌∷◌, ◌++◌, length, drop, refl, sym, ap, ◌∙◌, arith, inl, inr}
use Rattle.std.specs.Prelude.{◌&&◌, not, filter, find, slice_get, min, is_some, Some, None}
use Rattle.std.specs.declared.option.Option.{Option}
use Rattle.std.proofs.lemmas.Option.{slice_get_within, slice_get_past, slice_get_cases}
use Rattle.std.proofs.lemmas.Bool.{cases_order}
use Rattle.std.specs.declared.cmp.Ordering.{Ordering}
use Rattle.std.specs.declared.cmp.Ordering.TheVariants.{Less, Equal, Greater}
use Rattle.std.specs.Ordering.{is_lt, ordering_reverse}
use Rattle.std.proofs.Math.ListN.{drop_of_length-le}
use Rattle.mvcc_key.specs.Order.{Timestamp, is_no_time, is_up_to, Key, is_below, is_at_or_below, key_cmp, name_cmp, max_wall, max_logical}
use Rattle.mvcc_key.specs.Points.{Point, IsRising, AreEncodable, point_at, is_below_name, count_below}
use Rattle.mvcc_key.proofs.PointLaws.{place-count_below, count_below-place, count_below-le, slice_get-count_below, point_at-next}
use Rattle.mvcc_cursor.specs.KeyPoints.{record_name, is_of_key, points_of, is_version, versions_in, kept_if, key_in, key_from, key_above}
use Rattle.mvcc_key.specs.Lists.{first}
use Rattle.mvcc_key.proofs.OrderLaws.{key_cmp-total, key_cmp-IsAntisymmetric}
use Rattle.mvcc_key.proofs.StackLaws.{at_or_above}
use Rattle.mvcc_key.proofs.TimeLaws.{less_from}
use Rattle.mvcc_cursor.specs.Standing.{AtKey}
use Rattle.mvcc_cursor.specs.views.Under.{has_record}
use Rattle.mvcc_cursor.proofs.ListLaws.{filter-drop, filter-same, filter-none, filter-filter, find-filter, find-same, slice_get-drop, first-drop, drop-more, IsInFront, first-front, rest-front}
use Rattle.mvcc_cursor.proofs.OrderLaws.{key_is, key_same, not-same, below-record, behind-other, ahead-of, from-version, below-both, newest-of-all, none-is, next-record, not-before-own, not-before-itself}

-- how many pairs stand before the record of a key
abbrev pub before : Key → List Point → ℕ
before key points = count_below (record_name key) points

module _ (key : Key) (points : List Point) (rising : IsRising points) where
  -- pairs before the record are none of the key
  lower : (i : ℕ) (p : Point) → i < before key points → slice_get points i ≡ Some p → is_of_key key p ≡ false
  lower i p lt is = by (key_cmp p.name.key key) refl
    where
      low : is_lt (key_cmp p.name.key key) ≡ true
      low = sym (below-record key p) ∙ (place-count_below (record_name key) points rising).below i p lt is

      by : (o : Ordering) → key_cmp p.name.key key ≡ o → is_of_key key p ≡ false
      by Less e = not-same p.name.key key Less e refl
      by Equal e = (let f : is_lt (key_cmp p.name.key key) ≡ false = ap is_lt e in cc low)
      by Greater e = not-same p.name.key key Greater e refl

  -- behind any place from the record on the pairs of the key stand in front
  pub front : (n : ℕ) → before key points ≤ n → IsInFront (is_of_key key) (drop n points)
  front n le x ys is other = filter-none (is_of_key key) ys each
    where
      head : slice_get points n ≡ Some x
      head = sym (first-drop n points) ∙ ap first is

      each : (i : ℕ) (y : Point) → slice_get ys i ≡ Some y → is_of_key key y ≡ false
      each i y at =
          (let there : slice_get points (n + suc i) ≡ Some y = sym (slice_get-drop n (suc i) points) ∙ ap (λ (l : List Point). slice_get l (suc i)) is ∙ at in
          behind-other key x y ((place-count_below (record_name key) points rising).above n x le head) other (rising n (n + suc i) x y (omega arith) head there))

  -- no pair of the key stands before its record
  pub pairs-from : points_of key (drop (before key points) points) ≡ points_of key points
  unfolding points_of
  pairs-from = filter-drop (is_of_key key) (before key points) points lower

  -- the first pair of the key is the one where its record would stand, if that is of the key
  pub first-here : (place : ℕ) → place ≡ before key points + 1 → first (points_of key points) ≡ kept_if (is_of_key key) (point_at points place)
  unfolding points_of
  first-here place is =
      ap first (sym pairs-from)
      ∙ first-front (is_of_key key) (drop (before key points) points) (front (before key points) (omega arith))
      ∙ ap (kept_if (is_of_key key)) (first-drop (before key points) points ∙ sym (point_at-next points (before key points)) ∙ ap (point_at points) (sym is))

  -- behind the place of the record each pair of the key is a version
  pub version-behind : (n : ℕ) (p : Point) → before key points < n → slice_get points n ≡ Some p → is_of_key key p ≡ (is_of_key key p && is_version p)
  version-behind n p lt at = by (is_of_key key p) refl (is_no_time p.name.ts) refl
    where
      by : (s : Bool) → is_of_key key p ≡ s → (b : Bool) → is_no_time p.name.ts ≡ b → s ≡ (s && not b)
      by false same b timed = refl
      by true same false timed = refl
      by true same true timed =
          (let name : p.name ≡ record_name key = λ i. record { key = key_is p.name.key key same i; ts = none-is p.name.ts timed i } in
          elim ((slice_get_cases points (before key points)).1) [
            | inl there ↦
                (let less : name_cmp there.0.name p.name ≡ Less = rising (before key points) n there.0 p lt there.2 at in
                let low : is_below_name (record_name key) there.0 ≡ true = ap is_lt (ap (name_cmp there.0.name) (sym name) ∙ less) in
                let high : is_below_name (record_name key) there.0 ≡ false = (place-count_below (record_name key) points rising).above (before key points) there.0 (omega arith) there.2 in
                cc)
            | inr past ↦ absurd (let le = past.0 in let within = slice_get_within points n p at in omega arith)
          ])

  -- what is given next, where the place is that of a version
  module _ (place place' : ℕ) (behind : before key points < place) (next : place' ≡ min (place + 1) (length points + 1)) (within : place ≤ length points + 1) where
    moved : point_at points place' ≡ slice_get points place
    moved = elim (cases_order place (length points + 1)) [
      | inl at_end ↦
          (let same : place' ≡ length points + 1 = omega arith in
          ap (point_at points) same ∙ point_at-next points (length points) ∙ slice_get_past points (length points) (omega arith) ∙ sym (slice_get_past points place (omega arith)))
      | inr (inl inside) ↦ (let same : place' ≡ place + 1 = omega arith in ap (point_at points) same ∙ point_at-next points place)
      | inr (inr past) ↦ absurd (omega arith)
    ]

    dropped : drop place' points ≡ drop 1 (drop place points)
    dropped = elim (cases_order place (length points + 1)) [
      | inl at_end ↦
          (let same : place' ≡ place = omega arith in
          let none : drop place points ≡ [] = drop_of_length-le points (omega arith) in
          ap (λ (n : ℕ). drop n points) same ∙ none ∙ sym (ap (drop 1) none))
      | inr (inl inside) ↦ (let same : place' ≡ suc place = omega arith in ap (λ (n : ℕ). drop n points) same ∙ sym (drop-more place points))
      | inr (inr past) ↦ absurd (omega arith)
    ]

    pub given-next : kept_if (λ p. is_of_key key p && is_version p) (point_at points place') ≡ first (points_of key (drop place points))
    unfolding points_of
    given-next =
        ap (kept_if (λ p. is_of_key key p && is_version p)) moved
        ∙ by (slice_get points place) refl
        ∙ ap (kept_if (is_of_key key)) (sym (first-drop place points))
        ∙ sym (first-front (is_of_key key) (drop place points) (front place (omega arith)))
      where
        by : (o : Option Point) → slice_get points place ≡ o → kept_if (λ p. is_of_key key p && is_version p) o ≡ kept_if (is_of_key key) o
        by None at = refl
        by (Some p) at = ap (λ (b : Bool). cond b (Some p) None) (sym (version-behind place p behind at))

    pub left-next : points_of key (drop place' points) ≡ drop 1 (points_of key (drop place points))
    unfolding points_of
    left-next = ap (filter (is_of_key key)) dropped ∙ rest-front (is_of_key key) (drop place points) (front place (omega arith))

  -- what a seek to a version's name finds
  module _ (ts : Timestamp) (some : is_no_time ts ≡ false) where
    -- it is no nearer than the record
    pub no-nearer : before key points ≤ count_below (record { key = key; ts = ts }) points
    no-nearer = elim (cases_order (count_below (record { key = key; ts = ts }) points) (before key points)) [
      | inl same ↦ omega arith
      | inr (inr more) ↦ omega arith
      | inr (inl less) ↦
          elim ((slice_get_cases points (count_below (record { key = key; ts = ts }) points)).1) [
            | inl there ↦
                (let low : is_below_name (record_name key) there.0 ≡ true = (place-count_below (record_name key) points rising).below (count_below (record { key = key; ts = ts }) points) there.0 less there.2 in
                let yes : is_below_name (record { key = key; ts = ts }) there.0 ≡ true = below-both key ts there.0 low in
                let high : is_below_name (record { key = key; ts = ts }) there.0 ≡ false = (place-count_below (record { key = key; ts = ts }) points rising).above (count_below (record { key = key; ts = ts }) points) there.0 (omega arith) there.2 in
                absurd cc)
            | inr past ↦ absurd (let le = past.0 in let most = count_below-le (record_name key) points in omega arith)
          ]
    ]

    passes : Point → Bool
    passes p = is_of_key key p && (is_version p && is_up_to p.name.ts ts)

    -- the pairs of the key from there on are its versions that are not newer
    pub versions-from : points_of key (drop (count_below (record { key = key; ts = ts }) points) points) ≡ filter (λ p. is_up_to p.name.ts ts) (versions_in (points_of key points))
    unfolding points_of versions_in passes
    versions-from =
        filter-same (is_of_key key) passes (drop (count_below (record { key = key; ts = ts }) points) points)
        (λ i p is. from-version key ts p some ((place-count_below (record { key = key; ts = ts }) points rising).above (count_below (record { key = key; ts = ts }) points + i) p (omega arith) (sym (slice_get-drop (count_below (record { key = key; ts = ts }) points) i points) ∙ is)))
        ∙ filter-drop passes (count_below (record { key = key; ts = ts }) points) points
        (λ i p lt is. ahead-of key ts p some ((place-count_below (record { key = key; ts = ts }) points rising).below i p lt is))
        ∙ sym (filter-filter (λ p. is_version p && is_up_to p.name.ts ts) (is_of_key key) points)
        ∙ sym (filter-filter (λ p. is_up_to p.name.ts ts) is_version (filter (is_of_key key) points))

    -- the pair there is the newest version of the key that is not newer
    pub seek-finds : (place : ℕ) → place ≡ count_below (record { key = key; ts = ts }) points + 1
        → kept_if (λ p. is_of_key key p && is_version p) (point_at points place) ≡ find (λ p. is_up_to p.name.ts ts) (versions_in (points_of key points))
    unfolding points_of
    seek-finds place is =
        ap (λ (n : ℕ). kept_if (λ p. is_of_key key p && is_version p) (point_at points n)) is
        ∙ ap (kept_if (λ p. is_of_key key p && is_version p)) (point_at-next points (count_below (record { key = key; ts = ts }) points))
        ∙ by (slice_get points (count_below (record { key = key; ts = ts }) points)) refl
        ∙ ap (kept_if (is_of_key key)) (sym (first-drop (count_below (record { key = key; ts = ts }) points) points))
        ∙ sym (first-front (is_of_key key) (drop (count_below (record { key = key; ts = ts }) points) points) (front (count_below (record { key = key; ts = ts }) points) no-nearer))
        ∙ ap first versions-from
        ∙ sym (find-filter (λ p. is_up_to p.name.ts ts) (versions_in (points_of key points)))
      where
        both : (a b c : Bool) → a ≡ (a && (b && c)) → (a && b) ≡ a
        both false b c e = refl
        both true false c e = cc
        both true true c e = refl

        by : (o : Option Point) → slice_get points (count_below (record { key = key; ts = ts }) points) ≡ o → kept_if (λ p. is_of_key key p && is_version p) o ≡ kept_if (is_of_key key) o
        by None at = refl
        by (Some p) at = ap (λ (b : Bool). cond b (Some p) None) (both (is_of_key key p) (is_version p) (is_up_to p.name.ts ts) (from-version key ts p some ((place-count_below (record { key = key; ts = ts }) points rising).above _ p (omega arith) at)))

  -- of the greatest timestamp that is the newest version, and the others are behind it
  module _ (encodable : AreEncodable points) where
    newest : Timestamp
    newest = record { wall = max_wall; logical = max_logical }

    all-pass : filter (λ p. is_up_to p.name.ts newest) (versions_in (points_of key points)) ≡ versions_in (points_of key points)
    unfolding points_of versions_in newest
    all-pass =
        filter-filter (λ p. is_up_to p.name.ts newest) is_version (filter (is_of_key key) points)
        ∙ filter-filter (λ p. is_version p && is_up_to p.name.ts newest) (is_of_key key) points
        ∙ filter-same (λ p. is_of_key key p && (is_version p && is_up_to p.name.ts newest)) (λ p. is_of_key key p && is_version p) points
        (λ i p is. ap (λ (b : Bool). is_of_key key p && b) (with (is_version p) (is_up_to p.name.ts newest) (newest-of-all p.name.ts (encodable i p is))))
        ∙ sym (filter-filter is_version (is_of_key key) points)
      where
        with : (a b : Bool) → b ≡ true → (a && b) ≡ a
        with true b is = is
        with false b is = refl

    pub first-version : find (λ p. is_up_to p.name.ts (record { wall = max_wall; logical = max_logical })) (versions_in (points_of key points)) ≡ first (versions_in (points_of key points))
    unfolding newest
    first-version = find-filter (λ p. is_up_to p.name.ts newest) (versions_in (points_of key points)) ∙ ap first all-pass

    pub left-first : (place : ℕ) → place ≡ count_below (record { key = key; ts = record { wall = max_wall; logical = max_logical } }) points + 1
        → points_of key (drop place points) ≡ drop 1 (versions_in (points_of key points))
    unfolding points_of newest
    left-first place is =
        (let suc_place : place ≡ suc (count_below (record { key = key; ts = newest }) points) = omega arith in
        ap (λ (n : ℕ). filter (is_of_key key) (drop n points)) suc_place
        ∙ ap (filter (is_of_key key)) (sym (drop-more (count_below (record { key = key; ts = newest }) points) points))
        ∙ rest-front (is_of_key key) (drop (count_below (record { key = key; ts = newest }) points) points) (front (count_below (record { key = key; ts = newest }) points) (no-nearer newest refl))
        ∙ ap (drop 1) (versions-from newest refl ∙ all-pass))

-- ---- the point at or above a key

-- a point at or above a key is not below the points that are below it
lower-than-from : (key : Key) (p q : Point) → is_below_name (record_name key) p ≡ false → is_below_name (record_name key) q ≡ true → is_below_name (record_name p.name.key) q ≡ true
lower-than-from key p q above below = below-record p.name.key q ∙ by (key_cmp p.name.key key) refl (sym (below-record key q) ∙ below)
  where
    by : (o : Ordering) → key_cmp p.name.key key ≡ o → is_lt (key_cmp q.name.key key) ≡ true → is_lt (key_cmp q.name.key p.name.key) ≡ true
    by Less is low = (let e : is_below_name (record_name key) p ≡ true = below-record key p ∙ ap is_lt is in cc)
    by Equal is low = (let same : p.name.key ≡ key = key_cmp-IsAntisymmetric p.name.key key is in ap (λ k. is_lt (key_cmp q.name.key k)) same ∙ low)
    by Greater is low =
        (let back : key_cmp key p.name.key ≡ Less = key_cmp-total.antisymm key p.name.key ∙ ap ordering_reverse is in
        ap is_lt (key_cmp-total.trans q.name.key key p.name.key (less_from (key_cmp q.name.key key) low) back))

-- it is the first point of its key
pub from-place : (key : Key) (points : List Point) → IsRising points → (place : ℕ) (p : Point) → place ≡ before key points + 1
    → point_at points place ≡ Some p → place ≡ before p.name.key points + 1
from-place key points rising place p is at =
    is ∙ ap (λ n. n + 1) (sym (count_below-place (record_name p.name.key) points (before key points) (record { within = count_below-le (record_name key) points; below = below; above = above })))
  where
    at_n : slice_get points (before key points) ≡ Some p
    at_n = sym (point_at-next points (before key points)) ∙ ap (point_at points) (sym is) ∙ at

    below : (i : ℕ) (q : Point) → i < before key points → slice_get points i ≡ Some q → is_below_name (record_name p.name.key) q ≡ true
    below i q lt there =
        lower-than-from key p q ((place-count_below (record_name key) points rising).above (before key points) p (omega arith) at_n) ((place-count_below (record_name key) points rising).below i q lt there)

    above : (i : ℕ) (q : Point) → before key points ≤ i → slice_get points i ≡ Some q → is_below_name (record_name p.name.key) q ≡ false
    above i q le there = elim (cases_order (before key points) i) [
      | inl same ↦
          (let e : p ≡ q = (let f : Some p ≡ Some q = sym at_n ∙ ap (slice_get points) same ∙ there in cc) in
          ap (is_below_name (record_name p.name.key)) (sym e) ∙ not-before-itself p)
      | inr (inl less) ↦ not-before-own p q (rising (before key points) i p q less at_n there)
      | inr (inr more) ↦ absurd (omega arith)
    ]

-- the key there is the first at or above
pub from-found : (key : Key) (points : List Point) → IsRising points → (place : ℕ) → place ≡ before key points + 1 → key_in (point_at points place) ≡ key_from key points
from-found key points rising place is =
    ap key_in
    (ap (point_at points) is
    ∙ point_at-next points (before key points)
    ∙ slice_get-count_below (record_name key) points rising
    ∙ find-same (λ p. not (is_below_name (record_name key) p)) (λ p. is_at_or_below key p.name.key) points
    (λ p. ap not (below-record key p ∙ at_or_above p.name.key key) ∙ not-not (is_at_or_below key p.name.key)))
  where
    not-not : (b : Bool) → not (not b) ≡ b
    not-not true = refl
    not-not false = refl

-- the least key above a key is the first at or above that key with a byte 0 behind it
pub above-found : (key : Key) (points : List Point) → key_from (key ++ 0 ∷ []) points ≡ key_above key points
above-found key points = ap key_in (find-same (λ p. is_at_or_below (key ++ 0 ∷ []) p.name.key) (λ p. is_below key p.name.key) points each)
  where
    each : (p : Point) → is_at_or_below (key ++ 0 ∷ []) p.name.key ≡ is_below key p.name.key
    each p =
        not-same (is_at_or_below (key ++ 0 ∷ []) p.name.key) (is_below key p.name.key)
        (sym (below-record (key ++ 0 ∷ []) p ∙ at_or_above p.name.key (key ++ 0 ∷ [])) ∙ next-record key p)
      where
        not-same : (a b : Bool) → not a ≡ not b → a ≡ b
        not-same true true h = refl
        not-same true false h = cc
        not-same false true h = cc
        not-same false false h = refl

-- a pair that stands at the place of its key's record is the first of its key
pub stored-there : (points : List Point) → IsRising points → (place : ℕ) (p : Point) → place ≡ before p.name.key points + 1 → point_at points place ≡ Some p
    → first (points_of p.name.key points) ≡ Some p
stored-there points rising place p is at =
    first-here p.name.key points rising place is ∙ ap (kept_if (is_of_key p.name.key)) at ∙ ap (λ (b : Bool). cond b (Some p) None) (key_same p.name.key p.name.key refl)

-- two tests, one after the other
pub kept-both : (T U : Point → Bool) (o : Option Point) → kept_if (λ p. T p && U p) o ≡ kept_if U (kept_if T o)
kept-both T U None = refl
kept-both T U (Some p) = by (T p)
  where
    by : (b : Bool) → cond (b && U p) (Some p) None ≡ kept_if U (cond b (Some p) None)
    by true = refl
    by false = refl

-- the record of a key is stored, by the point where it would stand
pub record-here : (key : Key) (points mine : List Point) → IsRising points → (place : ℕ) → place ≡ before key points + 1 → mine ≡ points
    → (b : Bool) → b ≡ is_some (kept_if (λ p. is_of_key key p && is_no_time p.name.ts) (point_at mine place)) → b ≡ has_record (AtKey key) points
record-here key points mine rising place at same b is =
    is
    ∙ ap (λ l. is_some (kept_if (λ p. is_of_key key p && is_no_time p.name.ts) (point_at l place))) same
    ∙ ap is_some (kept-both (is_of_key key) (λ p. is_no_time p.name.ts) (point_at points place))
    ∙ ap (λ o. is_some (kept_if (λ p. is_no_time p.name.ts) o)) (sym (first-here key points rising place at))
