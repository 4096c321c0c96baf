-- Moves from key to key.
use Rattle.std.proofs.Common.{◌≡◌, ℕ, zero, suc, ◌+◌, ◌-◌, ◌<◌, ◌≤◌, Bool, true, false, cond, List, [], ◌∷◌, length, refl, sym, ap, ◌∙◌, arith}
use Rattle.std.specs.Prelude.{◌&&◌, filter, find, Some, None, is_some, unwrap_or, slice_get}
use Rattle.std.specs.declared.option.Option.{Option}
use Rattle.std.proofs.lemmas.List.Sums.{sum_by-cons}
use Rattle.mvcc_key.specs.Lists.{first, last}
use Rattle.mvcc_key.specs.Fragments.{Fragment, stack_at}
use Rattle.mvcc_key.specs.Order.{Key, is_below}
use Rattle.mvcc_key.specs.KeyFormat.{encoded_name}
use Rattle.mvcc_key.specs.Points.{Point, IsRising, point_at, count_below, is_below_name}
use Rattle.mvcc_key.proofs.PointLaws.{point_at-next, point_at-none, place-count_below, count_below-le, rising_rest}
use Rattle.run_block.specs.RunFormat.{Run}
use Rattle.lsm_store.specs.Shown.{shown}
use Rattle.mvcc_cursor.specs.KeyPoints.{record_name, is_of_key, points_of, versions_in, key_in, key_above, first_key}
use Rattle.mvcc_cursor.specs.Standing.{Standing, Place, AtKey, points_at, at_place, or_past, or_before, next_place, previous_place, stack_over}
use Rattle.mvcc_cursor.specs.views.Short.{AreShortKeys}
use Rattle.mvcc_cursor.specs.views.Under.{key_under, place_in, is_stored, before_key, has_record, IsRecordName}
use Rattle.mvcc_cursor.specs.views.Stands.{is_before, is_past}
use Rattle.mvcc_cursor.specs.declared.stand.Stand.{Stand}
use Rattle.mvcc_cursor.specs.declared.stand.Stand.TheVariants.{Before, At, Past}
use Rattle.mvcc_cursor.proofs.OrderLaws.{key_same, below-record}
use Rattle.mvcc_cursor.proofs.ListLaws.{filter-none}
use Rattle.mvcc_cursor.proofs.KeyLaws.{before, from-place}
use Rattle.mvcc_cursor.proofs.BytesLaws.{key-under, still-named}

-- what is seen after a coming to a place
pub comes-to : (old : Standing) (store : List Run) (at at' : Place) → store ≡ old.store → at ≡ at'
    → ◌≡◌ {A = Standing} (record { store = store; at = at; left = versions_in (points_at at (shown store)) }) (at_place at' old)
comes-to old store at at' same same_at = λ i. record { store = same i; at = same_at i; left = versions_in (points_at (same_at i) (shown (same i))) }

-- a point is one of its key's
pub stored-any : (points : List Point) (i : ℕ) (p : Point) → slice_get points i ≡ Some p → is_some (first (points_of p.name.key points)) ≡ true
unfolding points_of
stored-any [] i p is = cc
stored-any (q ∷ qs) zero p is =
    (let same : q ≡ p = cc in
    let own : is_of_key p.name.key q ≡ true = key_same q.name.key p.name.key (ap (λ (r : Point). r.name.key) same) in
    ap (λ (b : Bool). is_some (first (cond b (q ∷ filter (is_of_key p.name.key) qs) (filter (is_of_key p.name.key) qs)))) own)
stored-any (q ∷ qs) (suc i) p is = by (is_of_key p.name.key q) (stored-any qs i p is)
  where
    by : (b : Bool) → is_some (first (filter (is_of_key p.name.key) qs)) ≡ true → is_some (first (cond b (q ∷ filter (is_of_key p.name.key) qs) (filter (is_of_key p.name.key) qs))) ≡ true
    by true h = refl
    by false h = h

-- a point at a place is one of all
pub at-index : (points : List Point) (place : ℕ) (p : Point) → point_at points place ≡ Some p → (i : ℕ) × (slice_get points i ≡ Some p)
at-index points zero p is = cc
at-index points (suc n) p is = (n, sym (point_at-next points n) ∙ ap (point_at points) (omega arith) ∙ is)

-- the key of the point at a place, as it is sought then
module _ (points : List Point) (place : ℕ) (sought : List ℕ) (named : sought ≡ encoded_name (record_name (unwrap_or (key_in (point_at points place)) []))) where
  pub there-named : IsRecordName sought
  there-named = still-named (unwrap_or (key_in (point_at points place)) []) sought named

  there-key : key_under sought ≡ unwrap_or (key_in (point_at points place)) []
  there-key = key-under (unwrap_or (key_in (point_at points place)) []) sought named

  some-key : (p : Point) → point_at points place ≡ Some p → key_under sought ≡ p.name.key
  some-key p is = there-key ∙ ap (λ o. unwrap_or (key_in o) []) is

  none-key : point_at points place ≡ None → key_under sought ≡ []
  none-key is = there-key ∙ ap (λ o. unwrap_or (key_in o) []) is

  pub there-short : AreShortKeys points → length (key_under sought) ≤ 4097
  there-short short = by (point_at points place) refl
    where
      by : (o : Option Point) → point_at points place ≡ o → length (key_under sought) ≤ 4097
      by None is = (let e : length (key_under sought) ≡ 0 = ap length (none-key is) in omega arith)
      by (Some p) is =
          (let at = at-index points place p is in
          let few = (short at.0 p at.1).short in
          let e : length (key_under sought) ≡ length p.name.key = ap length (some-key p is) in omega arith)

  -- the place, going on
  pub there-past : (stand : Stand) (stored : Bool) → stored ≡ is_some (point_at points place) → stand ≡ cond stored At Past → place_in stand sought ≡ or_past (key_in (point_at points place))
  there-past stand stored found is = by (point_at points place) refl
    where
      by : (o : Option Point) → point_at points place ≡ o → place_in stand sought ≡ or_past (key_in o)
      by None at = ap (λ s. place_in s sought) (is ∙ ap (λ (b : Bool). cond b At Past) (found ∙ ap is_some at))
      by (Some p) at = ap (λ s. place_in s sought) (is ∙ ap (λ (b : Bool). cond b At Past) (found ∙ ap is_some at)) ∙ ap AtKey (some-key p at)

  pub past-found : (stand : Stand) (stored : Bool) → stored ≡ is_some (point_at points place) → stand ≡ cond stored At Past → stored ≡ is_stored (place_in stand sought) points
  past-found stand stored found is = by (point_at points place) refl
    where
      by : (o : Option Point) → point_at points place ≡ o → stored ≡ is_stored (place_in stand sought) points
      by None at =
          (let none : stored ≡ false = found ∙ ap is_some at in
          none ∙ sym (ap (λ s. is_stored (place_in s sought) points) (is ∙ ap (λ (b : Bool). cond b At Past) none)))
      by (Some p) at =
          (let some : stored ≡ true = found ∙ ap is_some at in
          let i = at-index points place p at in
          some ∙ sym (ap (λ s. is_stored (place_in s sought) points) (is ∙ ap (λ (b : Bool). cond b At Past) some) ∙ ap (λ k. is_some (first (points_of k points))) (some-key p at) ∙ stored-any points i.0 p i.1))

  -- and going back
  pub there-before : (stand : Stand) (stored : Bool) → stored ≡ is_some (point_at points place) → stand ≡ cond stored At Before → place_in stand sought ≡ or_before (key_in (point_at points place))
  there-before stand stored found is = by (point_at points place) refl
    where
      by : (o : Option Point) → point_at points place ≡ o → place_in stand sought ≡ or_before (key_in o)
      by None at = ap (λ s. place_in s sought) (is ∙ ap (λ (b : Bool). cond b At Before) (found ∙ ap is_some at))
      by (Some p) at = ap (λ s. place_in s sought) (is ∙ ap (λ (b : Bool). cond b At Before) (found ∙ ap is_some at)) ∙ ap AtKey (some-key p at)

  pub before-found : (stand : Stand) (stored : Bool) → stored ≡ is_some (point_at points place) → stand ≡ cond stored At Before → stored ≡ is_stored (place_in stand sought) points
  before-found stand stored found is = by (point_at points place) refl
    where
      by : (o : Option Point) → point_at points place ≡ o → stored ≡ is_stored (place_in stand sought) points
      by None at =
          (let none : stored ≡ false = found ∙ ap is_some at in
          none ∙ sym (ap (λ s. is_stored (place_in s sought) points) (is ∙ ap (λ (b : Bool). cond b At Before) none)))
      by (Some p) at =
          (let some : stored ≡ true = found ∙ ap is_some at in
          let i = at-index points place p at in
          some ∙ sym (ap (λ s. is_stored (place_in s sought) points) (is ∙ ap (λ (b : Bool). cond b At Before) some) ∙ ap (λ k. is_some (first (points_of k points))) (some-key p at) ∙ stored-any points i.0 p i.1))

  pub before-empty : (stand : Stand) (stored : Bool) → stored ≡ is_some (point_at points place) → stand ≡ cond stored At Before → stand ≡ Before → key_under sought ≡ []
  before-empty stand stored found is there = by (point_at points place) refl
    where
      by : (o : Option Point) → point_at points place ≡ o → key_under sought ≡ []
      by None at = none-key at
      by (Some p) at = (let e : Before ≡ At = sym there ∙ is ∙ ap (λ (b : Bool). cond b At Before) (found ∙ ap is_some at) in absurd cc)

  -- where the place was found from a key, the point is the first of its key
  module _ (rising : IsRising points) (key : Key) (at : place ≡ before key points + 1) where
    pub there-stands : (stored : Bool) → stored ≡ is_some (point_at points place) → stored ≡ true → place ≡ before_key sought points + 1
    there-stands stored found here = by (point_at points place) refl
      where
        by : (o : Option Point) → point_at points place ≡ o → place ≡ before_key sought points + 1
        by None is = (let e : true ≡ false = sym here ∙ found ∙ ap is_some is in absurd cc)
        by (Some p) is = from-place key points rising place p at is ∙ ap (λ k. before k points + 1) (sym (some-key p is))

    pub past-stands : (stand : Stand) (stored : Bool) → stored ≡ is_some (point_at points place) → stand ≡ cond stored At Past → stand ≡ At → place ≡ before_key sought points + 1
    past-stands stand true found is there = there-stands true found refl
    past-stands stand false found is there = (let e : At ≡ Past = sym there ∙ is in absurd cc)

  pub past-ends : place ≤ length points + 1 → 0 < place → (stand : Stand) (stored : Bool) → stored ≡ is_some (point_at points place) → stand ≡ cond stored At Past → stand ≡ Past → place ≡ length points + 1
  past-ends most least stand stored found is there = by (point_at points place) refl
    where
      by : (o : Option Point) → point_at points place ≡ o → place ≡ length points + 1
      by None none = (let past = point_at-none points place none least in omega arith)
      by (Some p) some = (let e : Past ≡ At = sym there ∙ is ∙ ap (λ (b : Bool). cond b At Past) (found ∙ ap is_some some) in absurd cc)

-- what is told of the record and the stack at the place, by what holds of the key
pub past-has : (stand : Stand) (stored : Bool) (sought : List ℕ) (points : List Point) → stand ≡ cond stored At Past → (stored && has_record (AtKey (key_under sought)) points) ≡ has_record (place_in stand sought) points
past-has stand true sought points is = sym (ap (λ s. has_record (place_in s sought) points) is)
past-has stand false sought points is = sym (ap (λ s. has_record (place_in s sought) points) is)

pub before-has : (stand : Stand) (stored : Bool) (sought : List ℕ) (points : List Point) → stand ≡ cond stored At Before → (stored && has_record (AtKey (key_under sought)) points) ≡ has_record (place_in stand sought) points
before-has stand true sought points is = sym (ap (λ s. has_record (place_in s sought) points) is)
before-has stand false sought points is = sym (ap (λ s. has_record (place_in s sought) points) is)

pub past-over : (stand : Stand) (stored : Bool) (sought : List ℕ) (fs : List Fragment) → stand ≡ cond stored At Past → cond stored (stack_at fs (key_under sought)) [] ≡ stack_over (place_in stand sought) fs
past-over stand true sought fs is = sym (ap (λ s. stack_over (place_in s sought) fs) is)
past-over stand false sought fs is = sym (ap (λ s. stack_over (place_in s sought) fs) is)

pub before-over : (stand : Stand) (stored : Bool) (sought : List ℕ) (fs : List Fragment) → stand ≡ cond stored At Before → cond stored (stack_at fs (key_under sought)) [] ≡ stack_over (place_in stand sought) fs
before-over stand true sought fs is = sym (ap (λ s. stack_over (place_in s sought) fs) is)
before-over stand false sought fs is = sym (ap (λ s. stack_over (place_in s sought) fs) is)

-- the first key is the one above the empty key
pub first-above : (points : List Point) → AreShortKeys points → key_above [] points ≡ first_key points
first-above [] short = refl
first-above (p ∷ ps) short = by p.name.key refl (short 0 p refl).some
  where
    by : (k : Key) → p.name.key ≡ k → 1 ≤ length k → key_above [] (p ∷ ps) ≡ Some p.name.key
    by [] is long = absurd (omega arith)
    by (x ∷ xs) is long = ap (λ (b : Bool). key_in (cond b (Some p) (find (λ q. is_below [] q.name.key) ps))) (ap (is_below []) is)

-- the last key is that of the last point
pub last-there : (points : List Point) → point_at points (length points) ≡ last points
last-there [] = refl
last-there (p ∷ []) = refl
last-there (p ∷ q ∷ ps) =
    (let e : length (p ∷ q ∷ ps) ≡ length (q ∷ ps) + 1 = omega arith in
    let f : length ps + 1 ≡ length (q ∷ ps) = omega arith in
    ap (point_at (p ∷ q ∷ ps)) e ∙ point_at-next (p ∷ q ∷ ps) (length (q ∷ ps)) ∙ next (length (q ∷ ps)) f ∙ last-there (q ∷ ps))
  where
    next : (n : ℕ) → length ps + 1 ≡ n → slice_get (p ∷ q ∷ ps) n ≡ point_at (q ∷ ps) n
    next zero is = absurd (omega arith)
    next (suc n) is = (let e : n + 1 ≡ suc n = omega arith in sym (point_at-next (q ∷ ps) n) ∙ ap (point_at (q ∷ ps)) e)

-- the last key below a key is that of the point before the place of its record
pub below-there : (key : Key) (points : List Point) → IsRising points → point_at points (before key points) ≡ last (filter (λ p. is_below p.name.key key) points)
unfolding count_below
below-there key [] rising = refl
below-there key (p ∷ ps) rising = by (is_below p.name.key key) refl (below-there key ps (rising_rest (λ (q : Point). q.name) p ps rising))
  where
    first-count : (b : Bool) → is_below_name (record_name key) p ≡ b → count_below (record_name key) (p ∷ ps) ≡ cond b 1 0 + count_below (record_name key) ps
    first-count b is = sum_by-cons (λ (q : Point). cond (is_below_name (record_name key) q) 1 0) p ps ∙ ap (λ (c : Bool). cond c 1 0 + count_below (record_name key) ps) is

    by : (b : Bool) → is_below p.name.key key ≡ b → point_at ps (before key ps) ≡ last (filter (λ q. is_below q.name.key key) ps)
        → point_at (p ∷ ps) (before key (p ∷ ps)) ≡ last (cond b (p ∷ filter (λ q. is_below q.name.key key) ps) (filter (λ q. is_below q.name.key key) ps))
    by true is rest =
        (let e : before key (p ∷ ps) ≡ before key ps + 1 = first-count true (below-record key p ∙ is) ∙ omega arith in
        ap (point_at (p ∷ ps)) e ∙ point_at-next (p ∷ ps) (before key ps) ∙ more (before key ps) refl (filter (λ q. is_below q.name.key key) ps) rest)
      where
        more : (n : ℕ) → before key ps ≡ n → (F : List Point) → point_at ps (before key ps) ≡ last F → slice_get (p ∷ ps) n ≡ last (p ∷ F)
        more zero none [] rest = refl
        more zero none (q ∷ qs) rest = absurd (some-last q qs (sym rest ∙ ap (point_at ps) none))
          where
            some-last : (q : Point) (qs : List Point) → last (q ∷ qs) ≡ None → ⊥
            some-last q [] h = cc
            some-last q (r ∷ rs) h = some-last r rs h
        more (suc m) some (q ∷ qs) rest = sym (point_at-next ps m) ∙ ap (point_at ps) (let e : m + 1 ≡ before key ps = omega arith in e) ∙ rest
        more (suc m) some [] rest =
            absurd (let most = count_below-le (record_name key) ps in
            let past = point_at-none ps (before key ps) rest (omega arith) in omega arith)
    by false is rest =
        (let none : before key (p ∷ ps) ≡ 0 = zero-count (before key (p ∷ ps)) refl in
        ap (point_at (p ∷ ps)) none
        ∙ sym (ap last (filter-none (λ q. is_below q.name.key key) ps
        (λ i q at. sym (below-record key q) ∙ (place-count_below (record_name key) (p ∷ ps) rising).above (suc i) q (omega (arith, none)) at))))
      where
        zero-count : (n : ℕ) → before key (p ∷ ps) ≡ n → before key (p ∷ ps) ≡ 0
        zero-count zero e = e
        zero-count (suc m) e = absurd (let low = (place-count_below (record_name key) (p ∷ ps) rising).below 0 p (omega arith) refl in let high = below-record key p ∙ is in cc)

-- the place of the next key, where it is not past the last one
pub next-there : (stand : Stand) (sought : List ℕ) (points : List Point) → is_past stand ≡ false → (stand ≡ Before → key_under sought ≡ []) → AreShortKeys points
    → or_past (key_above (key_under sought) points) ≡ next_place (place_in stand sought) points
next-there Before sought points inside empty short = ap (λ k. or_past (key_above k points)) (empty refl) ∙ ap or_past (first-above points short)
next-there At sought points inside empty short = refl
next-there Past sought points inside empty short = cc

-- the place of the key before, where it is not before the first one
pub previous-there : (stand : Stand) (sought : List ℕ) (points : List Point) (place : ℕ) → IsRising points → is_before stand ≡ false
    → (stand ≡ At → place ≡ before_key sought points + 1) → (stand ≡ Past → place ≡ length points + 1)
    → or_before (key_in (point_at points (place - 1))) ≡ previous_place (place_in stand sought) points
previous-there Before sought points place rising inside at ends = cc
previous-there At sought points place rising inside at ends =
    (let e : place - 1 ≡ before_key sought points = (let is = at refl in omega arith) in
    ap (λ n. or_before (key_in (point_at points n))) e ∙ ap (λ o. or_before (key_in o)) (below-there (key_under sought) points rising))
previous-there Past sought points place rising inside at ends =
    (let e : place - 1 ≡ length points = (let is = ends refl in omega arith) in
    ap (λ n. or_before (key_in (point_at points n))) e ∙ ap (λ o. or_before (key_in o)) (last-there points))

-- going back it is never past the last key
pub before-never : (stand : Stand) (stored : Bool) → stand ≡ cond stored At Before → stand ≡ Past → ⊥
before-never stand true is there = (let e : Past ≡ At = sym there ∙ is in cc)
before-never stand false is there = (let e : Past ≡ Before = sym there ∙ is in cc)
