-- What contracts see of a cursor, by the places of the cursors under it.
use Rattle.std.proofs.Common.{◌≡◌, ℕ, zero, suc, ◌+◌, ◌<◌, ◌≤◌, Bool, true, false, cond, List, [], ◌∷◌, ◌++◌, length, drop, length-drop, refl, sym, ap, subst, ◌∙◌, arith}
use Rattle.std.specs.Prelude.{◌&&◌, find, filter, min, Some, None, is_some, slice_get}
use Rattle.std.specs.declared.option.Option.{Option}
use Rattle.mvcc_key.specs.Lists.{first}
use Rattle.mvcc_key.specs.Order.{Timestamp, is_no_time, is_up_to, Key, Name, max_wall, max_logical}
use Rattle.mvcc_key.specs.Points.{Point, IsRising, AreEncodable, point_at, count_below}
use Rattle.mvcc_key.proofs.PointLaws.{count_below-le, point_at-next}
use Rattle.merge_cursor.specs.Merged.{entries_below, entries_before}
use Rattle.run_block.specs.RunFormat.{Run}
use Rattle.lsm_store.specs.Shown.{points_in, shown}
use Rattle.mvcc_cursor.specs.KeyPoints.{record_name, is_of_key, is_version, points_of, versions_in, kept_if, key_in}
use Rattle.mvcc_cursor.specs.Standing.{Standing, Place, BeforeFirst, AtKey, PastLast, points_at, anew, after_one, one_seek, entries_up_to}
use Rattle.mvcc_cursor.specs.views.Under.{key_under, version_under, place_in, left_in, is_stored, before_key, behind_key, passed_in, begin_looks}
use Rattle.mvcc_cursor.specs.declared.stand.Stand.{Stand}
use Rattle.mvcc_cursor.specs.declared.stand.Stand.TheVariants.{Before, At, Past}
use Rattle.mvcc_cursor.proofs.OrderLaws.{key_is}
use Rattle.mvcc_cursor.proofs.ListLaws.{drop-more, first-drop}
use Rattle.mvcc_cursor.proofs.KeyLaws.{before, front, given-next, left-next, seek-finds, first-version, left-first, no-nearer}
use Rattle.mvcc_cursor.proofs.LookLaws.{fewer-below, before-up_to, below-up_to, own-up_to, version-up_to}

none-first : (ps : List Point) → is_some (first ps) ≡ false → ps ≡ []
none-first [] h = refl
none-first (p ∷ ps) h = cc

-- no point of the key is stored
pub absent : (stored : Bool) (at : Place) (points : List Point) → stored ≡ false → stored ≡ is_stored at points → points_at at points ≡ []
absent stored at points is found = none-first (points_at at points) (sym found ∙ is)

module _ (sought : List ℕ) (points : List Point) (rising : IsRising points) where
  -- the next version, where one was given
  module _ (place place' : ℕ) (behind : before_key sought points < place) (next : place' ≡ min (place + 1) (length points + 1)) (within : place ≤ length points + 1) where
    pub given-left : (stand : Stand) (stored : Bool) → stored ≡ true → stored ≡ is_stored (place_in stand sought) points → left_in true (place_in stand sought) points place' ≡ drop 1 (left_in true (place_in stand sought) points place)
    given-left Before stored is found = cc
    given-left At stored is found = left-next (key_under sought) points rising place place' behind next within
    given-left Past stored is found = cc

    pub given-version : (stand : Stand) (stored : Bool) → stored ≡ true → stored ≡ is_stored (place_in stand sought) points
        → cond stored (kept_if (λ p. is_of_key (key_under sought) p && is_version p) (point_at points place')) None ≡ first (left_in true (place_in stand sought) points place)
    given-version Before stored is found = cc
    given-version At stored is found =
        ap (λ (b : Bool). cond b (kept_if (λ p. is_of_key (key_under sought) p && is_version p) (point_at points place')) None) is
        ∙ given-next (key_under sought) points rising place place' behind next within
    given-version Past stored is found = cc

  -- the first one
  module _ (encodable : AreEncodable points) (place : ℕ) where
    pub first-left : (stand : Stand) (stored : Bool) → stored ≡ is_stored (place_in stand sought) points
        → (stored ≡ true → place ≡ count_below (version_under sought (record { wall = max_wall; logical = max_logical })) points + 1)
        → left_in stored (place_in stand sought) points place ≡ drop 1 (versions_in (points_at (place_in stand sought) points))
    unfolding versions_in
    first-left Before true found at = cc
    first-left Before false found at = refl
    first-left Past true found at = cc
    first-left Past false found at = refl
    first-left At false found at = (let none : points_of (key_under sought) points ≡ [] = absent false (AtKey (key_under sought)) points refl found in rw none refl)
    first-left At true found at = left-first (key_under sought) points rising encodable place (at refl)

  -- the newest version up to a timestamp
  pub found-version : (ts : Timestamp) (place : ℕ) (stand : Stand) (stored : Bool) → is_no_time ts ≡ false → stored ≡ is_stored (place_in stand sought) points
      → (stored ≡ true → place ≡ count_below (version_under sought ts) points + 1)
      → cond stored (kept_if (λ p. is_of_key (key_under sought) p && is_version p) (point_at points place)) None ≡ find (λ p. is_up_to p.name.ts ts) (versions_in (points_at (place_in stand sought) points))
  unfolding versions_in
  found-version ts place Before true some found at = cc
  found-version ts place Before false some found at = refl
  found-version ts place Past true some found at = cc
  found-version ts place Past false some found at = refl
  found-version ts place At false some found at = (let none : points_of (key_under sought) points ≡ [] = absent false (AtKey (key_under sought)) points refl found in rw none refl)
  found-version ts place At true some found at = seek-finds (key_under sought) points rising ts some place (at refl)

-- behind the record it stays
pub behind-next : (name : Name) (points : List Point) (place place' : ℕ) → count_below name points < place → place' ≡ min (place + 1) (length points + 1) → count_below name points < place'
behind-next name points place place' behind is = (let most = count_below-le name points in omega arith)

pub behind-first : (sought : List ℕ) (points : List Point) (ts : Timestamp) → IsRising points → is_no_time ts ≡ false → (place : ℕ) → place ≡ count_below (version_under sought ts) points + 1 → before_key sought points < place
behind-first sought points ts rising some place is = (let near = no-nearer (key_under sought) points rising ts some in omega arith)

-- the newest version is the first
pub first-any : (at : Place) (points : List Point) → IsRising points → AreEncodable points
    → find (λ p. is_up_to p.name.ts (record { wall = max_wall; logical = max_logical })) (versions_in (points_at at points)) ≡ first (versions_in (points_at at points))
unfolding versions_in
first-any BeforeFirst points rising encodable = refl
first-any (AtKey key) points rising encodable = first-version key points rising encodable
first-any PastLast points rising encodable = refl

-- one version is given, of those that are given anew
pub after-anew : (new old : Standing) (l : List Point) → new ≡ anew old → old.left ≡ versions_in (points_at old.at (shown old.store)) → l ≡ drop 1 (versions_in (points_at new.at (shown new.store))) → record new { left = l } ≡ after_one old
after-anew new old l is all e =
    λ i. record {
      store = (ap (λ (s : Standing). s.store) is) i;
      at = (ap (λ (s : Standing). s.at) is) i;
      left = (e ∙ ap (λ (s : Standing). drop 1 (versions_in (points_at s.at (shown s.store)))) is ∙ ap (drop 1) (sym all)) i;
    }

filter-first : (T : Point → Bool) (xs : List Point) (p : Point) → first (filter T xs) ≡ Some p → T p ≡ true
filter-first T [] p is = cc
filter-first T (x ∷ xs) p is = by (T x) refl is (filter-first T xs p)
  where
    by : (b : Bool) → T x ≡ b → first (cond b (x ∷ filter T xs) (filter T xs)) ≡ Some p → (first (filter T xs) ≡ Some p → T p ≡ true) → T p ≡ true
    by true there e rest = (let same : x ≡ p = cc in ap T (sym same) ∙ there)
    by false there e rest = rest e

-- the key, where a point of it is stored
pub key-here : (stand : Stand) (stored : Bool) (sought : List ℕ) (points : List Point) → stored ≡ true → stored ≡ is_stored (place_in stand sought) points → (key : Key) → key ≡ key_under sought
    → Some key ≡ key_in (first (points_at (place_in stand sought) points))
unfolding points_of
key-here Before stored sought points is found key same = cc
key-here Past stored sought points is found key same = cc
key-here At stored sought points is found key same = by (first (filter (is_of_key (key_under sought)) points)) refl
  where
    by : (o : Option Point) → first (filter (is_of_key (key_under sought)) points) ≡ o → Some key ≡ key_in o
    by None at = (let e : is_some (first (filter (is_of_key (key_under sought)) points)) ≡ false = ap is_some at in let f : stored ≡ false = found ∙ e in absurd cc)
    by (Some p) at = ap Some (same ∙ sym (key_is p.name.key (key_under sought) (filter-first (is_of_key (key_under sought)) points p at)))

-- no key, where none is stored
pub key-none : (stored : Bool) (at : Place) (points : List Point) → stored ≡ false → stored ≡ is_stored at points → None ≡ key_in (first (points_at at points))
key-none stored at points is found = sym (ap (λ l. key_in (first l)) (absent stored at points is found))

-- where a point of the key is there are points
pub some-points : (at : Place) (points : List Point) → is_some (first (points_at at points)) ≡ true → 0 < length points
unfolding points_of
some-points BeforeFirst points is = cc
some-points PastLast points is = cc
some-points (AtKey key) [] is = cc
some-points (AtKey key) (p ∷ ps) is = omega arith

pub some-version : (at : Place) (points : List Point) → is_some (first (versions_in (points_at at points))) ≡ true → is_some (first (points_at at points)) ≡ true
unfolding versions_in
some-version at points is = by (points_at at points) is
  where
    by : (ps : List Point) → is_some (first (filter is_version ps)) ≡ true → is_some (first ps) ≡ true
    by [] is = is
    by (p ∷ ps) is = refl

-- where a version is left the place is that of a point
pub some-left : (at : Place) (points : List Point) (place : ℕ) → is_some (first (left_in true at points place)) ≡ true → place < length points
some-left at points place is = (let some = some-points at (drop place points) is in let len = length-drop place points in omega arith)

-- from one version to the next
pub next-looks : (sought : List ℕ) (store : List Run) (place place' before after : ℕ)
    → after + entries_before (point_at (shown store) place) (points_in store) ≤ before + entries_before (point_at (shown store) place') (points_in store)
    → (given : Bool) → given ≡ true → after + passed_in given sought store place ≤ before + passed_in given sought store place' + begin_looks given store
next-looks sought store place place' before after looks false is = cc
next-looks sought store place place' before after looks true is = omega arith

-- the first version
pub first-looks : (sought sought' : List ℕ) (store store' : List Run) (ts : Timestamp) (place place' before after : ℕ) (stored given : Bool) → sought' ≡ sought → store' ≡ store → given ≡ false
    → (stored ≡ false → after ≡ before)
    → (stored ≡ true → after + entries_below (version_under sought ts) (points_in store) ≤ before + one_seek store + entries_before (point_at (shown store) place') (points_in store))
    → after + passed_in given sought store place ≤ before + passed_in stored sought' store' place' + begin_looks given store
first-looks sought sought' store store' ts place place' before after stored true same same' none idle gone = cc
first-looks sought sought' store store' ts place place' before after true false same same' none idle gone =
    (let looks = gone refl in let less = fewer-below (key_under sought) ts (points_in store) in
    let e : entries_before (point_at (shown store') place') (points_in store') ≡ entries_before (point_at (shown store) place') (points_in store) = ap (λ s. entries_before (point_at (shown s) place') (points_in s)) same' in
    omega arith)
first-looks sought sought' store store' ts place place' before after false false same same' none idle gone =
    (let looks = idle refl in
    let e : entries_below (record_name (key_under sought')) (points_in store') ≡ entries_below (record_name (key_under sought)) (points_in store) = ap (λ l. entries_below (record_name (key_under l)) (points_in store')) same ∙ ap (λ s. entries_below (record_name (key_under sought)) (points_in s)) same' in
    omega arith)

-- once a version was given no seek is taken
pub begun-looks : (given : Bool) (store : List Run) → given ≡ true → begin_looks given store ≡ 0
begun-looks true store is = refl
begun-looks false store is = cc

-- ---- behind the last version

-- where no point of the key stands at the place, none is left behind it
none-behind : (key : Key) (points : List Point) → IsRising points → (place : ℕ) → before key points < place → is_some (kept_if (is_of_key key) (point_at points place)) ≡ false → points_of key (drop place points) ≡ []
unfolding points_of
none-behind key points rising zero behind none = absurd (omega arith)
none-behind key points rising (suc m) behind none =
    ap (filter (is_of_key key)) (sym (drop-more m points)) ∙ by (drop m points) refl
  where
    none_at : is_some (kept_if (is_of_key key) (slice_get points m)) ≡ false
    none_at = ap (λ o. is_some (kept_if (is_of_key key) o)) (sym (point_at-next points m) ∙ ap (point_at points) (omega arith)) ∙ none

    by : (xs : List Point) → drop m points ≡ xs → filter (is_of_key key) (drop 1 xs) ≡ []
    by [] is = refl
    by (x ∷ xs) is = front key points rising m (omega arith) x xs is (other (is_of_key key x) refl (sym (ap (λ o. is_some (kept_if (is_of_key key) o)) (sym (first-drop m points) ∙ ap first is)) ∙ none_at))
      where
        other : (b : Bool) → is_of_key key x ≡ b → is_some (cond b (Some x) None) ≡ false → is_of_key key x ≡ false
        other true e h = cc
        other false e h = e

-- so none is to be given
pub none-left : (stand : Stand) (sought : List ℕ) (points : List Point) → IsRising points → (place : ℕ) → before_key sought points < place → is_some (kept_if (is_of_key (key_under sought)) (point_at points place)) ≡ false
    → left_in true (place_in stand sought) points place ≡ []
none-left Before sought points rising place behind none = refl
none-left At sought points rising place behind none = none-behind (key_under sought) points rising place behind none
none-left Past sought points rising place behind none = refl

-- nor does one stand there
pub none-now : (key : Key) (o : Option Point) (stored : Bool) → is_some (kept_if (is_of_key key) o) ≡ false → cond stored (kept_if (λ p. is_of_key key p && is_version p) o) None ≡ None
none-now key o false none = refl
none-now key None true none = refl
none-now key (Some p) true none = by (is_of_key key p) none
  where
    by : (b : Bool) → is_some (cond b (Some p) None) ≡ false → cond (b && is_version p) (Some p) None ≡ None
    by true h = cc
    by false h = refl

-- the next place is within the key
pub within-next : (key : Key) (points : List Point) → IsRising points → (place place' : ℕ) → is_some (kept_if (is_of_key key) (point_at points place)) ≡ true → place' ≡ min (place + 1) (length points + 1)
    → place' ≤ count_below (record_name (key ++ 0 ∷ [])) points + 1
within-next key points rising zero place' there next = cc
within-next key points rising (suc m) place' there next = by (slice_get points m) refl
  where
    some : is_some (kept_if (is_of_key key) (slice_get points m)) ≡ true
    some = ap (λ o. is_some (kept_if (is_of_key key) o)) (sym (point_at-next points m) ∙ ap (point_at points) (omega arith)) ∙ there

    by : (o : Option Point) → slice_get points m ≡ o → place' ≤ count_below (record_name (key ++ 0 ∷ [])) points + 1
    by None is = absurd (let e : false ≡ true = sym (ap (λ o. is_some (kept_if (is_of_key key) o)) is) ∙ some in cc)
    by (Some p) is = (let lt = own-up_to key points rising m p is (own (is_of_key key p) refl (sym (ap (λ o. is_some (kept_if (is_of_key key) o)) is) ∙ some)) in omega arith)
      where
        own : (b : Bool) → is_of_key key p ≡ b → is_some (cond b (Some p) None) ≡ true → is_of_key key p ≡ true
        own true e h = e
        own false e h = cc

-- no more entries stand before such a place than before the first of a later key
pub within-entries : (store : List Run) (key : Key) → IsRising (shown store) → (place : ℕ) → before key (shown store) < place → place ≤ count_below (record_name (key ++ 0 ∷ [])) (shown store) + 1
    → entries_before (point_at (shown store) place) (points_in store) ≤ entries_up_to key store
within-entries store key rising zero behind within = absurd (omega arith)
within-entries store key rising (suc m) behind within =
    subst (λ (o : Option Point). entries_before o (points_in store) ≤ entries_up_to key store) (sym (point_at-next (shown store) m) ∙ ap (point_at (shown store)) (omega arith))
    (before-up_to key (shown store) rising store refl m (omega arith))

known : (stand : Stand) (sought : List ℕ) (key : Key) → place_in stand sought ≡ AtKey key → key_under sought ≡ key
known Before sought key is = cc
known At sought key is = cc
known Past sought key is = cc

pub passed-within : (given : Bool) (stand : Stand) (sought : List ℕ) (store : List Run) (place : ℕ) → IsRising (shown store)
    → (given ≡ true → before_key sought (shown store) < place) → (given ≡ true → place ≤ behind_key sought (shown store) + 1)
    → (key : Key) → place_in stand sought ≡ AtKey key → passed_in given sought store place ≤ entries_up_to key store
passed-within true stand sought store place rising behind within key is =
    subst (λ (k : Key). entries_before (point_at (shown store) place) (points_in store) ≤ entries_up_to k store) (known stand sought key is)
    (within-entries store (key_under sought) rising place (behind refl) (within refl))
passed-within false stand sought store place rising behind within key is =
    subst (λ (k : Key). entries_below (record_name (key_under sought)) (points_in store) ≤ entries_up_to k store) (known stand sought key is)
    (below-up_to store (key_under sought) rising)

-- a seek to the newest version is within the key
pub within-first : (sought : List ℕ) (points : List Point) (ts : Timestamp) (place : ℕ) → place ≡ count_below (version_under sought ts) points + 1 → place ≤ behind_key sought points + 1
within-first sought points ts place is = (let le = version-up_to (key_under sought) ts points in omega arith)

pub le-plus : (a b c : ℕ) → a + b ≤ a + b + c
le-plus a b c = omega arith
