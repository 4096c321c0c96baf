-- The looks that a key takes: how many part entries stand before its points.
use Rattle.std.proofs.Common.{◌≡◌, ℕ, zero, suc, ◌+◌, ◌*◌, ◌<◌, ◌≤◌, Bool, true, false, cond, List, [], ◌∷◌, ◌++◌, length, refl, sym, ap, subst, ◌∙◌, arith, inl, inr}
use Rattle.std.specs.Prelude.{Some, None, slice_get, not}
use Rattle.std.specs.declared.option.Option.{Option}
use Rattle.std.proofs.lemmas.Bool.{cases_order}
use Rattle.std.proofs.lemmas.List.Sums.{sum_by-le-sum_by}
use Rattle.std.proofs.lemmas.Option.{slice_get_within}
use Rattle.std.specs.declared.cmp.Ordering.{Ordering}
use Rattle.std.specs.declared.cmp.Ordering.TheVariants.{Less, Equal, Greater}
use Rattle.std.specs.Ordering.{is_lt, ordering_reverse}
use Rattle.std.specs.Cmp.{tied_itself}
use Rattle.mvcc_key.specs.Order.{Timestamp, Key, Name, is_below, key_cmp, name_cmp}
use Rattle.mvcc_key.specs.Points.{Point, IsRising, point_at, is_below_name, count_below}
use Rattle.mvcc_key.proofs.OrderLaws.{name_cmp-total, key_cmp-total}
use Rattle.mvcc_key.proofs.TimeLaws.{less_from}
use Rattle.mvcc_key.proofs.PointLaws.{point_at-next, place-count_below, count_below-le, slice_get-count_below}
use Rattle.merge_cursor.specs.Merged.{entries_below, entries_before}
use Rattle.run_block.specs.RunFormat.{Run}
use Rattle.lsm_store.specs.Shown.{points_in, shown}
use Rattle.mvcc_cursor.specs.KeyPoints.{record_name, is_of_key, first_above}
use Rattle.mvcc_cursor.specs.Standing.{entries_up_to, entries_of, one_seek}
use Rattle.mvcc_cursor.proofs.OrderLaws.{below-both, next-record, key_is, below-record}
use Rattle.mvcc_cursor.proofs.ListLaws.{find-same}

-- a name below another is below no more points
fewer : (m n : Name) → ((p : Point) → is_below_name m p ≡ true → is_below_name n p ≡ true) → (points : List Point) → count_below m points ≤ count_below n points
unfolding count_below
fewer m n also points = sum_by-le-sum_by (λ p. cond (is_below_name m p) 1 0) (λ p. cond (is_below_name n p) 1 0) points each
  where
    each : (p : Point) → cond (is_below_name m p) 1 0 ≤ cond (is_below_name n p) 1 0
    each p = by (is_below_name m p) (is_below_name n p) (also p)
      where
        by : (a b : Bool) → (a ≡ true → b ≡ true) → cond a 1 0 ≤ cond b 1 0
        by true true h = omega arith
        by true false h = (let e : false ≡ true = h refl in absurd cc)
        by false b h = omega arith

fewer-entries : (m n : Name) → ((p : Point) → is_below_name m p ≡ true → is_below_name n p ≡ true) → (parts : List (List Point)) → entries_below m parts ≤ entries_below n parts
fewer-entries m n also parts = sum_by-le-sum_by (count_below m) (count_below n) parts (fewer m n also)

-- no more entries are below the record than below a version
pub fewer-below : (key : Key) (ts : Timestamp) (parts : List (List Point)) → entries_below (record_name key) parts ≤ entries_below (record { key = key; ts = ts }) parts
fewer-below key ts parts = fewer-entries (record_name key) (record { key = key; ts = ts }) (below-both key ts) parts

-- what is below a name is below those above it
below-along : (m n : Name) → name_cmp m n ≡ Less → (p : Point) → is_below_name m p ≡ true → is_below_name n p ≡ true
below-along m n less p below = ap is_lt (name_cmp-total.trans p.name m n (less_from (name_cmp p.name m) below) less)

-- no more entries stand before a point than before one behind it
pub before-later : (points : List Point) → IsRising points → (parts : List (List Point)) (i j : ℕ) → i ≤ j → entries_before (slice_get points i) parts ≤ entries_before (slice_get points j) parts
before-later points rising parts i j le = by (slice_get points i) refl (slice_get points j) refl
  where
    by : (a : Option Point) → slice_get points i ≡ a → (b : Option Point) → slice_get points j ≡ b → entries_before a parts ≤ entries_before b parts
    by None is None there = omega arith
    by (Some p) is None there = sum_by-le-sum_by (count_below p.name) length parts (count_below-le p.name)
    by None is (Some q) there = absurd (let within = slice_get_within points j q there in let e = slice_get_cases_none points i is in omega arith)
      where
        slice_get_cases_none : (xs : List Point) (k : ℕ) → slice_get xs k ≡ None → length xs ≤ k
        slice_get_cases_none [] k h = omega arith
        slice_get_cases_none (x ∷ xs) zero h = cc
        slice_get_cases_none (x ∷ xs) (suc k) h = (let rest = slice_get_cases_none xs k h in omega arith)
    by (Some p) is (Some q) there = elim (cases_order i j) [
      | inl same ↦ (let e : p ≡ q = (let f : Some p ≡ Some q = sym is ∙ ap (slice_get points) same ∙ there in cc) in subst (λ (r : Point). entries_below p.name parts ≤ entries_below r.name parts) e (omega arith))
      | inr (inl less) ↦ fewer-entries p.name q.name (below-along p.name q.name (rising i j p q less is there)) parts
      | inr (inr more) ↦ absurd (omega arith)
    ]

-- keys are ordered one way
key-asymmetric : (a b : Key) → is_below a b ≡ true → is_below b a ≡ false
key-asymmetric a b h = (let back : key_cmp b a ≡ Greater = key_cmp-total.antisymm b a ∙ ap ordering_reverse (less_from (key_cmp a b) h) in ap is_lt back)

key-irreflexive : (a : Key) → is_below a a ≡ false
key-irreflexive a = ap is_lt (tied_itself key_cmp-total a)

module _ (key : Key) (points : List Point) (rising : IsRising points) where
  -- the first point of a later key is the one where the record of the least key above would stand
  pub above-there : first_above key points ≡ slice_get points (count_below (record_name (key ++ 0 ∷ [])) points)
  above-there =
      sym (slice_get-count_below (record_name (key ++ 0 ∷ [])) points rising
      ∙ find-same (λ p. not (is_below_name (record_name (key ++ 0 ∷ [])) p)) (λ p. is_below key p.name.key) points
      (λ p. ap not (next-record key p) ∙ not-not (is_below key p.name.key)))
    where
      not-not : (b : Bool) → not (not b) ≡ b
      not-not true = refl
      not-not false = refl

  -- the record of the key would stand no later
  pub record-up_to : count_below (record_name key) points ≤ count_below (record_name (key ++ 0 ∷ [])) points
  record-up_to = fewer (record_name key) (record_name (key ++ 0 ∷ [])) below points
    where
      below : (p : Point) → is_below_name (record_name key) p ≡ true → is_below_name (record_name (key ++ 0 ∷ [])) p ≡ true
      below p is = next-record key p ∙ ap not (key-asymmetric p.name.key key (sym (below-record key p) ∙ is))

  -- a point of the key stands before that
  pub own-up_to : (i : ℕ) (p : Point) → slice_get points i ≡ Some p → is_of_key key p ≡ true → i < count_below (record_name (key ++ 0 ∷ [])) points
  own-up_to i p at own = elim (cases_order i (count_below (record_name (key ++ 0 ∷ [])) points)) [
    | inl same ↦ absurd (past (omega arith))
    | inr (inl less) ↦ less
    | inr (inr more) ↦ absurd (past (omega arith))
  ]
    where
      past : count_below (record_name (key ++ 0 ∷ [])) points ≤ i → ⊥
      past le =
          (let above : is_below_name (record_name (key ++ 0 ∷ [])) p ≡ false = (place-count_below (record_name (key ++ 0 ∷ [])) points rising).above i p le at in
          let none : is_below key p.name.key ≡ false = ap (is_below key) (key_is p.name.key key own) ∙ key-irreflexive key in
          let e : true ≡ false = sym (next-record key p ∙ ap not none) ∙ above in
          cc)

  -- so no more entries stand before a point than before the first of a later key, where the one before it is of the key
  pub before-up_to : (store : List Run) → points ≡ shown store → (i : ℕ) → i ≤ count_below (record_name (key ++ 0 ∷ [])) points → entries_before (slice_get points i) (points_in store) ≤ entries_up_to key store
  before-up_to store are i le =
      subst (λ (ps : List Point). entries_before (slice_get points i) (points_in store) ≤ entries_before (first_above key ps) (points_in store)) are
      (subst (λ (o : Option Point). entries_before (slice_get points i) (points_in store) ≤ entries_before o (points_in store)) (sym above-there)
      (before-later points rising (points_in store) i (count_below (record_name (key ++ 0 ∷ [])) points) le))

-- the looks of a seek whose point is no further than the first of a later key
pub seek-bound : (store : List Run) (key : Key) (e before after : ℕ) → e ≤ entries_up_to key store → after + entries_below (record_name key) (points_in store) ≤ before + one_seek store + e
    → after ≤ before + (one_seek store + entries_of key store)
seek-bound store key e before after le looks = omega arith

-- the looks of a seek to the record of a key, and of what is looked up behind it
pub exact-bound : (store : List Run) (key : Key) → IsRising (shown store) → (name : Name) (o : Option Point) (a b c d n : ℕ) → name ≡ record_name key
    → o ≡ slice_get (shown store) (count_below (record_name key) (shown store))
    → b + entries_below name (points_in store) ≤ a + one_seek store + entries_before o (points_in store)
    → c ≤ b + 2 * (one_seek store + entries_of key store) → d ≤ c + n + 1 → d ≤ a + 3 * (one_seek store + entries_of key store) + n + 1
exact-bound store key rising name o a b c d n same at looks more last =
    (let most : entries_before o (points_in store) ≤ entries_up_to key store =
    subst (λ (q : Option Point). entries_before q (points_in store) ≤ entries_up_to key store) (sym at)
    (before-up_to key (shown store) rising store refl (count_below (record_name key) (shown store)) (record-up_to key (shown store) rising)) in
    let named : b + entries_below (record_name key) (points_in store) ≤ a + one_seek store + entries_before o (points_in store) =
    subst (λ (m : Name). b + entries_below m (points_in store) ≤ a + one_seek store + entries_before o (points_in store)) same looks in
    let first = seek-bound store key (entries_before o (points_in store)) a b most named in
    omega arith)

-- a version of a key would stand no later than the first point of a later key
pub version-up_to : (key : Key) (ts : Timestamp) (points : List Point) → count_below (record { key = key; ts = ts }) points ≤ count_below (record_name (key ++ 0 ∷ [])) points
version-up_to key ts points = fewer (record { key = key; ts = ts }) (record_name (key ++ 0 ∷ [])) below points
  where
    below : (p : Point) → is_below_name (record { key = key; ts = ts }) p ≡ true → is_below_name (record_name (key ++ 0 ∷ [])) p ≡ true
    below p is = next-record key p ∙ by (key_cmp key p.name.key) refl
      where
        by : (o : Ordering) → key_cmp key p.name.key ≡ o → not (is_lt (key_cmp key p.name.key)) ≡ true
        by Less e =
            (let back : key_cmp p.name.key key ≡ Greater = key_cmp-total.antisymm p.name.key key ∙ ap ordering_reverse e in
            let high : is_below_name (record { key = key; ts = ts }) p ≡ false = rw back refl in
            absurd cc)
        by Equal e = ap (λ (o : Ordering). not (is_lt o)) e
        by Greater e = ap (λ (o : Ordering). not (is_lt o)) e

-- the looks of a seek to a version of a key
pub version-bound : (store : List Run) (key : Key) (ts : Timestamp) (place a b : ℕ) → IsRising (shown store) → place ≡ count_below (record { key = key; ts = ts }) (shown store) + 1
    → b + entries_below (record { key = key; ts = ts }) (points_in store) ≤ a + one_seek store + entries_before (point_at (shown store) place) (points_in store)
    → b ≤ a + one_seek store + entries_of key store
version-bound store key ts place a b rising at looks =
    (let most : entries_before (point_at (shown store) place) (points_in store) ≤ entries_up_to key store =
    subst (λ (o : Option Point). entries_before o (points_in store) ≤ entries_up_to key store) (sym (ap (point_at (shown store)) at ∙ point_at-next (shown store) (count_below (record { key = key; ts = ts }) (shown store))))
    (before-up_to key (shown store) rising store refl (count_below (record { key = key; ts = ts }) (shown store)) (version-up_to key ts (shown store))) in
    let less = fewer-below key ts (points_in store) in
    omega arith)

-- no more entries are below the record of a key than before the first of a later key
pub below-up_to : (store : List Run) (key : Key) → IsRising (shown store) → entries_below (record_name key) (points_in store) ≤ entries_up_to key store
below-up_to store key rising = by (first_above key (shown store)) (above-there key (shown store) rising)
  where
    by : (o : Option Point) → o ≡ slice_get (shown store) (count_below (record_name (key ++ 0 ∷ [])) (shown store)) → entries_below (record_name key) (points_in store) ≤ entries_before o (points_in store)
    by None is = sum_by-le-sum_by (count_below (record_name key)) length (points_in store) (count_below-le (record_name key))
    by (Some p) is = fewer-entries (record_name key) p.name below (points_in store)
      where
        high : is_below_name (record_name (key ++ 0 ∷ [])) p ≡ false
        high = (place-count_below (record_name (key ++ 0 ∷ [])) (shown store) rising).above (count_below (record_name (key ++ 0 ∷ [])) (shown store)) p (omega arith) (sym is)

        below : (q : Point) → is_below_name (record_name key) q ≡ true → is_below_name p.name q ≡ true
        below q low = below-along (record_name key) p.name less q low
          where
            up : is_below key p.name.key ≡ true
            up = not-false (is_below key p.name.key) (sym (next-record key p) ∙ high)
              where
                not-false : (b : Bool) → not b ≡ false → b ≡ true
                not-false true h = refl
                not-false false h = cc

            less : name_cmp (record_name key) p.name ≡ Less
            less = (let e : key_cmp key p.name.key ≡ Less = less_from (key_cmp key p.name.key) up in rw e refl)
