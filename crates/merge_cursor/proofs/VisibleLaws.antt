-- The points that are set, and places among them.
use Rattle.std.proofs.Common.{◌≡◌, inl, inr, ℕ, zero, suc, ◌+◌, ◌-◌, ◌<◌, ◌≤◌, Bool, true, false, cond, List, [], ◌∷◌, length, take, min, refl, sym, ap, ◌∙◌, arith}
use Rattle.std.specs.Prelude.{slice_get, Some, is_some, IsSome, nat_lt}
use Rattle.std.specs.List.{AllByRecursion}
use Rattle.std.specs.declared.option.Option.{Option}
use Rattle.std.specs.Option.{option_and_then}
use Rattle.std.proofs.lemmas.Bool.{ltb-true, ltb-false}
use Rattle.std.proofs.lemmas.List.{take_all}
use Rattle.std.proofs.lemmas.List.Kept.{IsStrictlySortedBy-filter}
use Rattle.std.proofs.lemmas.Option.{slice_get_cases, slice_get_within}
use Rattle.mvcc_key.specs.Order.{Name, is_in_range}
use Rattle.mvcc_key.specs.Points.{Point, point_cmp, IsRising, AreEncodable, point_at, value_at, count_below}
use Rattle.mvcc_key.proofs.PointLaws.{rising_rest, rising-first, point_at-next, sorted-rising, rising-sorted}
use Rattle.mvcc_key.proofs.EachLaws.{All-at, All-filter, All-from_places}
use Rattle.merge_cursor.specs.views.Standing.{count_in}
use Rattle.merge_cursor.specs.Visible.{visible, visible_place, StandsVisible}
use Rattle.merge_cursor.proofs.LeadingLaws.{refused}
use Rattle.merge_cursor.proofs.CutLaws.{below-IsCut, count_in-yes, count_in-no, count_in-below}
use Rattle.merge_cursor.proofs.ShownLaws.{below}

-- whether a point is set
abbrev pub is_set : Point → Bool
is_set p = is_some p.value

-- ---- what holds of them

-- they rise
pub rising-visible : (ps : List Point) → IsRising ps → IsRising (visible ps)
rising-visible ps rising = rising-sorted (visible ps) (IsStrictlySortedBy-filter point_cmp is_set ps (sorted-rising ps rising))

-- their names have encodings
pub encodable-visible : (ps : List Point) → AreEncodable ps → AreEncodable (visible ps)
encodable-visible ps e i p at =
    All-at (λ q. is_in_range q.name.ts ≡ true) (visible ps) i p (All-filter (λ q. is_in_range q.name.ts ≡ true) is_set ps (All-from_places (λ q. is_in_range q.name.ts ≡ true) ps e)) at

-- ---- how many are set among the first

-- one point more
visible_suc : (ps : List Point) (n : ℕ) (p : Point) → slice_get ps n ≡ Some p → length (visible (take (suc n) ps)) ≡ length (visible (take n ps)) + cond (is_set p) 1 0
visible_suc [] n p at = absurd cc
visible_suc (q ∷ ps) zero p at = (let same : q ≡ p = cc in rw same (by (is_set p)))
  where
    by : (b : Bool) → length (cond b (p ∷ []) []) ≡ 0 + cond b 1 0
    by true = refl
    by false = refl
visible_suc (q ∷ ps) (suc n) p at = by (is_set q) (visible_suc ps n p at)
  where
    by : (b : Bool) → length (visible (take (suc n) ps)) ≡ length (visible (take n ps)) + cond (is_set p) 1 0
        → length (cond b (q ∷ visible (take (suc n) ps)) (visible (take (suc n) ps))) ≡ length (cond b (q ∷ visible (take n ps)) (visible (take n ps))) + cond (is_set p) 1 0
    by true rest = omega arith
    by false rest = rest

-- no more than all
visible_le : (ps : List Point) (n : ℕ) → length (visible (take n ps)) ≤ length (visible ps)
visible_le [] zero = omega arith
visible_le [] (suc n) = omega arith
visible_le (p ∷ ps) zero = omega arith
visible_le (p ∷ ps) (suc n) = by (is_set p) (visible_le ps n)
  where
    by : (b : Bool) → length (visible (take n ps)) ≤ length (visible ps) → length (cond b (p ∷ visible (take n ps)) (visible (take n ps))) ≤ length (cond b (p ∷ visible ps) (visible ps))
    by true le = omega arith
    by false le = le

-- the point at a place that has one
point_of_place : (ps : List Point) (k : ℕ) → 0 < k → k ≤ length ps → (n : ℕ) × (p : Point) × (k ≡ suc n) × (slice_get ps n ≡ Some p) × (point_at ps k ≡ Some p)
point_of_place ps zero low high = absurd (omega arith)
point_of_place ps (suc n) low high =
    elim ((slice_get_cases ps n).1) [
      | inl there ↦ (n, there.0, refl, there.2, ap (point_at ps) (let e : suc n ≡ n + 1 = omega arith in e) ∙ point_at-next ps n ∙ there.2)
      | inr past ↦ absurd (let le = past.0 in omega arith)
    ]

-- a cleared point adds none
pub skipped : (ps : List Point) (k : ℕ) → 0 < k → k ≤ length ps → is_some (value_at ps k) ≡ false → length (visible (take k ps)) ≡ length (visible (take (k - 1) ps))
skipped ps k low high cleared =
    let h = point_of_place ps k low high in
    let not : is_set h.1 ≡ false = ap (λ (o : Option Point). is_some (option_and_then (λ q. q.value) o)) (sym h.4) ∙ cleared in
    ap (λ (m : ℕ). length (visible (take m ps))) h.2 ∙ visible_suc ps h.0 h.1 h.3 ∙ ap (λ (b : Bool). length (visible (take h.0 ps)) + cond b 1 0) not
    ∙ omega arith ∙ ap (λ (m : ℕ). length (visible (take m ps))) (let e = h.2 in let back : h.0 ≡ k - 1 = omega arith in back)

-- a point that is set adds one
shows_more : (ps : List Point) (k : ℕ) → 0 < k → k ≤ length ps → IsSome (value_at ps k) → length (visible (take k ps)) ≡ length (visible (take (k - 1) ps)) + 1
shows_more ps k low high set =
    let h = point_of_place ps k low high in
    let yes : is_set h.1 ≡ true = ap (λ (o : Option Point). is_some (option_and_then (λ q. q.value) o)) (sym h.4) ∙ set in
    ap (λ (m : ℕ). length (visible (take m ps))) h.2 ∙ visible_suc ps h.0 h.1 h.3 ∙ ap (λ (b : Bool). length (visible (take h.0 ps)) + cond b 1 0) yes
    ∙ ap (λ (m : ℕ). length (visible (take m ps)) + 1) (let e = h.2 in let back : h.0 ≡ k - 1 = omega arith in back)

-- ---- places

-- up to the end
pub place-within : (ps : List Point) (k : ℕ) → k ≤ length ps → visible_place ps k ≡ length (visible (take k ps))
place-within ps k within = by (nat_lt (length ps) k) refl
  where
    by : (b : Bool) → nat_lt (length ps) k ≡ b → cond b (length (visible ps) + 1) (length (visible (take k ps))) ≡ length (visible (take k ps))
    by true is = absurd (let lt = ltb-true (length ps) k is in omega arith)
    by false is = refl

-- behind those in front
pub place-front : (ps : List Point) (k : ℕ) → 1 ≤ k → k ≤ length ps + 1 → StandsVisible ps k → visible_place ps k ≡ length (visible (take (k - 1) ps)) + 1
place-front ps k low high stands = by (nat_lt (length ps) k) refl
  where
    by : (b : Bool) → nat_lt (length ps) k ≡ b → cond b (length (visible ps) + 1) (length (visible (take k ps))) ≡ length (visible (take (k - 1) ps)) + 1
    by true is =
        let lt = ltb-true (length ps) k is in
        ap (λ (qs : List Point). length (visible qs) + 1) (sym (take_all (k - 1) ps (omega arith)))
    by false is =
        let le = ltb-false (length ps) k is in
        shows_more ps k (omega arith) (omega arith) (stands (omega arith) (omega arith))

-- the next place
pub place-next : (ps : List Point) (k : ℕ) → length (visible (take (min (k + 1) (length ps + 1) - 1) ps)) + 1 ≡ min (visible_place ps k + 1) (length (visible ps) + 1)
place-next ps k = by (nat_lt (length ps) k) refl
  where
    by : (b : Bool) → nat_lt (length ps) k ≡ b
        → length (visible (take (min (k + 1) (length ps + 1) - 1) ps)) + 1 ≡ min (cond b (length (visible ps) + 1) (length (visible (take k ps))) + 1) (length (visible ps) + 1)
    by true is =
        let lt = ltb-true (length ps) k is in
        ap (λ (qs : List Point). length (visible qs) + 1) (take_all (min (k + 1) (length ps + 1) - 1) ps (omega arith)) ∙ omega arith
    by false is =
        let le = ltb-false (length ps) k is in
        let same : min (k + 1) (length ps + 1) - 1 ≡ k = omega arith in
        ap (λ (n : ℕ). length (visible (take n ps)) + 1) same ∙ omega (arith, visible_le ps k)

-- the place before
pub place-prev : (ps : List Point) (k : ℕ) → k ≤ length ps + 1 → StandsVisible ps k → length (visible (take (k - 1) ps)) ≡ visible_place ps k - 1
place-prev ps zero high stands = sym (ap (λ (n : ℕ). n - 1) (place-within ps zero (omega arith)) ∙ refl)
place-prev ps (suc n) high stands = omega (arith, place-front ps (suc n) (omega arith) high stands)

-- ---- what is shown

shown_at : (ps : List Point) (n : ℕ) → ((p : Point) → slice_get ps n ≡ Some p → is_set p ≡ true) → slice_get (visible ps) (length (visible (take n ps))) ≡ slice_get ps n
shown_at [] zero h = refl
shown_at [] (suc n) h = refl
shown_at (p ∷ ps) zero h = ap (λ (b : Bool). slice_get (cond b (p ∷ visible ps) (visible ps)) 0) (h p refl)
shown_at (p ∷ ps) (suc n) h = by (is_set p) (shown_at ps n (λ q at. h q at))
  where
    by : (b : Bool) → slice_get (visible ps) (length (visible (take n ps))) ≡ slice_get ps n
        → slice_get (cond b (p ∷ visible ps) (visible ps)) (length (cond b (p ∷ visible (take n ps)) (visible (take n ps)))) ≡ slice_get ps n
    by true rest = rest
    by false rest = rest

-- the visible point at the visible place is the one at the place
pub shown-visible : (ps : List Point) (k : ℕ) → k ≤ length ps + 1 → StandsVisible ps k → point_at (visible ps) (visible_place ps k) ≡ point_at ps k
shown-visible ps zero high stands = ap (point_at (visible ps)) (place-within ps zero (omega arith))
shown-visible ps (suc n) high stands =
    ap (point_at (visible ps)) (place-front ps (suc n) (omega arith) high stands ∙ ap (λ (m : ℕ). length (visible (take m ps)) + 1) (omega arith))
    ∙ point_at-next (visible ps) (length (visible (take n ps)))
    ∙ shown_at ps n set
    ∙ sym (ap (point_at ps) (let e : suc n ≡ n + 1 = omega arith in e) ∙ point_at-next ps n)
  where
    set : (p : Point) → slice_get ps n ≡ Some p → is_set p ≡ true
    set p at =
        let within = slice_get_within ps n p at in
        let here : point_at ps (suc n) ≡ Some p = ap (point_at ps) (let e : suc n ≡ n + 1 = omega arith in e) ∙ point_at-next ps n ∙ at in
        sym (ap (λ (o : Option Point). is_some (option_and_then (λ q. q.value) o)) here) ∙ stands (omega arith) (omega arith)

-- ---- below a name

none_below : (n : Name) (ps : List Point) → AllByRecursion (λ p. below n p.name ≡ false) ps → count_in (below n) ps ≡ 0
none_below n [] h = refl
none_below n (p ∷ ps) h = count_in-no (below n) p ps h.0 ∙ none_below n ps h.1

visible_cut : (n : Name) (ps : List Point) → IsRising ps → length (visible (take (count_in (below n) ps) ps)) ≡ count_in (below n) (visible ps)
visible_cut n [] rising = refl
visible_cut n (p ∷ ps) rising = by (below n p.name) refl (visible_cut n ps (rising_rest (λ (q : Point). q.name) p ps rising))
  where
    by : (b : Bool) → below n p.name ≡ b → length (visible (take (count_in (below n) ps) ps)) ≡ count_in (below n) (visible ps)
        → length (visible (take (count_in (below n) (p ∷ ps)) (p ∷ ps))) ≡ count_in (below n) (visible (p ∷ ps))
    by true is rest = ap (λ (m : ℕ). length (visible (take m (p ∷ ps)))) (count_in-yes (below n) p ps is) ∙ set (is_set p)
      where
        set : (v : Bool) → length (cond v (p ∷ visible (take (count_in (below n) ps) ps)) (visible (take (count_in (below n) ps) ps))) ≡ count_in (below n) (cond v (p ∷ visible ps) (visible ps))
        set true = ap suc rest ∙ sym (count_in-yes (below n) p (visible ps) is)
        set false = rest
    by false is rest =
        let others : AllByRecursion (λ q. below n q.name ≡ false) ps =
        All-from_places (λ q. below n q.name ≡ false) ps
        (λ i q at. refused (below n q.name) (λ yes. (let low = (below-IsCut n).down p.name q.name (rising-first (λ (r : Point). r.name) p ps rising i q at) yes in cc))) in
        let all : AllByRecursion (λ q. below n q.name ≡ false) (p ∷ ps) = (is, others) in
        ap (λ (m : ℕ). length (visible (take m (p ∷ ps)))) (none_below n (p ∷ ps) all)
        ∙ sym (none_below n (visible (p ∷ ps)) (All-filter (λ q. below n q.name ≡ false) is_set (p ∷ ps) all))

-- those below a name that are set
pub visible-below : (n : Name) (ps : List Point) → IsRising ps → length (visible (take (count_below n ps) ps)) ≡ count_below n (visible ps)
visible-below n ps rising =
    ap (λ (m : ℕ). length (visible (take m ps))) (sym (count_in-below n ps)) ∙ visible_cut n ps rising ∙ count_in-below n (visible ps)

-- ---- after a move

-- where the cleared names were skipped on the way on
pub arrives-on : (old moved new : List Point) (from place : ℕ) → moved ≡ old → new ≡ moved → 1 ≤ place → place ≤ length new + 1 → StandsVisible new place
    → length (visible (take (place - 1) moved)) ≡ length (visible (take (from - 1) moved)) → visible_place new place ≡ length (visible (take (from - 1) old)) + 1
arrives-on old moved new from place is_moved is_new low high stands kept =
    place-front new place low high stands
    ∙ ap (λ (ps : List Point). length (visible (take (place - 1) ps)) + 1) is_new
    ∙ ap (λ (n : ℕ). n + 1) kept
    ∙ ap (λ (ps : List Point). length (visible (take (from - 1) ps)) + 1) is_moved

-- where they were skipped on the way back
pub arrives-back : (old moved new : List Point) (from place : ℕ) → moved ≡ old → new ≡ moved → place ≤ length moved
    → length (visible (take place moved)) ≡ length (visible (take from moved)) → visible_place new place ≡ length (visible (take from old))
arrives-back old moved new from place is_moved is_new high kept =
    ap (λ (ps : List Point). visible_place ps place) is_new
    ∙ place-within moved place high
    ∙ kept
    ∙ ap (λ (ps : List Point). length (visible (take from ps))) is_moved
