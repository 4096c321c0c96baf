-- Points in the order of their names: how many are below a name, and what stands at a place.
use Rattle.std.proofs.Common.{◌≡◌, ℕ, zero, suc, ◌+◌, ◌-◌, ◌<◌, ◌≤◌, Bool, true, false, cond, List, [], ◌∷◌, ◌++◌, length, refl, sym, ap, subst, ◌∙◌, arith, inl, inr}
use Rattle.std.specs.Prelude.{slice_get, Some, None, Result, Ok, find, not}
use Rattle.std.specs.declared.option.Option.{Option}
use Rattle.std.specs.Option.{option_map}
use Rattle.std.specs.declared.cmp.Ordering.TheVariants.{Less, Equal}
use Rattle.std.specs.Ordering.{is_lt, is_eq}
use Rattle.std.specs.List.{AllByRecursion}
use Rattle.std.specs.List.Sorted.{IsStrictlySortedBy}
use Rattle.std.proofs.lemmas.Option.{slice_get_within, slice_get_cases}
use Rattle.std.proofs.lemmas.List.{length-append}
use Rattle.std.proofs.lemmas.List.Sums.{sum_by-cons}
use Rattle.std.proofs.lemmas.Bool.{ne_eqb, cases_order}
use Rattle.mvcc_key.specs.Order.{Name, name_cmp, is_same_name}
use Rattle.mvcc_key.specs.KeyFormat.{encoded_name, KeyFault, name_of}
use Rattle.mvcc_key.specs.Encoded.{known_name, name_in, IsName}
use Rattle.mvcc_key.specs.Points.{Point, point_cmp, IsRisingBy, IsRising, AreEncodable, point_at, is_below_name, count_below}
use Rattle.mvcc_key.specs.Lists.{in_order}
use Rattle.mvcc_key.proofs.OrderLaws.{name_cmp-total}
use Rattle.mvcc_key.proofs.SortedLaws.{in_order-sorted}
use Rattle.mvcc_key.proofs.TimeLaws.{less_from}
use Rattle.mvcc_key.proofs.FindLaws.{find-in_order}
use Rattle.std.specs.Cmp.{IsTotalOrder, Equal-is}
use Rattle.std.proofs.lemmas.Cmp.{on_total, tied_back}
use Rattle.mvcc_key.proofs.KeyFormatLaws.{name_of-encoded_name}

-- ---- how many points are below a name

-- the points before the place are below the name, and those from it on are not
pub record IsPlace (name : Name) (points : List Point) (place : ℕ) : Type 0 where
  pub within : place ≤ length points
  pub below : (i : ℕ) (p : Point) → i < place → slice_get points i ≡ Some p → is_below_name name p ≡ true
  pub above : (i : ℕ) (p : Point) → place ≤ i → slice_get points i ≡ Some p → is_below_name name p ≡ false

-- one point more in front
count_below-yes : (name : Name) (p : Point) (ps : List Point) → is_below_name name p ≡ true → count_below name (p ∷ ps) ≡ 1 + count_below name ps
unfolding count_below
count_below-yes name p ps h = sum_by-cons (λ (q : Point). cond (is_below_name name q) 1 0) p ps ∙ ap (λ (b : Bool). cond b 1 0 + count_below name ps) h

count_below-no : (name : Name) (p : Point) (ps : List Point) → is_below_name name p ≡ false → count_below name (p ∷ ps) ≡ 0 + count_below name ps
unfolding count_below
count_below-no name p ps h = sum_by-cons (λ (q : Point). cond (is_below_name name q) 1 0) p ps ∙ ap (λ (b : Bool). cond b 1 0 + count_below name ps) h

count_below-none : (name : Name) → count_below name [] ≡ 0
unfolding count_below
count_below-none name = refl

-- the place after the points below a name is their number
pub count_below-place : (name : Name) (points : List Point) (place : ℕ) → IsPlace name points place → count_below name points ≡ place
count_below-place name [] place h = count_below-none name ∙ omega (arith, h.within)
count_below-place name (p ∷ ps) zero h =
    count_below-no name p ps (h.above 0 p (omega arith) refl)
    ∙ ap (λ (n : ℕ). 0 + n) (count_below-place name ps zero (record { within = omega arith; below = λ i q lt is. absurd (omega arith); above = λ i q le is. h.above (suc i) q (omega arith) is }))
    ∙ omega arith
count_below-place name (p ∷ ps) (suc n) h =
    count_below-yes name p ps (h.below 0 p (omega arith) refl)
    ∙ ap (λ (n : ℕ). 1 + n) (count_below-place name ps n (record {
      within = (let w = h.within in omega arith);
      below = λ i q lt is. h.below (suc i) q (omega arith) is;
      above = λ i q le is. h.above (suc i) q (omega arith) is;
    }))
    ∙ omega arith

-- no more are below a name than there are
pub count_below-le : (name : Name) (points : List Point) → count_below name points ≤ length points
count_below-le name [] = rw (count_below-none name) (omega arith)
count_below-le name (p ∷ ps) = by (is_below_name name p) refl (count_below-le name ps)
  where
    by : (b : Bool) → is_below_name name p ≡ b → count_below name ps ≤ length ps → count_below name (p ∷ ps) ≤ length (p ∷ ps)
    by true h le = rw (count_below-yes name p ps h) (omega arith)
    by false h le = rw (count_below-no name p ps h) (omega arith)

-- ---- rising points

-- without the first one they still rise
pub rising_rest : {X : Type 0} (name : X → Name) (x : X) (xs : List X) → IsRisingBy name (x ∷ xs) → IsRisingBy name xs
rising_rest name x xs h i j a b lt p q = h (suc i) (suc j) a b (omega arith) p q

-- the first is below each other one
pub rising-first : {X : Type 0} (name : X → Name) (x : X) (xs : List X) → IsRisingBy name (x ∷ xs) → (i : ℕ) (a : X) → slice_get xs i ≡ Some a → name_cmp (name x) (name a) ≡ Less
rising-first name x xs h i a p = h 0 (suc i) x a (omega arith) refl p

-- what is above a point that is not below the name is not below it either
above_too : (name : Name) (p q : Point) → name_cmp p.name q.name ≡ Less → is_below_name name p ≡ false → is_below_name name q ≡ false
above_too name p q lt not_below = by (is_below_name name q) refl
  where
    by : (b : Bool) → is_below_name name q ≡ b → is_below_name name q ≡ false
    by false h = h
    by true h =
        let less : name_cmp p.name name ≡ Less = name_cmp-total.trans p.name q.name name lt (less_from (name_cmp q.name name) h) in
        let yes : is_below_name name p ≡ true = ap is_lt less in
        absurd cc

-- where none of rising points is below the name, none is counted
none_below : (name : Name) (points : List Point) → ((i : ℕ) (p : Point) → slice_get points i ≡ Some p → is_below_name name p ≡ false) → count_below name points ≡ 0
none_below name points h =
    count_below-place name points 0 (record { within = omega arith; below = λ i p lt is. absurd (omega arith); above = λ i p le is. h i p is })

-- of rising points those below a name are the first ones
pub place-count_below : (name : Name) (points : List Point) → IsRising points → IsPlace name points (count_below name points)
place-count_below name [] rising = record {
  within = count_below-le name [];
  below = λ i p lt is. absurd (let le = count_below-le name [] in omega arith);
  above = λ i p le is. absurd cc;
}
place-count_below name (p ∷ ps) rising = by (is_below_name name p) refl (place-count_below name ps (rising_rest (λ (q : Point). q.name) p ps rising))
  where
    by : (b : Bool) → is_below_name name p ≡ b → IsPlace name ps (count_below name ps) → IsPlace name (p ∷ ps) (count_below name (p ∷ ps))
    by true h rest = subst (IsPlace name (p ∷ ps)) (sym (count_below-yes name p ps h ∙ omega arith)) (record {
      within = (let w = rest.within in omega arith);
      below = below;
      above = above;
    })
      where
        below : (i : ℕ) (q : Point) → i < suc (count_below name ps) → slice_get (p ∷ ps) i ≡ Some q → is_below_name name q ≡ true
        below zero q lt is = (let same : p ≡ q = cc in rw (← same) h)
        below (suc i) q lt is = rest.below i q (omega arith) is

        above : (i : ℕ) (q : Point) → suc (count_below name ps) ≤ i → slice_get (p ∷ ps) i ≡ Some q → is_below_name name q ≡ false
        above zero q le is = absurd (omega arith)
        above (suc i) q le is = rest.above i q (omega arith) is
    by false h rest =
        let others = λ (i : ℕ) (q : Point) (is : slice_get ps i ≡ Some q). above_too name p q (rising-first (λ (q : Point). q.name) p ps rising i q is) h in
        let none : count_below name (p ∷ ps) ≡ 0 = count_below-no name p ps h ∙ ap (λ (n : ℕ). 0 + n) (none_below name ps others) in
        subst (IsPlace name (p ∷ ps)) (sym none) (record {
          within = omega arith;
          below = λ i q lt is. absurd (omega arith);
          above = above;
        })
      where
        above : (i : ℕ) (q : Point) → 0 ≤ i → slice_get (p ∷ ps) i ≡ Some q → is_below_name name q ≡ false
        above zero q le is = (let same : p ≡ q = cc in rw (← same) h)
        above (suc i) q le is = above_too name p q (rising-first (λ (r : Point). r.name) p ps rising i q is) h

-- the first of rising points that is not below the name
pub slice_get-count_below : (name : Name) (points : List Point) → IsRising points → slice_get points (count_below name points) ≡ find (λ p. not (is_below_name name p)) points
slice_get-count_below name [] rising = refl
slice_get-count_below name (p ∷ ps) rising = by (is_below_name name p) refl (slice_get-count_below name ps (rising_rest (λ (q : Point). q.name) p ps rising))
  where
    by : (b : Bool) → is_below_name name p ≡ b → slice_get ps (count_below name ps) ≡ find (λ p. not (is_below_name name p)) ps
        → slice_get (p ∷ ps) (count_below name (p ∷ ps)) ≡ cond (not b) (Some p) (find (λ p. not (is_below_name name p)) ps)
    by true h rest =
        let more : count_below name (p ∷ ps) ≡ suc (count_below name ps) = count_below-yes name p ps h ∙ omega arith in
        ap (slice_get (p ∷ ps)) more ∙ rest
    by false h rest =
        let others = λ (i : ℕ) (q : Point) (is : slice_get ps i ≡ Some q). above_too name p q (rising-first (λ (r : Point). r.name) p ps rising i q is) h in
        let none : count_below name (p ∷ ps) ≡ 0 = count_below-no name p ps h ∙ ap (λ (n : ℕ). 0 + n) (none_below name ps others) in
        ap (slice_get (p ∷ ps)) none

-- ---- places

-- what stands one place behind another
pub point_at-next : (points : List Point) (n : ℕ) → point_at points (n + 1) ≡ slice_get points n
point_at-next points n =
    ap (λ (b : Bool). cond b None (slice_get points (n + 1 - 1))) (ne_eqb (n + 1) 0 (λ e. omega arith))
    ∙ ap (slice_get points) (omega arith)

-- a point stands at the places from 1 to their number
pub point_at-some : (points : List Point) (n : ℕ) (p : Point) → point_at points n ≡ Some p → (0 < n) × (n ≤ length points)
point_at-some points zero p is = absurd cc
point_at-some points (suc n) p is =
    let within = slice_get_within points n p (sym (point_at-next points n) ∙ ap (point_at points) (omega arith) ∙ is) in
    (omega arith, omega arith)

-- nothing stands behind the last point
pub point_at-none : (points : List Point) (n : ℕ) → point_at points n ≡ None → 0 < n → length points < n
point_at-none points zero is some = absurd (omega arith)
point_at-none points (suc n) is some =
    elim ((slice_get_cases points n).1) [
      | inl here ↦ absurd (let at : slice_get points n ≡ None = sym (point_at-next points n) ∙ ap (point_at points) (omega arith) ∙ is in let there = here.2 in cc)
      | inr past ↦ (let le = past.0 in omega arith)
    ]

-- ---- searching

-- what is known of a search between two places
pub record IsNarrowed (name : Name) (points : List Point) (low high : ℕ) : Type 0 where
  pub ordered : low ≤ high
  pub within : high ≤ length points
  pub below : (i : ℕ) (p : Point) → i < low → slice_get points i ≡ Some p → is_below_name name p ≡ true
  pub above : (i : ℕ) (p : Point) → high ≤ i → slice_get points i ≡ Some p → is_below_name name p ≡ false

-- before the search
pub IsNarrowed-first : (name : Name) (points : List Point) (n : ℕ) → n ≡ length points → IsNarrowed name points 0 n
IsNarrowed-first name points n is = record {
  ordered = omega arith;
  within = omega arith;
  below = λ i p lt e. absurd (omega arith);
  above = λ i p le e. absurd (let within = slice_get_within points i p e in omega arith);
}

-- a point that is below the name settles all up to it
pub IsNarrowed-below : (name : Name) (points : List Point) (low high middle : ℕ) (p : Point) → IsRising points → IsNarrowed name points low high
    → middle < high → slice_get points middle ≡ Some p → is_below_name name p ≡ true → IsNarrowed name points (middle + 1) high
IsNarrowed-below name points low high middle p rising n lt at is_below = record { ordered = omega arith; within = n.within; below = below; above = n.above }
  where
    below : (i : ℕ) (q : Point) → i < middle + 1 → slice_get points i ≡ Some q → is_below_name name q ≡ true
    below i q less is =
        elim (cases_order i middle) [
          | inl same ↦ (let one : Some q ≡ Some p = sym is ∙ ap (slice_get points) same ∙ at in let point : p ≡ q = cc in rw (← point) is_below)
          | inr (inl before) ↦
              ap is_lt (name_cmp-total.trans q.name p.name name (rising i middle q p before is at) (less_from (name_cmp p.name name) is_below))
          | inr (inr behind) ↦ absurd (omega arith)
        ]

-- a point that is not below the name settles all from it on
pub IsNarrowed-above : (name : Name) (points : List Point) (low high middle : ℕ) (p : Point) → IsRising points → IsNarrowed name points low high
    → low ≤ middle → middle < high → slice_get points middle ≡ Some p → is_below_name name p ≡ false → IsNarrowed name points low middle
IsNarrowed-above name points low high middle p rising n le lt at not_below = record {
  ordered = le;
  within = (let w = n.within in omega arith);
  below = n.below;
  above = above;
}
  where
    above : (i : ℕ) (q : Point) → middle ≤ i → slice_get points i ≡ Some q → is_below_name name q ≡ false
    above i q more is =
        elim (cases_order middle i) [
          | inl same ↦ (let one : Some p ≡ Some q = sym at ∙ ap (slice_get points) same ∙ is in let point : p ≡ q = cc in rw (← point) not_below)
          | inr (inl before) ↦ above_too name p q (rising middle i p q before at is) not_below
          | inr (inr behind) ↦ absurd (omega arith)
        ]

-- after the search
pub count_below-narrowed : (name : Name) (points : List Point) (low high : ℕ) → IsNarrowed name points low high → high ≤ low → count_below name points ≡ low
count_below-narrowed name points low high n done =
    count_below-place name points low (record { within = (let w = n.within in let o = n.ordered in omega arith); below = n.below; above = λ i p le is. n.above i p (omega arith) is })

-- the point whose encoded key stands at a place
pub record HasPoint (points : List Point) (i : ℕ) (key : List ℕ) : Type 0 where
  pub point : Point
  pub here : slice_get points i ≡ Some point
  pub read : name_of key ≡ Ok point.name
  pub spelled : encoded_name point.name ≡ key

-- an encoded key of the points is read as the name of its point
pub HasPoint-key : (points : List Point) (i : ℕ) (key : List ℕ) → AreEncodable points
    → option_map (λ p. encoded_name p.name) (slice_get points i) ≡ Some key → HasPoint points i key
HasPoint-key points i key encodable is = by (slice_get points i) refl is
  where
    by : (o : Option Point) → slice_get points i ≡ o → option_map (λ p. encoded_name p.name) o ≡ Some key → HasPoint points i key
    by None at e = absurd cc
    by (Some p) at e =
        let bytes : encoded_name p.name ≡ key = cc in
        record { point = p; here = at; read = rw (← bytes) (name_of-encoded_name p.name (encodable i p at)); spelled = bytes }

-- it is a name
pub named-key : (points : List Point) (i : ℕ) (key : List ℕ) → HasPoint points i key → IsName key
named-key points i key h = record { read = rw h.read refl; spelled = ap (λ (r : Result Name KeyFault). encoded_name (known_name r)) h.read ∙ h.spelled }

-- and the name's order to others is the point's
pub below-key : (name : Name) (points : List Point) (i : ℕ) (key : List ℕ) (h : HasPoint points i key) → is_lt (name_cmp (name_in key) name) ≡ is_below_name name h.point
below-key name points i key h = rw h.read refl

-- ---- lists that rise

-- one element more at the end
pub slice_get-front : {X : Type 0} (xs : List X) (y : X) (i : ℕ) → i < length xs → slice_get (xs ++ y ∷ []) i ≡ slice_get xs i
slice_get-front [] y i lt = absurd (omega arith)
slice_get-front (x ∷ xs) y zero lt = refl
slice_get-front (x ∷ xs) y (suc i) lt = slice_get-front xs y i (omega arith)

-- the one at the end
pub slice_get-end : {X : Type 0} (xs : List X) (y : X) → slice_get (xs ++ y ∷ []) (length xs) ≡ Some y
slice_get-end [] y = refl
slice_get-end (x ∷ xs) y = slice_get-end xs y

-- one more that is above the last
pub rising_push : {X : Type 0} (name : X → Name) (xs : List X) (y : X) → IsRisingBy name xs
    → ((i : ℕ) (x : X) → i + 1 ≡ length xs → slice_get xs i ≡ Some x → name_cmp (name x) (name y) ≡ Less) → IsRisingBy name (xs ++ y ∷ [])
rising_push name xs y rising last i j a b lt p q =
    elim (cases_order j (length xs)) [
      | inl at_end ↦
          (let end : slice_get (xs ++ y ∷ []) (length xs) ≡ Some y = slice_get-end xs y in
          let is : y ≡ b = (let e : Some b ≡ Some y = sym q ∙ ap (slice_get (xs ++ y ∷ [])) at_end ∙ end in cc) in
          rw (← is) (below_end i a (omega arith) (sym (slice_get-front xs y i (omega arith)) ∙ p)))
      | inr (inl before) ↦ rising i j a b lt (sym (slice_get-front xs y i (omega arith)) ∙ p) (sym (slice_get-front xs y j before) ∙ q)
      | inr (inr behind) ↦ absurd (let within = slice_get_within (xs ++ y ∷ []) j b q in omega (arith, length-append xs (y ∷ [])))
    ]
  where
    below_end : (i : ℕ) (a : _) → i < length xs → slice_get xs i ≡ Some a → name_cmp (name a) (name y) ≡ Less
    below_end i a within is =
        elim (cases_order (i + 1) (length xs)) [
          | inl at_last ↦ last i a at_last is
          | inr (inl before) ↦
              (let n = length xs - 1 in
              let c = slice_get_cases xs n in
              elim c.1 [
                | inl there ↦ name_cmp-total.trans (name a) (name there.0) (name y) (rising i n a there.0 (omega arith) is there.2) (last n there.0 (omega arith) there.2)
                | inr past ↦ absurd (let le = past.0 in omega arith)
              ])
          | inr (inr behind) ↦ absurd (omega arith)
        ]

-- rising points are sorted by name
pub sorted-rising : (points : List Point) → IsRising points → IsStrictlySortedBy point_cmp points
unfolding IsStrictlySortedBy
sorted-rising [] rising = tt
sorted-rising (p ∷ ps) rising = (each ps (rising-first (λ (q : Point). q.name) p ps rising), sorted-rising ps (rising_rest (λ (q : Point). q.name) p ps rising))
  where
    each : (qs : List Point) → ((i : ℕ) (q : Point) → slice_get qs i ≡ Some q → name_cmp p.name q.name ≡ Less) → AllByRecursion (λ q. point_cmp p q ≡ Less) qs
    each [] h = tt
    each (q ∷ qs) h = (h 0 q refl, each qs (λ i r is. h (suc i) r is))

-- points that are sorted by name rise
pub rising-sorted : (points : List Point) → IsStrictlySortedBy point_cmp points → IsRising points
unfolding IsStrictlySortedBy
rising-sorted [] sorted i j p q lt a b = absurd cc
rising-sorted (p ∷ ps) sorted zero zero a b lt is there = absurd (omega arith)
rising-sorted (p ∷ ps) sorted zero (suc j) a b lt is there = (let same : p ≡ a = cc in rw (← same) (each ps sorted.0 j b there))
  where
    each : (qs : List Point) → AllByRecursion (λ q. point_cmp p q ≡ Less) qs → (i : ℕ) (q : Point) → slice_get qs i ≡ Some q → name_cmp p.name q.name ≡ Less
    each [] h i q is = absurd cc
    each (q ∷ qs) h zero r is = (let same : q ≡ r = cc in rw (← same) h.0)
    each (q ∷ qs) h (suc i) r is = each qs h.1 i r is
rising-sorted (p ∷ ps) sorted (suc i) zero a b lt is there = absurd (omega arith)
rising-sorted (p ∷ ps) sorted (suc i) (suc j) a b lt is there = rising-sorted ps sorted.1 i j a b (omega arith) is there

-- the order of points is total
pub point_cmp-total : IsTotalOrder point_cmp
point_cmp-total = on_total (λ p. p.name) name_cmp-total

-- points that are put in order rise
pub rising-in_order : (points : List Point) → IsRising (in_order point_cmp points)
rising-in_order points = rising-sorted (in_order point_cmp points) (in_order-sorted point_cmp-total points)

-- ---- the point of a name

-- of points in order the first of a name is the first of that name among all
pub named-in_order : (name : Name) (points : List Point) → find (λ p. is_same_name p.name name) (in_order point_cmp points) ≡ find (λ p. is_same_name p.name name) points
named-in_order name = find-in_order point_cmp (λ p. is_same_name p.name name) alike one
  where
    alike : (p q : Point) → point_cmp p q ≡ Equal → is_same_name p.name name ≡ is_same_name q.name name
    alike p q tie = ap is_eq (name_cmp-total.congr p.name q.name name tie)

    one : (p q : Point) → is_same_name p.name name ≡ true → is_same_name q.name name ≡ true → point_cmp p q ≡ Equal
    one p q h k =
        name_cmp-total.congr p.name name q.name ((Equal-is (name_cmp p.name name)).0 h)
        ∙ tied_back name_cmp-total q.name name ((Equal-is (name_cmp q.name name)).0 k)
