-- The points of rising lists that stand behind a place.
use Rattle.std.proofs.Common.{◌≡◌, ℕ, zero, suc, ◌+◌, ◌<◌, ◌≤◌, Bool, true, false, cond, List, [], ◌∷◌, length, refl, sym, ap, subst, ◌∙◌, arith, inl, inr}
use Rattle.std.specs.Prelude.{slice_get, Some, None}
use Rattle.std.specs.List.{AllByRecursion}
use Rattle.std.specs.declared.option.Option.{Option}
use Rattle.std.specs.declared.cmp.Ordering.{Ordering}
use Rattle.std.specs.declared.cmp.Ordering.TheVariants.{Less, Equal, Greater}
use Rattle.std.specs.Ordering.{is_lt, is_le}
use Rattle.std.proofs.lemmas.Bool.{cases_order}
use Rattle.std.proofs.lemmas.Cmp.{tied_itself, alike_right}
use Rattle.std.proofs.lemmas.List.Sums.{sum_by-cons}
use Rattle.std.proofs.lemmas.Option.{slice_get_within}
use Rattle.mvcc_key.specs.Order.{Name, name_cmp}
use Rattle.mvcc_key.specs.Points.{Point, IsRising, point_at, count_below}
use Rattle.mvcc_key.proofs.OrderLaws.{name_cmp-total}
use Rattle.mvcc_key.proofs.PointLaws.{rising_rest, rising-first, point_at-next, point_at-none}
use Rattle.mvcc_key.proofs.TimeLaws.{less_from}
use Rattle.merge_cursor.specs.views.Standing.{count_in}
use Rattle.merge_cursor.specs.views.Moves.{cut_past, cut_before}
use Rattle.merge_cursor.proofs.OrderLaws.{back-greater}
use Rattle.merge_cursor.proofs.LeadingLaws.{refused}

-- ---- cuts

-- what is below a name behind is behind too
pub record IsCut (cut : Name → Bool) : Type 0 where
  pub down : (a b : Name) → name_cmp a b ≡ Less → cut b ≡ true → cut a ≡ true

-- the names below one
pub below-IsCut : (n : Name) → IsCut (λ m. is_lt (name_cmp m n))
below-IsCut n = record { down = λ a b h k. ap is_lt (name_cmp-total.trans a b n h (less_from (name_cmp b n) k)) }

-- the names up to one
pub up_to-IsCut : (n : Name) → IsCut (λ m. is_le (name_cmp m n))
up_to-IsCut n = record { down = down }
  where
    by : (o : Ordering) (a b : Name) → name_cmp b n ≡ o → name_cmp a b ≡ Less → is_le o ≡ true → is_le (name_cmp a n) ≡ true
    by Less a b is h k = ap is_le (name_cmp-total.trans a b n h is)
    by Equal a b is h k = ap is_le (sym (alike_right name_cmp-total b n a is) ∙ h)
    by Greater a b is h k = absurd cc

    down : (a b : Name) → name_cmp a b ≡ Less → is_le (name_cmp b n) ≡ true → is_le (name_cmp a n) ≡ true
    down a b h k = by (name_cmp b n) a b refl h k

-- all names, or none
pub constant-IsCut : (b : Bool) → IsCut (λ _. b)
constant-IsCut b = record { down = λ _ _ _ h. h }

-- the names that are left behind on the way on, and on the way back
pub cut_past-IsCut : (ahead : Bool) (o : Option Point) → IsCut (cut_past ahead o)
cut_past-IsCut ahead None = constant-IsCut ahead
cut_past-IsCut ahead (Some p) = up_to-IsCut p.name

pub cut_before-IsCut : (ahead : Bool) (o : Option Point) → IsCut (cut_before ahead o)
cut_before-IsCut ahead None = constant-IsCut ahead
cut_before-IsCut ahead (Some p) = below-IsCut p.name

-- ---- how many points are behind

pub count_in-yes : (cut : Name → Bool) (p : Point) (ps : List Point) → cut p.name ≡ true → count_in cut (p ∷ ps) ≡ suc (count_in cut ps)
count_in-yes cut p ps h = sum_by-cons (λ (q : Point). cond (cut q.name) 1 0) p ps ∙ ap (λ (b : Bool). cond b 1 0 + count_in cut ps) h ∙ omega arith

pub count_in-no : (cut : Name → Bool) (p : Point) (ps : List Point) → cut p.name ≡ false → count_in cut (p ∷ ps) ≡ count_in cut ps
count_in-no cut p ps h = sum_by-cons (λ (q : Point). cond (cut q.name) 1 0) p ps ∙ ap (λ (b : Bool). cond b 1 0 + count_in cut ps) h ∙ omega arith

-- no more than there are
pub count_in-le : (cut : Name → Bool) (ps : List Point) → count_in cut ps ≤ length ps
count_in-le cut [] = omega arith
count_in-le cut (p ∷ ps) = by (cut p.name) refl (count_in-le cut ps)
  where
    by : (b : Bool) → cut p.name ≡ b → count_in cut ps ≤ length ps → count_in cut (p ∷ ps) ≤ length (p ∷ ps)
    by true h le = rw (count_in-yes cut p ps h) (omega arith)
    by false h le = rw (count_in-no cut p ps h) (omega arith)

-- cuts that agree on the points count the same
pub count_in-agree : (cut other : Name → Bool) (ps : List Point) → AllByRecursion (λ p. cut p.name ≡ other p.name) ps → count_in cut ps ≡ count_in other ps
count_in-agree cut other [] h = refl
count_in-agree cut other (p ∷ ps) h =
    sum_by-cons (λ (q : Point). cond (cut q.name) 1 0) p ps
    ∙ ap (λ (b : Bool). cond b 1 0 + count_in cut ps) h.0
    ∙ ap (λ (n : ℕ). cond (other p.name) 1 0 + n) (count_in-agree cut other ps h.1)
    ∙ sym (sum_by-cons (λ (q : Point). cond (other q.name) 1 0) p ps)

-- all are counted, or none
pub count_in-all : (ps : List Point) → count_in (λ _. true) ps ≡ length ps
count_in-all [] = refl
count_in-all (p ∷ ps) = count_in-yes (λ _. true) p ps refl ∙ ap suc (count_in-all ps)

pub count_in-none : (ps : List Point) → count_in (λ _. false) ps ≡ 0
count_in-none [] = refl
count_in-none (p ∷ ps) = count_in-no (λ _. false) p ps refl ∙ count_in-none ps

-- those below a name
pub count_in-below : (n : Name) (ps : List Point) → count_in (λ m. is_lt (name_cmp m n)) ps ≡ count_below n ps
unfolding count_below
count_in-below n ps = refl

-- ---- where they stand

-- the points before the place are behind, and those from it on are not
pub record IsPlaced (cut : Name → Bool) (ps : List Point) (n : ℕ) : Type 0 where
  pub within : n ≤ length ps
  pub below : (i : ℕ) (p : Point) → i < n → slice_get ps i ≡ Some p → cut p.name ≡ true
  pub above : (i : ℕ) (p : Point) → n ≤ i → slice_get ps i ≡ Some p → cut p.name ≡ false

none_in : (cut : Name → Bool) (ps : List Point) → ((i : ℕ) (p : Point) → slice_get ps i ≡ Some p → cut p.name ≡ false) → count_in cut ps ≡ 0
none_in cut [] h = refl
none_in cut (p ∷ ps) h = count_in-no cut p ps (h 0 p refl) ∙ none_in cut ps (λ i q is. h (suc i) q is)

-- of rising points those behind are the first ones
pub placed : (cut : Name → Bool) (ps : List Point) → IsCut cut → IsRising ps → IsPlaced cut ps (count_in cut ps)
placed cut [] c rising = record { within = omega arith; below = λ i p lt is. absurd cc; above = λ i p le is. absurd cc }
placed cut (p ∷ ps) c rising = by (cut p.name) refl (placed cut ps c (rising_rest (λ (q : Point). q.name) p ps rising))
  where
    by : (b : Bool) → cut p.name ≡ b → IsPlaced cut ps (count_in cut ps) → IsPlaced cut (p ∷ ps) (count_in cut (p ∷ ps))
    by true h rest = subst (IsPlaced cut (p ∷ ps)) (sym (count_in-yes cut p ps h)) (record {
      within = (let w = rest.within in omega arith);
      below = below;
      above = above;
    })
      where
        below : (i : ℕ) (q : Point) → i < suc (count_in cut ps) → slice_get (p ∷ ps) i ≡ Some q → cut q.name ≡ true
        below zero q lt is = (let same : p ≡ q = cc in rw (← same) h)
        below (suc i) q lt is = rest.below i q (omega arith) is

        above : (i : ℕ) (q : Point) → suc (count_in cut ps) ≤ i → slice_get (p ∷ ps) i ≡ Some q → cut q.name ≡ false
        above zero q le is = absurd (omega arith)
        above (suc i) q le is = rest.above i q (omega arith) is
    by false h rest = subst (IsPlaced cut (p ∷ ps)) (sym none) (record {
      within = omega arith;
      below = λ i q lt is. absurd (omega arith);
      above = above;
    })
      where
        later : (i : ℕ) (q : Point) → slice_get ps i ≡ Some q → cut q.name ≡ false
        later i q is = refused (cut q.name) (λ k. (let yes = c.down p.name q.name (rising-first (λ (r : Point). r.name) p ps rising i q is) k in cc))

        none : count_in cut (p ∷ ps) ≡ 0
        none = count_in-no cut p ps h ∙ none_in cut ps later

        above : (i : ℕ) (q : Point) → 0 ≤ i → slice_get (p ∷ ps) i ≡ Some q → cut q.name ≡ false
        above zero q le is = (let same : p ≡ q = cc in rw (← same) h)
        above (suc i) q le is = later i q is

-- ---- the points round the place

-- the point in front of those behind: each other one in front is not below it, and where there is none all are behind
abbrev pub IsFront : (Name → Bool) → Option Point → List Point → Type 0
IsFront cut (Some q) ps = (cut q.name ≡ false) × ((i : ℕ) (r : Point) → slice_get ps i ≡ Some r → cut r.name ≡ false → is_lt (name_cmp r.name q.name) ≡ false)
IsFront cut None ps = (i : ℕ) (r : Point) → slice_get ps i ≡ Some r → cut r.name ≡ true

-- the last point of those behind: each other one is not above it, and where there is none all are in front
abbrev pub IsLast : (Name → Bool) → Option Point → List Point → Type 0
IsLast cut (Some q) ps = (cut q.name ≡ true) × ((i : ℕ) (r : Point) → slice_get ps i ≡ Some r → cut r.name ≡ true → is_lt (name_cmp q.name r.name) ≡ false)
IsLast cut None ps = (i : ℕ) (r : Point) → slice_get ps i ≡ Some r → cut r.name ≡ false

-- the point at the place in front
pub front-at : (cut : Name → Bool) (ps : List Point) (o : Option Point) → IsCut cut → IsRising ps → point_at ps (count_in cut ps + 1) ≡ o → IsFront cut o ps
front-at cut ps None c rising at =
    λ i r is. (let p = placed cut ps c rising in
    let past = point_at-none ps (count_in cut ps + 1) at (omega arith) in
    let within = slice_get_within ps i r is in
    p.below i r (omega arith) is)
front-at cut ps (Some q) c rising at = (p.above (count_in cut ps) q (omega arith) here, others)
  where
    p : IsPlaced cut ps (count_in cut ps)
    p = placed cut ps c rising

    here : slice_get ps (count_in cut ps) ≡ Some q
    here = sym (point_at-next ps (count_in cut ps)) ∙ at

    others : (i : ℕ) (r : Point) → slice_get ps i ≡ Some r → cut r.name ≡ false → is_lt (name_cmp r.name q.name) ≡ false
    others i r is not =
        elim (cases_order (count_in cut ps) i) [
          | inl same ↦ (let one : Some r ≡ Some q = sym is ∙ ap (slice_get ps) (sym same) ∙ here in let point : r ≡ q = cc in rw point (ap is_lt (tied_itself name_cmp-total q.name)))
          | inr (inl before) ↦ ap is_lt (back-greater q.name r.name (rising (count_in cut ps) i q r before here is))
          | inr (inr behind) ↦ absurd (let yes = p.below i r behind is in cc)
        ]

-- the point at the place of the last one behind
pub last-at : (cut : Name → Bool) (ps : List Point) (o : Option Point) → IsCut cut → IsRising ps → point_at ps (count_in cut ps) ≡ o → IsLast cut o ps
last-at cut ps o c rising at = by (count_in cut ps) o (placed cut ps c rising) at
  where
    by : (n : ℕ) (h : Option Point) → IsPlaced cut ps n → point_at ps n ≡ h → IsLast cut h ps
    by zero None p is = λ i r there. p.above i r (omega arith) there
    by zero (Some q) p is = absurd cc
    by (suc n) None p is = absurd (let past = point_at-none ps (suc n) is (omega arith) in let w = p.within in omega arith)
    by (suc n) (Some q) p is =
        let here : slice_get ps n ≡ Some q = sym (point_at-next ps n) ∙ ap (point_at ps) (omega arith) ∙ is in (
          p.below n q (omega arith) here,
          λ i r there yes. elim (cases_order i n) [
            | inl same ↦ (let one : Some r ≡ Some q = sym there ∙ ap (slice_get ps) same ∙ here in let point : r ≡ q = cc in rw point (ap is_lt (tied_itself name_cmp-total q.name)))
            | inr (inl before) ↦ ap is_lt (back-greater r.name q.name (rising i n r q before there here))
            | inr (inr behind) ↦ absurd (let not = p.above i r (omega arith) there in cc)
          ],
        )
