-- The place of a name that was found among points.
use Rattle.std.proofs.Common.{◌≡◌, ℕ, zero, suc, ◌+◌, ◌<◌, Bool, true, false, List, [], ◌∷◌, length, refl, sym, ap, subst, ◌∙◌, arith}
use Rattle.std.specs.Prelude.{slice_get, Some, None}
use Rattle.std.specs.List.Sorted.{IsStrictlySortedBy}
use Rattle.std.specs.declared.cmp.Ordering.{Ordering}
use Rattle.std.specs.declared.cmp.Ordering.TheVariants.{Less, Equal, Greater}
use Rattle.std.specs.Ordering.{is_lt, is_eq, ordering_reverse}
use Rattle.std.proofs.lemmas.Cmp.{tied_back}
use Rattle.mvcc_key.specs.Order.{Name, name_cmp, is_same_name}
use Rattle.mvcc_key.specs.Points.{Point, point_cmp, IsRising, is_below_name, count_below}
use Rattle.mvcc_key.proofs.OrderLaws.{name_cmp-total}
use Rattle.mvcc_key.proofs.PointLaws.{point_cmp-total, sorted-rising}
use Rattle.mem_table.specs.views.Places.{IsRangeBy}
use Rattle.mem_table.proofs.OrderedLaws.{below_all, tied_all}
use Rattle.mem_table.proofs.CountLaws.{count-nil, count-yes, count-none, behind-not}

-- a point under a name
abbrev named : Name → Point
named name = record { name = name; value = None }

less_of : (o : Ordering) → is_lt o ≡ true → o ≡ Less
less_of Less h = refl
less_of Equal h = absurd cc
less_of Greater h = absurd cc

equal_of : (o : Ordering) → is_eq o ≡ true → o ≡ Equal
equal_of Less h = absurd cc
equal_of Equal h = refl
equal_of Greater h = absurd cc

greater_of : (o : Ordering) → is_lt o ≡ false → is_eq o ≡ false → o ≡ Greater
greater_of Less h k = absurd cc
greater_of Equal h k = absurd cc
greater_of Greater h k = refl

-- where none is below a name none is counted, and where the first is, one more
none_counted : (name : Name) (q : Point) (qs : List Point) → IsStrictlySortedBy point_cmp (q ∷ qs) → is_below_name name q ≡ false → count_below name (q ∷ qs) ≡ 0
unfolding IsStrictlySortedBy
none_counted name q qs sorted not = count-none name (q ∷ qs) (not, behind-not name q qs not sorted.0)

-- the first is below the name exactly where some are
first_below : (name : Name) (q : Point) (qs : List Point) (low : ℕ) → IsStrictlySortedBy point_cmp (q ∷ qs) → suc low ≡ count_below name (q ∷ qs)
    → (is_below_name name q ≡ true) × (low ≡ count_below name qs)
first_below name q qs low sorted is = by (is_below_name name q) refl
  where
    by : (b : Bool) → is_below_name name q ≡ b → (is_below_name name q ≡ true) × (low ≡ count_below name qs)
    by true h = (h, (let more = count-yes name q qs h in omega arith))
    by false h = absurd (let none = none_counted name q qs sorted h in omega arith)

first_not : (name : Name) (q : Point) (qs : List Point) → 0 ≡ count_below name (q ∷ qs) → is_below_name name q ≡ false
first_not name q qs is = by (is_below_name name q) refl
  where
    by : (b : Bool) → is_below_name name q ≡ b → is_below_name name q ≡ false
    by true h = absurd (let more = count-yes name q qs h in omega arith)
    by false h = h

-- the range of a name that stands at the place behind those below it
pub found-known : (name : Name) (points : List Point) (low : ℕ) → IsStrictlySortedBy point_cmp points → low ≡ count_below name points → low < length points
    → ((p : Point) → slice_get points low ≡ Some p → is_same_name p.name name ≡ true) → IsRangeBy Point (λ p. p.name) name points low (suc low)
unfolding IsStrictlySortedBy
found-known name [] low sorted is within at = absurd (omega arith)
found-known name (q ∷ qs) zero sorted is within at =
    let tied : name_cmp q.name name ≡ Equal = equal_of (name_cmp q.name name) (at q refl) in
    let back : name_cmp name q.name ≡ Equal = tied_back name_cmp-total q.name name tied in
    record {
      ordered = omega arith;
      one = omega arith;
      within = omega arith;
      below = tt;
      tied = λ some p here. (let same : q ≡ p = cc in subst (λ (r : Point). name_cmp name r.name ≡ Equal) same back);
      above = tied_all point_cmp-total (named name) q qs back sorted.0;
    }
found-known name (q ∷ qs) (suc low) sorted is within at =
    let first = first_below name q qs low sorted is in
    let rest = found-known name qs low sorted.1 first.1 (omega arith) at in
    record {
      ordered = omega arith;
      one = omega arith;
      within = omega arith;
      below = (less_of (name_cmp q.name name) first.0, rest.below);
      tied = λ some p here. rest.tied (omega arith) p here;
      above = rest.above;
    }

-- and of one that does not
pub found-new : (name : Name) (points : List Point) (low : ℕ) → IsStrictlySortedBy point_cmp points → low ≡ count_below name points
    → ((p : Point) → slice_get points low ≡ Some p → is_same_name p.name name ≡ false) → IsRangeBy Point (λ p. p.name) name points low low
unfolding IsStrictlySortedBy
found-new name [] zero sorted is at = record { ordered = omega arith; one = omega arith; within = omega arith; below = tt; tied = λ some p here. absurd (omega arith); above = tt }
found-new name [] (suc low) sorted is at = absurd (let none = count-nil name in omega arith)
found-new name (q ∷ qs) zero sorted is at =
    let greater : name_cmp q.name name ≡ Greater = greater_of (name_cmp q.name name) (first_not name q qs is) (at q refl) in
    let before : name_cmp name q.name ≡ Less = name_cmp-total.antisymm name q.name ∙ ap ordering_reverse greater in
    record {
      ordered = omega arith;
      one = omega arith;
      within = omega arith;
      below = tt;
      tied = λ some p here. absurd (omega arith);
      above = (before, below_all point_cmp-total (named name) q qs before sorted.0);
    }
found-new name (q ∷ qs) (suc low) sorted is at =
    let first = first_below name q qs low sorted is in
    let rest = found-new name qs low sorted.1 first.1 at in
    record {
      ordered = omega arith;
      one = omega arith;
      within = (let w = rest.within in omega arith);
      below = (less_of (name_cmp q.name name) first.0, rest.below);
      tied = λ some p here. absurd (omega arith);
      above = rest.above;
    }

-- the same by a test at the place
pub place-known : (name : Name) (points : List Point) (low : ℕ) (test : Bool) → IsRising points → low ≡ count_below name points → (test ≡ true → low < length points) → test ≡ true
    → ((p : Point) → slice_get points low ≡ Some p → test ≡ is_same_name p.name name) → IsRangeBy Point (λ p. p.name) name points low (low + 1)
place-known name points low test rising is within holds at =
    let next : suc low ≡ low + 1 = omega arith in
    subst (IsRangeBy Point (λ p. p.name) name points low) next
    (found-known name points low (sorted-rising points rising) is (within holds) (λ p here. sym (at p here) ∙ holds))

pub place-new : (name : Name) (points : List Point) (low : ℕ) (test : Bool) → IsRising points → low ≡ count_below name points → test ≡ false
    → ((p : Point) → slice_get points low ≡ Some p → test ≡ is_same_name p.name name) → IsRangeBy Point (λ p. p.name) name points low low
place-new name points low test rising is fails at = found-new name points low (sorted-rising points rising) is (λ p here. sym (at p here) ∙ fails)
