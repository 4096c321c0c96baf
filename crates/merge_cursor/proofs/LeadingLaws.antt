-- Finding the point that comes first one place at a time.
use Rattle.std.proofs.Common.{◌≡◌, ℕ, ◌+◌, ◌<◌, ◌≤◌, ◌⊎◌, Bool, true, false, List, length, refl, ap, arith, inl, inr}
use Rattle.std.specs.Prelude.{Some, None, IsSome}
use Rattle.std.specs.declared.option.Option.{Option}
use Rattle.std.specs.Option.{option_and_then}
use Rattle.std.proofs.lemmas.Option.{slice_get_past}
use Rattle.std.proofs.lemmas.Bool.{cases_order}
use Rattle.mvcc_key.specs.Order.{is_same_name}
use Rattle.mvcc_key.specs.Points.{Point}
use Rattle.merge_cursor.specs.views.Standing.{head_of, leads, IsLeading}
use Rattle.merge_cursor.proofs.OrderLaws.{precedes-trans, precedes-itself, is_same_name-one}

-- what comes before one that comes before a third comes before it
leads-trans : (ahead : Bool) (a b c : Option Point) → leads ahead a b ≡ true → leads ahead b c ≡ true → leads ahead a c ≡ true
leads-trans ahead None b c h k = absurd cc
leads-trans ahead (Some p) None c h k = absurd cc
leads-trans ahead (Some p) (Some q) None h k = refl
leads-trans ahead (Some p) (Some q) (Some r) h k = precedes-trans ahead p.name q.name r.name h k

leads-itself : (ahead : Bool) (a : Option Point) → leads ahead a a ≡ false
leads-itself ahead None = refl
leads-itself ahead (Some p) = precedes-itself ahead p.name

leads-some : (ahead : Bool) (a b : Option Point) → leads ahead a b ≡ true → IsSome a
leads-some ahead None b h = absurd cc
leads-some ahead (Some p) b h = refl

-- a point of the same name comes before the same ones
leads-same : (ahead : Bool) (p q : Point) (c : Option Point) → p.name ≡ q.name → leads ahead (Some q) c ≡ true → leads ahead (Some p) c ≡ true
leads-same ahead p q None same h = refl
leads-same ahead p q (Some r) same h = rw same h

-- not true
pub refused : (b : Bool) → (b ≡ true → ⊥) → b ≡ false
refused true h = absurd (h refl)
refused false h = refl

-- past the end there is none
pub head_of-past : (points : List (Option Point)) (i : ℕ) → length points ≤ i → head_of points i ≡ None
head_of-past points i past = ap (option_and_then (λ p. p)) (slice_get_past points i past)

-- the first of the first n
pub record IsLeadingAmong (ahead : Bool) (points : List (Option Point)) (i n : ℕ) : Type 0 where
  pub within : i ≤ length points
  pub reached : (i < n) ⊎ (i ≡ length points)
  pub some : i < length points → IsSome (head_of points i)
  pub least : (j : ℕ) → j < n → leads ahead (head_of points j) (head_of points i) ≡ false
  pub first : (j : ℕ) (p q : Point) → j < i → j < n → head_of points j ≡ Some p → head_of points i ≡ Some q → is_same_name p.name q.name ≡ false

-- one that comes before the first so far
pub leading-better : (ahead : Bool) (points : List (Option Point)) (i n : ℕ) → n < length points → IsLeadingAmong ahead points i n
    → leads ahead (head_of points n) (head_of points i) ≡ true → IsLeadingAmong ahead points n (n + 1)
leading-better ahead points i n lt so_far better = record {
  within = omega arith;
  reached = inl (omega arith);
  some = λ h. leads-some ahead (head_of points n) (head_of points i) better;
  least = λ j under. elim (cases_order j n) [
    | inl same ↦ rw same (leads-itself ahead (head_of points n))
    | inr (inl before) ↦ refused _ (λ h. (let no = so_far.least j before in let yes = leads-trans ahead (head_of points j) (head_of points n) (head_of points i) h better in cc))
    | inr (inr behind) ↦ absurd (omega arith)
  ];
  first = λ j p q before under at here. refused _ (λ h.
      (let no = so_far.least j before in
      let ahead_of : leads ahead (Some q) (head_of points i) ≡ true = rw (← here) better in
      let yes : leads ahead (head_of points j) (head_of points i) ≡ true = rw at (leads-same ahead p q (head_of points i) (is_same_name-one p.name q.name h) ahead_of) in
      cc));
}

-- one that does not
pub leading-kept : (ahead : Bool) (points : List (Option Point)) (i n : ℕ) → IsLeadingAmong ahead points i n
    → leads ahead (head_of points n) (head_of points i) ≡ false → IsLeadingAmong ahead points i (n + 1)
leading-kept ahead points i n so_far worse = record {
  within = so_far.within;
  reached = elim so_far.reached [ inl under ↦ inl (omega arith) | inr past ↦ inr past ];
  some = so_far.some;
  least = λ j under. elim (cases_order j n) [
    | inl same ↦ rw same worse
    | inr (inl before) ↦ so_far.least j before
    | inr (inr behind) ↦ absurd (omega arith)
  ];
  first = λ j p q before under at here. elim (cases_order j n) [
    | inl same ↦ elim so_far.reached [
      | inl reached ↦ absurd (omega arith)
      | inr past ↦ absurd (let none = head_of-past points i (omega arith) in cc)
    ]
    | inr (inl earlier) ↦ so_far.first j p q before earlier at here
    | inr (inr behind) ↦ absurd (omega arith)
  ];
}

-- after all were looked at
pub leading-all : (ahead : Bool) (points : List (Option Point)) (i n : ℕ) → length points ≤ n → IsLeadingAmong ahead points i n → IsLeading ahead points i
leading-all ahead points i n all so_far = record {
  within = so_far.within;
  some = so_far.some;
  least = λ j. elim (cases_order j n) [
    | inl same ↦ rw (head_of-past points j (omega arith)) refl
    | inr (inl before) ↦ so_far.least j before
    | inr (inr behind) ↦ rw (head_of-past points j (omega arith)) refl
  ];
  first = λ j p q before at here. so_far.first j p q before (let w = so_far.within in omega arith) at here;
}
