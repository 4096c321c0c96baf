use Rattle.std.proofs.Common.{◌≡◌, ℕ, ◌+◌, ◌-◌, ◌/◌, ◌<◌, ◌≤◌, List, length, sym, subst, ◌∙◌, arith, inl, inr, Bool, true, false}
use Rattle.std.specs.Prelude.{Option, Some, IfSome, slice_get}
use Rattle.std.proofs.lemmas.Option.{slice_get_cases}
use Rattle.mvcc_key.specs.Encoded.{name_in}
use Rattle.mvcc_key.specs.views.Looks.{bits}
use Rattle.mvcc_key.specs.Points.{Point, is_below_name}
use Rattle.mvcc_key.specs.Order.{Name}
use Rattle.mvcc_key.proofs.LookLaws.{bits-half}
use Rattle.mvcc_key.proofs.PointLaws.{IsNarrowed-below, IsNarrowed-above, count_below-narrowed}
use Rattle.mvcc_key.proofs.pairs.pairs_below.Goals as goal

-- the point in the middle, and whether it is below
record Middle (points : List Point) (name : Name) (i : ℕ) (below : Bool) : Type 0 where
  point : Point
  here : slice_get points i ≡ Some point
  is_below : is_below_name name point ≡ below

middle-point : (points : List Point) (name : Name) (i : ℕ) (below : Bool) → i < length points → IfSome (slice_get points i) (λ p. below ≡ is_below_name name p) → Middle points name i below
middle-point points name i below within answer =
    elim (slice_get_cases points i).1 [
      | inl h ↦ record { point = h.0; here = h.2; is_below = sym (subst (λ (o : Option Point). IfSome o (λ p. below ≡ is_below_name name p)) h.2 answer) }
      | inr h ↦ absurd (let past = h.0 in omega arith)
    ]

pub loop-low-preserved-then-is_below : goal.loop-low-preserved-then-is_below
loop-low-preserved-then-is_below g c =
    let points = g.P.SortedPairs.points c.args.pairs.now in
    let name = name_in c.args.sought.now in
    let low = c.loop-low.low in
    let high = c.loop-low.high in
    let middle = low + (high - low) / 2 in
    let h = middle-point points name middle c.is_below.result (omega arith) c.is_below.ensures.answer in
    let below : is_below_name name h.point ≡ true = h.is_below ∙ c.if-is_below.true in
    let half : bits (high - (middle + 1)) + 1 ≤ bits (high - low) = bits-half _ _ (omega arith) (omega arith) in
    record {
      narrowed = IsNarrowed-below name points low high middle h.point (g.met.P.SortedPairs.rising c.args.pairs.now) c.loop-low.invariant.narrowed (omega arith) h.here below;
      bound = omega arith;
      later = omega arith;
      some = inr (λ some. omega arith);
    }

pub loop-low-preserved : goal.loop-low-preserved
loop-low-preserved g c =
    let points = g.P.SortedPairs.points c.args.pairs.now in
    let name = name_in c.args.sought.now in
    let low = c.loop-low.low in
    let high = c.loop-low.high in
    let middle = low + (high - low) / 2 in
    let h = middle-point points name middle c.is_below.result (omega arith) c.is_below.ensures.answer in
    let below : is_below_name name h.point ≡ false = h.is_below ∙ c.if-is_below.false in
    let half : bits (middle - low) + 1 ≤ bits (high - low) = bits-half _ _ (omega arith) (omega arith) in
    record {
      narrowed = IsNarrowed-above name points low high middle h.point (g.met.P.SortedPairs.rising c.args.pairs.now) c.loop-low.invariant.narrowed (omega arith) (omega arith) h.here below;
      bound = omega arith;
      later = omega arith;
      some = inr (λ some. omega arith);
    }

pub returns-clause-count : goal.returns-clause-count
returns-clause-count g c =
    sym (count_below-narrowed (name_in c.args.sought.now) (g.P.SortedPairs.points c.args.pairs.now) c.loop-low.low c.loop-low.high c.loop-low.invariant.narrowed (omega arith))
