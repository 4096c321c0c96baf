-- The place of a name among points.
use Rattle.std.proofs.Common.{◌≡◌, ℕ, zero, suc, ◌<◌, ◌≤◌, cond, List, [], ◌∷◌, length, take, drop, refl, sym, ap, subst, ◌∙◌, arith}
use Rattle.std.specs.Prelude.{slice_get, Some, None}
use Rattle.std.specs.declared.option.Option.{Option}
use Rattle.std.specs.Option.{option_map, option_and_then}
use Rattle.std.specs.List.{AllByRecursion}
use Rattle.std.specs.declared.cmp.Ordering.{Ordering}
use Rattle.std.specs.declared.cmp.Ordering.TheVariants.{Less, Greater}
use Rattle.std.specs.Ordering.{is_eq, ordering_reverse}
use Rattle.std.proofs.lemmas.Cmp.{tied_back}
use Rattle.std.proofs.lemmas.List.{length-map, take-map, drop-map}
use Rattle.std.proofs.lemmas.Option.{slice_get-map}
use Rattle.mvcc_key.specs.Order.{Name, name_cmp}
use Rattle.mvcc_key.specs.Points.{Point}
use Rattle.mvcc_key.specs.views.SeenPoint.{point_of, points_of}
use Rattle.mvcc_key.specs.declared.batch.PointOp.{PointOp}
use Rattle.mvcc_key.proofs.OrderLaws.{name_cmp-total}
use Rattle.mem_table.specs.views.Places.{IsRangeBy, IsRangeOf}
use Rattle.mem_table.specs.Table.{state_of}

-- ---- the range of a name among operations and among their points

seen_each : (P : Point → Type 0) (ops : List PointOp) → AllByRecursion P (points_of ops) → AllByRecursion (λ op. P (point_of op)) ops
seen_each P [] h = tt
seen_each P (op ∷ ops) h = (h.0, seen_each P ops h.1)

-- the operations of a range of points
pub seen-range : (name : Name) (ops : List PointOp) (low high : ℕ) → IsRangeBy Point (λ p. p.name) name (points_of ops) low high → IsRangeOf name ops low high
seen-range name ops low high r = record {
  ordered = r.ordered;
  one = r.one;
  within = (let w = r.within in omega (arith, length-map ops point_of));
  below = seen_each (λ p. name_cmp p.name name ≡ Less) (take low ops)
      (subst (AllByRecursion (λ (p : Point). name_cmp p.name name ≡ Less)) (take-map point_of low ops) r.below);
  tied = λ some op is. r.tied some (point_of op) (slice_get-map point_of ops low ∙ ap (option_map point_of) is);
  above = seen_each (λ p. name_cmp name p.name ≡ Less) (drop high ops)
      (subst (AllByRecursion (λ (p : Point). name_cmp name p.name ≡ Less)) (drop-map point_of high ops) r.above);
}

-- ---- what is known of the name

greater_back : (m n : Name) → name_cmp m n ≡ Less → name_cmp n m ≡ Greater
greater_back m n h = name_cmp-total.antisymm n m ∙ ap ordering_reverse h

-- of a name below all points nothing is known
known-above : (name : Name) (points : List Point) → AllByRecursion (λ p. name_cmp name p.name ≡ Less) points → state_of name points ≡ None
known-above name [] h = refl
known-above name (p ∷ ps) h =
    ap (λ (o : Ordering). cond (is_eq o) (Some p) (state_of name ps)) (greater_back name p.name h.0) ∙ known-above name ps h.1

-- the next points decide where one is below the name
known-below : (name : Name) (p : Point) (ps : List Point) → name_cmp p.name name ≡ Less → state_of name (p ∷ ps) ≡ state_of name ps
known-below name p ps h = ap (λ (o : Ordering). cond (is_eq o) (Some p) (state_of name ps)) h

-- the point of the name is what is known of it
pub known-at : (name : Name) (points : List Point) (low high : ℕ) → IsRangeBy Point (λ p. p.name) name points low high → low < high
    → state_of name points ≡ slice_get points low
known-at name [] low high r some = absurd (omega (arith, r.within))
known-at name (p ∷ ps) zero high r some =
    ap (λ (o : Ordering). cond (is_eq o) (Some p) (state_of name ps)) (tied_back name_cmp-total name p.name (r.tied some p refl))
known-at name (p ∷ ps) (suc low) zero r some = absurd (omega arith)
known-at name (p ∷ ps) (suc low) (suc high) r some =
    known-below name p ps r.below.0 ∙ known-at name ps low high (record {
      ordered = omega (arith, r.ordered);
      one = omega (arith, r.one);
      within = omega (arith, r.within);
      below = r.below.1;
      tied = λ lt q is. r.tied (omega arith) q is;
      above = r.above;
    }) (omega arith)

-- and where there is none nothing is known
pub known-none : (name : Name) (points : List Point) (low high : ℕ) → IsRangeBy Point (λ p. p.name) name points low high → high ≤ low → state_of name points ≡ None
known-none name [] low high r none = refl
known-none name (p ∷ ps) zero zero r none = known-above name (p ∷ ps) r.above
known-none name (p ∷ ps) zero (suc high) r none = absurd (omega arith)
known-none name (p ∷ ps) (suc low) zero r none = absurd (omega (arith, r.ordered))
known-none name (p ∷ ps) (suc low) (suc high) r none =
    known-below name p ps r.below.0 ∙ known-none name ps low high (record {
      ordered = omega (arith, r.ordered);
      one = omega (arith, r.one);
      within = omega (arith, r.within);
      below = r.below.1;
      tied = λ lt q is. r.tied (omega arith) q is;
      above = r.above;
    }) (omega arith)

-- ---- what is shown of it

value-within : (points : List Point) (i : ℕ) → i < length points
    → Some (option_and_then (λ p. p.value) (slice_get points i)) ≡ option_map (λ p. p.value) (slice_get points i)
value-within [] i lt = absurd (omega arith)
value-within (p ∷ ps) zero lt = refl
value-within (p ∷ ps) (suc i) lt = value-within ps i (omega arith)

-- the value of its point
pub shown-at : (name : Name) (points : List Point) (low high : ℕ) (value : Option (List ℕ)) → IsRangeBy Point (λ p. p.name) name points low high → low < high
    → value ≡ option_and_then (λ p. p.value) (slice_get points low) → Some value ≡ option_map (λ p. p.value) (state_of name points)
shown-at name points low high value r some is =
    ap (λ (v : Option (List ℕ)). Some v) is ∙ value-within points low (let w = r.within in omega arith)
    ∙ ap (option_map (λ (p : Point). p.value)) (sym (known-at name points low high r some))

-- and where there is none, nothing
pub shown-none : (name : Name) (points : List Point) (low high : ℕ) → IsRangeBy Point (λ p. p.name) name points low high → high ≤ low
    → None ≡ option_map (λ p. p.value) (state_of name points)
shown-none name points low high r none = ap (option_map (λ (p : Point). p.value)) (sym (known-none name points low high r none))
