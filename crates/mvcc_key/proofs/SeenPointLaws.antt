-- The points that operations on pairs stand for.
use Rattle.std.proofs.Common.{◌≡◌, ℕ, ◌+◌, List, [], ◌∷◌, ◌++◌, length, refl, sym, ap, subst, ◌∙◌, arith, inl, inr}
use Rattle.std.specs.Prelude.{slice_get, Some, None}
use Rattle.std.specs.declared.option.Option.{Option}
use Rattle.std.specs.Option.{option_map}
use Rattle.std.specs.declared.cmp.Ordering.TheVariants.{Less}
use Rattle.std.proofs.lemmas.Option.{slice_get-map, slice_get_within}
use Rattle.std.proofs.lemmas.List.{length-append, length-map, map-append}
use Rattle.std.proofs.lemmas.Bool.{cases_order}
use Rattle.mvcc_key.specs.Order.{name_cmp}
use Rattle.mvcc_key.specs.KeyFormat.{encoded_name}
use Rattle.mvcc_key.specs.Encoded.{IsName, name_in}
use Rattle.mvcc_key.specs.Points.{Point, IsRising, AreEncodable}
use Rattle.mvcc_key.specs.declared.batch.PointOp.{PointOp}
use Rattle.mvcc_key.specs.views.SeenPoint.{point_of, points_of, AreNamed, IsAboveLast}
use Rattle.mvcc_key.proofs.NamedLaws.{named-range}
use Rattle.mvcc_key.proofs.PointLaws.{slice_get-front, slice_get-end, rising_push}

-- the point of an operation
pub points_of-at : (ops : List PointOp) (i : ℕ) (op : PointOp) → slice_get ops i ≡ Some op → slice_get (points_of ops) i ≡ Some (point_of op)
points_of-at ops i op is = slice_get-map point_of ops i ∙ ap (option_map point_of) is

-- its encoded key is the one that the operation has
pub key-named : (ops : List PointOp) (i : ℕ) (op : PointOp) → AreNamed ops → slice_get ops i ≡ Some op
    → option_map (λ p. encoded_name p.name) (slice_get (points_of ops) i) ≡ Some op.key
key-named ops i op named is =
    ap (option_map (λ (p : Point). encoded_name p.name)) (points_of-at ops i op is)
    ∙ ap (λ (bytes : List ℕ). Some bytes) (named i op is).spelled

-- the operation that a point is of
pub op_at : (ops : List PointOp) (i : ℕ) (p : Point) → slice_get (points_of ops) i ≡ Some p → (op : PointOp) × (slice_get ops i ≡ Some op) × (point_of op ≡ p)
op_at ops i p is = by (slice_get ops i) refl (sym (slice_get-map point_of ops i) ∙ is)
  where
    by : (o : Option PointOp) → slice_get ops i ≡ o → option_map point_of o ≡ Some p → (op : PointOp) × (slice_get ops i ≡ Some op) × (point_of op ≡ p)
    by None at e = absurd cc
    by (Some op) at e = (op, at, cc)

-- the points of operations whose keys are names have encodings
pub encodable-named : (ops : List PointOp) → AreNamed ops → AreEncodable (points_of ops)
encodable-named ops named i p is =
    let op = op_at ops i p is in
    rw (← op.2) (named-range op.0.key (named i op.0 op.1))

-- one operation more
pub named-push : (ops : List PointOp) (op : PointOp) → AreNamed ops → IsName op.key → AreNamed (ops ++ op ∷ [])
named-push ops op named h i other is =
    elim (cases_order i (length ops)) [
      | inl at_end ↦
          (let one : Some other ≡ Some op = sym is ∙ ap (slice_get (ops ++ op ∷ [])) at_end ∙ slice_get-end ops op in
          let same : op ≡ other = cc in
          rw (← same) h)
      | inr (inl before) ↦ named i other (sym (slice_get-front ops op i before) ∙ is)
      | inr (inr behind) ↦ absurd (let within = slice_get_within (ops ++ op ∷ []) i other is in omega (arith, length-append ops (op ∷ [])))
    ]

-- one more that is above the last
pub rising-push : (ops : List PointOp) (op : PointOp) → IsRising (points_of ops)
    → IsAboveLast ops op.key
    → IsRising (points_of (ops ++ op ∷ []))
rising-push ops op rising last =
    subst IsRising (sym (map-append point_of ops (op ∷ []))) (rising_push (λ (p : Point). p.name) (points_of ops) (point_of op) rising above)
  where
    above : (i : ℕ) (p : Point) → i + 1 ≡ length (points_of ops) → slice_get (points_of ops) i ≡ Some p → name_cmp p.name (name_in op.key) ≡ Less
    above i p at is =
        let before = op_at ops i p is in
        rw (← before.2) (last i before.0 (omega (arith, length-map ops point_of)) before.1)
