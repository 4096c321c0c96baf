-- Operations by their numbers.
use Rattle.std.proofs.Common.{◌≡◌, ℕ, zero, suc, ◌<◌, List, [], ◌∷◌, ◌++◌, length, set, get_or, refl, sym, ap, subst, ◌∙◌, arith, ◌⊎◌, inl, inr}
use Rattle.std.specs.Prelude.{◌≢◌, slice_get, Some}
use Rattle.std.specs.Option.{option_map}
use Rattle.std.proofs.lemmas.Option.{slice_get-map, slice_get-get_or}
use Rattle.std.proofs.lemmas.List.{length-map}
use Rattle.mvcc_key.specs.KeyFormat.{encoded_name}
use Rattle.mvcc_key.specs.Encoded.{name_in, IsBytes, IsName}
use Rattle.mvcc_key.specs.Points.{Point}
use Rattle.mvcc_key.specs.views.SeenPoint.{point_of, points_of, AreNamed}
use Rattle.mvcc_key.specs.declared.batch.PointOp.{PointOp}
use Rattle.mvcc_key.proofs.SeenPointLaws.{op_at}
use Rattle.mem_table.specs.views.Entries.{AreBytes}
use Rattle.mem_table.specs.views.Places.{IsStored}

-- each is named, and the one more at the end
pub named-pushed : (ops : List PointOp) (op : PointOp) → AreNamed ops → IsName op.key → AreNamed (ops ++ op ∷ [])
named-pushed [] op each one zero o is = (let same : op ≡ o = cc in subst (λ (p : PointOp). IsName p.key) same one)
named-pushed [] op each one (suc i) o is = absurd cc
named-pushed (q ∷ qs) op each one zero o is = each 0 o is
named-pushed (q ∷ qs) op each one (suc i) o is = named-pushed qs op (λ j p at. each (suc j) p at) one i o is

-- each key is bytes, and that of the one more
pub bytes-pushed : (ops : List PointOp) (op : PointOp) → AreBytes (points_of ops) → IsBytes (name_in op.key).key → AreBytes (points_of (ops ++ op ∷ []))
bytes-pushed [] op each one zero o is = (let same : point_of op ≡ o = cc in subst (λ (p : Point). IsBytes p.name.key) same one)
bytes-pushed [] op each one (suc i) o is = absurd cc
bytes-pushed (q ∷ qs) op each one zero o is = each 0 o is
bytes-pushed (q ∷ qs) op each one (suc i) o is = bytes-pushed qs op (λ j p at. each (suc j) p at) one i o is

-- the encoded key of an operation
pub key-read : (ops : List PointOp) (n : ℕ) (op : PointOp) (key : List ℕ) → AreNamed ops → n < length (points_of ops) → op ≡ get_or ops n op → key ≡ op.key
    → option_map (λ p. encoded_name p.name) (slice_get (points_of ops) n) ≡ Some key
key-read ops n op key named within is read =
    let at : slice_get ops n ≡ Some op = slice_get-get_or ops n op (omega (arith, length-map ops point_of)) ∙ ap Some (sym is) in
    ap (option_map (λ p. encoded_name p.name)) (slice_get-map point_of ops n ∙ ap (option_map point_of) at) ∙ ap Some ((named n op at).spelled ∙ sym read)

-- ---- one of them replaced

length_set : (ops : List PointOp) (n : ℕ) (op : PointOp) → length (set ops n op) ≡ length ops
length_set [] n op = refl
length_set (q ∷ qs) zero op = refl
length_set (q ∷ qs) (suc n) op = ap suc (length_set qs n op)

set_here : (ops : List PointOp) (n : ℕ) (op : PointOp) → n < length ops → slice_get (set ops n op) n ≡ Some op
set_here [] n op within = absurd (omega arith)
set_here (q ∷ qs) zero op within = refl
set_here (q ∷ qs) (suc n) op within = set_here qs n op (omega arith)

set_other : (ops : List PointOp) (n : ℕ) (op : PointOp) (i : ℕ) → i ≢ n → slice_get (set ops n op) i ≡ slice_get ops i
set_other [] n op i apart = refl
set_other (q ∷ qs) zero op zero apart = absurd (apart refl)
set_other (q ∷ qs) zero op (suc i) apart = refl
set_other (q ∷ qs) (suc n) op zero apart = refl
set_other (q ∷ qs) (suc n) op (suc i) apart = set_other qs n op i (λ same. apart (ap suc same))

-- it has its number, and the others keep theirs
pub stored-set : (ops : List PointOp) (n : ℕ) (op : PointOp) → n < length ops → IsStored op n ops (set ops n op)
stored-set ops n op within = record {
  longer = (let same = length_set ops n op in omega arith);
  here = set_here ops n op within;
  others = λ i lt apart. set_other ops n op i apart;
}

set_at : (ops : List PointOp) (n : ℕ) (op : PointOp) (i : ℕ) (o : PointOp) → slice_get (set ops n op) i ≡ Some o → (op ≡ o) ⊎ (slice_get ops i ≡ Some o)
set_at [] n op i o is = inr is
set_at (q ∷ qs) zero op zero o is = inl cc
set_at (q ∷ qs) zero op (suc i) o is = inr is
set_at (q ∷ qs) (suc n) op zero o is = inr is
set_at (q ∷ qs) (suc n) op (suc i) o is = set_at qs n op i o is

-- each is named
pub named-set : (ops : List PointOp) (n : ℕ) (op : PointOp) → AreNamed ops → IsName op.key → AreNamed (set ops n op)
named-set ops n op each one i o is =
    elim (set_at ops n op i o is) [
      | inl same ↦ subst (λ (p : PointOp). IsName p.key) same one
      | inr old ↦ each i o old
    ]

-- each key is bytes
pub bytes-set : (ops : List PointOp) (n : ℕ) (op : PointOp) → AreBytes (points_of ops) → IsBytes (name_in op.key).key → AreBytes (points_of (set ops n op))
bytes-set ops n op each one i p is =
    let o = op_at (set ops n op) i p is in
    elim (set_at ops n op i o.0 o.1) [
      | inl same ↦ subst (λ (q : Point). IsBytes q.name.key) (ap point_of same ∙ o.2) one
      | inr old ↦ subst (λ (q : Point). IsBytes q.name.key) o.2 (each i (point_of o.0) (slice_get-map point_of ops i ∙ ap (option_map point_of) old))
    ]
