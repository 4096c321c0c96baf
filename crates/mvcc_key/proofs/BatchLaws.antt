-- Entries of a batch, and the points that they stand for.
use Rattle.std.proofs.Common.{List, [], ◌∷◌, ◌++◌, get_or, subst}
use Rattle.std.specs.Prelude.{All}
use Rattle.std.proofs.lemmas.Option.{slice_get_within, get_or_from_slice_get}
use Rattle.std.proofs.lemmas.List.Elements.{All-get_or, All-map, All-weaker, All-push}
use Rattle.mvcc_key.specs.Batches.{IsStorable, AreEntries, IsStoredPoint}
use Rattle.mvcc_key.specs.Points.{AreEncodable}
use Rattle.mvcc_key.specs.views.SeenPoint.{point_of, points_of, AreNamed, IsAboveLast}
use Rattle.mvcc_key.specs.declared.batch.PointOp.{PointOp}
use Rattle.mvcc_key.proofs.SeenPointLaws.{encodable-named, rising-push}
use Rattle.mvcc_key.proofs.NamedLaws.{named-range}

-- each key is an encoded one
pub named-entries : (ops : List PointOp) → AreEntries ops → AreNamed ops
named-entries ops e i op is =
    let h : IsStorable (get_or ops i op) = All-get_or IsStorable ops i op (slice_get_within ops i op is) e.storable in
    (subst IsStorable (get_or_from_slice_get ops i op op is) h).name

-- their points have encodings
pub encodable-entries : (ops : List PointOp) → AreEntries ops → AreEncodable (points_of ops)
encodable-entries ops e = encodable-named ops (named-entries ops e)

-- a storable operation is a stored point
pub stored-point : (op : PointOp) → IsStorable op → IsStoredPoint (point_of op)
stored-point op h = record { some = h.some; short = h.short; range = named-range op.key h.name; value = h.value }

-- the points of entries are stored points
pub stored-entries : (ops : List PointOp) → AreEntries ops → All IsStoredPoint (points_of ops)
stored-entries ops e = All-map IsStoredPoint point_of ops (All-weaker IsStorable (λ op. IsStoredPoint (point_of op)) stored-point ops e.storable)

-- one storable operation more, whose name is above the last one
pub entries-push : (ops : List PointOp) (op : PointOp) → AreEntries ops → IsStorable op → IsAboveLast ops op.key → AreEntries (ops ++ op ∷ [])
entries-push ops op e storable last = record { storable = All-push IsStorable ops op e.storable storable; rising = rising-push ops op e.rising last }
