-- The points of operations that are gathered.
use Rattle.std.specs.Prelude.{◌≡◌, List, [], ◌∷◌, ◌++◌}
use Rattle.std.proofs.Common.{refl, ap}
use Rattle.mvcc_key.specs.views.SeenPoint.{point_of, points_of}
use Rattle.mvcc_key.specs.declared.batch.PointOp.{PointOp}

-- the points of operations one behind the other
pub points-append : (xs ys : List PointOp) → points_of (xs ++ ys) ≡ points_of xs ++ points_of ys
points-append [] ys = refl
points-append (x ∷ xs) ys = ap (λ (l : List _). point_of x ∷ l) (points-append xs ys)
