-- How contracts see operations on stored pairs.
use Rattle.std.specs.Prelude.{◌≡◌, ℕ, ◌+◌, List, length, map, slice_get, Some}
use Rattle.std.specs.declared.cmp.Ordering.TheVariants.{Less}
use Rattle.mvcc_key.specs.Order.{name_cmp}
use Rattle.mvcc_key.specs.Encoded.{name_in, IsName}
use Rattle.mvcc_key.specs.Points.{Point}
use Rattle.mvcc_key.specs.declared.batch.PointOp.{PointOp}

-- the name that its key encodes, with its value
abbrev pub point_of : PointOp → Point
point_of op = record { name = name_in op.key; value = op.value }

-- the points of operations
abbrev pub points_of : List PointOp → List Point
points_of ops = map point_of ops

-- each key is an encoded one
abbrev pub AreNamed : List PointOp → Type 0
AreNamed ops = (i : ℕ) (op : PointOp) → slice_get ops i ≡ Some op → IsName op.key

-- the key is above that of the last operation
abbrev pub IsAboveLast : List PointOp → List ℕ → Type 0
IsAboveLast ops key = (i : ℕ) (last : PointOp) → i + 1 ≡ length ops → slice_get ops i ≡ Some last → name_cmp (name_in last.key) (name_in key) ≡ Less
