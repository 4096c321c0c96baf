-- Entries that are added one after another.
use Rattle.std.proofs.Common.{◌≡◌, ℕ, ◌+◌, ◌^◌, ◌<◌, ◌≤◌, List, [], ◌∷◌, ◌++◌, length, map, get_or, take, sym, ap, subst, ◌∙◌, append_assoc, arith}
use Rattle.std.specs.Prelude.{All, Option}
use Rattle.std.specs.List.{flat_map}
use Rattle.std.proofs.lemmas.Grind.{flat_map-append}
use Rattle.std.proofs.lemmas.List.{map-append, append-nil, length-append, length-map, take_all, take_more, get_or-map}
use Rattle.std.proofs.lemmas.List.Concat.{flat_map-cons}
use Rattle.std.proofs.lemmas.List.Elements.{All-push}
use Rattle.mvcc_key.specs.Encoded.{name_in}
use Rattle.mvcc_key.specs.Points.{Point}
use Rattle.mvcc_key.specs.views.SeenPoint.{point_of, points_of}
use Rattle.mvcc_key.specs.declared.batch.PointOp.{PointOp}
use Rattle.mvcc_key.proofs.KeyFormatLaws.{length-encoded_name_le}
use Rattle.mvcc_key.specs.Batches.{IsStorable}
use Rattle.mvcc_key.specs.RangeOperations.{RangeOp}
use Rattle.run_block.specs.RunFormat.{point_bytes, range_bytes}
use Rattle.run_block.specs.views.Places.{point_in, range_in, points_in, ranges_in, IsIndex}
use Rattle.run_block.specs.views.Writing.{point_with, IsBehind}
use Rattle.run_block.specs.declared.index.Index.{Index}
use Rattle.run_block.specs.declared.place.PointPlace.{PointPlace}
use Rattle.run_block.specs.declared.place.RangePlace.{RangePlace}
use Rattle.run_block.proofs.WritingLaws.{points_in-more, ranges_in-more, index-more}

-- ---- one entry

-- an index of bytes is one of those with more behind
pub index-next : (bytes next more : List ℕ) (index : Index) → next ≡ bytes ++ more → IsIndex bytes index → IsIndex next index
index-next bytes next more index is h = subst (λ (v : List ℕ). IsIndex v index) (sym is) (index-more bytes more index h)

-- its points are the same in those
pub points-next : (bytes next more : List ℕ) (index : Index) → next ≡ bytes ++ more → IsIndex bytes index → points_in next index.points.items ≡ points_in bytes index.points.items
points-next bytes next more index is h = ap (λ (v : List ℕ). points_in v index.points.items) is ∙ points_in-more bytes more index.points.items h.points

-- and so are its range operations
pub ranges-next : (bytes next more : List ℕ) (index : Index) → next ≡ bytes ++ more → IsIndex bytes index → ranges_in next index.ranges.items ≡ ranges_in bytes index.ranges.items
ranges-next bytes next more index is h = ap (λ (v : List ℕ). ranges_in v index.ranges.items) is ∙ ranges_in-more bytes more index.ranges.items h.ranges

-- one element more, where those before it stay
map-grown : {X Y : Type 0} (f g : X → Y) (old new : List X) (x : X) (y : Y) → new ≡ old ++ x ∷ [] → map f old ≡ map g old → f x ≡ y → map f new ≡ map g old ++ y ∷ []
map-grown {Y = Y} f g old new x y grown same here =
    ap (map f) grown ∙ map-append f old (x ∷ []) ∙ ap (λ (ys : List Y). ys ++ f x ∷ []) same ∙ ap (λ (z : Y). map g old ++ z ∷ []) here

-- one point more
pub points-added : (bytes next more : List ℕ) (old new : Index) (place : PointPlace) (p : Point) → next ≡ bytes ++ more → IsIndex bytes old
    → new.points.items ≡ old.points.items ++ place ∷ [] → point_in next place ≡ p → points_in next new.points.items ≡ points_in bytes old.points.items ++ p ∷ []
points-added bytes next more old new place p is h grown here =
    map-grown (point_in next) (point_in bytes) old.points.items new.points.items place p grown (points-next bytes next more old is h) here

-- one range operation more
pub ranges-added : (bytes next more : List ℕ) (old new : Index) (place : RangePlace) (r : RangeOp) → next ≡ bytes ++ more → IsIndex bytes old
    → new.ranges.items ≡ old.ranges.items ++ place ∷ [] → range_in next place ≡ r → ranges_in next new.ranges.items ≡ ranges_in bytes old.ranges.items ++ r ∷ []
ranges-added bytes next more old new place r is h grown here =
    map-grown (range_in next) (range_in bytes) old.ranges.items new.ranges.items place r grown (ranges-next bytes next more old is h) here

-- a place behind more bytes is behind fewer
behind-fewer : (n m : ℕ) (p : PointPlace) → n ≤ m → IsBehind m p → IsBehind n p
behind-fewer n m p le h = record { key = (let k = h.key in omega arith); value = λ v is. (let w = h.value v is in omega arith) }

-- one place more behind the first bytes
pub behind-added : (n m : ℕ) (old new : List PointPlace) (place : PointPlace) → new ≡ old ++ place ∷ [] → n ≤ m → All (IsBehind n) old → IsBehind m place → All (IsBehind n) new
behind-added n m old new place grown le all here =
    subst (λ (ps : List PointPlace). All (IsBehind n) ps) (sym grown) (All-push (IsBehind n) old place all (behind-fewer n m place le here))

-- the length of a key that may be stored
pub short-key : (op : PointOp) → IsStorable op → length op.key < 2 ^ 32
short-key op h =
    let spelled = ap length h.name.spelled in
    let few = length-encoded_name_le (name_in op.key) in
    let short = h.short in
    omega arith

-- ---- one element more of a list

module _ {X : Type 0} (spelled : X → List ℕ) where
  spelled-more : (from out next : List ℕ) (before after : List X) (x : X) → out ≡ from ++ flat_map spelled before → next ≡ out ++ spelled x → after ≡ before ++ x ∷ []
      → next ≡ from ++ flat_map spelled after
  spelled-more from out next before after x items is grown =
      is ∙ ap (λ (v : List ℕ). v ++ spelled x) items ∙ append_assoc from (flat_map spelled before) (spelled x)
      ∙ ap (λ (v : List ℕ). from ++ v)
      (sym (ap (flat_map spelled) grown ∙ flat_map-append spelled before (x ∷ [])
      ∙ ap (λ (v : List ℕ). flat_map spelled before ++ v) (flat_map-cons spelled x [] ∙ append-nil (spelled x))))

module _ {X Y : Type 0} (seen : X → Y) where
  -- a list that is seen element by element, up to one element more
  pub taken-more : (xs : List X) (i : ℕ) (x : X) → i < length xs → x ≡ get_or xs i x → take (i + 1) (map seen xs) ≡ take i (map seen xs) ++ seen x ∷ []
  taken-more xs i x lt is =
      take_more (map seen xs) i (seen x) (omega (arith, length-map xs seen))
      ∙ ap (λ (y : Y). take i (map seen xs) ++ y ∷ []) (get_or-map seen xs i x (seen x) lt ∙ ap seen (sym is))

-- ---- points

-- the point of an operation, by its key and its value
same_point : (op : PointOp) (key : List ℕ) (value : Option (List ℕ)) → key ≡ op.key → value ≡ op.value → point_with key value ≡ point_of op
same_point op key value k v = λ i. record { name = name_in (k i); value = v i }

-- the points of operations, up to one more
pub points-taken : (ops : List PointOp) (i : ℕ) (op : PointOp) (key : List ℕ) (value : Option (List ℕ)) → i < length ops → op ≡ get_or ops i op → key ≡ op.key → value ≡ op.value
    → take (i + 1) (points_of ops) ≡ take i (points_of ops) ++ point_with key value ∷ []
points-taken ops i op key value lt is k v =
    taken-more point_of ops i op lt is ∙ ap (λ (p : Point). take i (points_of ops) ++ p ∷ []) (sym (same_point op key value k v))

-- so many of the points are added
pub record IsAdding (points : List Point) (done : ℕ) (from out : List ℕ) (index : Index) : Type 0 where
  pub items : out ≡ from ++ flat_map point_bytes (take done points)
  pub index_is : IsIndex out index
  pub points_are : points_in out index.points.items ≡ take done points
  pub behind : All (IsBehind (length from)) index.points.items
  pub none : index.ranges.items ≡ []

-- one point more
pub IsAdding-more : (points : List Point) (done : ℕ) (from out next : List ℕ) (index more : Index) (p : Point) → IsAdding points done from out index
    → take (done + 1) points ≡ take done points ++ p ∷ [] → next ≡ out ++ point_bytes p → IsIndex next more
    → points_in next more.points.items ≡ points_in out index.points.items ++ p ∷ []
    → ((n : ℕ) → n ≤ length out → All (IsBehind n) index.points.items → All (IsBehind n) more.points.items)
    → more.ranges.items ≡ [] → IsAdding points (done + 1) from next more
IsAdding-more points done from out next index more p h grown items index_is points_are behind none = record {
  items = spelled-more point_bytes from out next (take done points) (take (done + 1) points) p h.items items grown;
  index_is = index_is;
  points_are = points_are ∙ ap (λ (ps : List Point). ps ++ p ∷ []) h.points_are ∙ sym grown;
  behind = behind (length from) (let size = ap length h.items ∙ length-append from (flat_map point_bytes (take done points)) in omega arith) h.behind;
  none = none;
}

-- behind the last point
pub record IsAdded (points : List Point) (from out : List ℕ) (index : Index) : Type 0 where
  pub items : out ≡ from ++ flat_map point_bytes points
  pub points_are : points_in out index.points.items ≡ points

pub IsAdding-last : (points : List Point) (done : ℕ) (from out : List ℕ) (index : Index) → IsAdding points done from out index → length points ≤ done → IsAdded points from out index
IsAdding-last points done from out index h le =
    let all : take done points ≡ points = take_all done points le in
    record { items = h.items ∙ ap (λ (ps : List Point). from ++ flat_map point_bytes ps) all; points_are = h.points_are ∙ all }

-- ---- range operations

-- so many of the range operations are added
pub record IsAddingRanges (ranges : List RangeOp) (done : ℕ) (from out : List ℕ) (first index : Index) : Type 0 where
  pub items : out ≡ from ++ flat_map range_bytes (take done ranges)
  pub index_is : IsIndex out index
  pub points_are : points_in out index.points.items ≡ points_in from first.points.items
  pub ranges_are : ranges_in out index.ranges.items ≡ take done ranges

-- one range operation more
pub IsAddingRanges-more : (ranges : List RangeOp) (done : ℕ) (from out next : List ℕ) (first index more : Index) (r : RangeOp) → IsAddingRanges ranges done from out first index
    → take (done + 1) ranges ≡ take done ranges ++ r ∷ [] → next ≡ out ++ range_bytes r → IsIndex next more
    → points_in next more.points.items ≡ points_in out index.points.items
    → ranges_in next more.ranges.items ≡ ranges_in out index.ranges.items ++ r ∷ []
    → IsAddingRanges ranges (done + 1) from next first more
IsAddingRanges-more ranges done from out next first index more r h grown items index_is points_are ranges_are = record {
  items = spelled-more range_bytes from out next (take done ranges) (take (done + 1) ranges) r h.items items grown;
  index_is = index_is;
  points_are = points_are ∙ h.points_are;
  ranges_are = ranges_are ∙ ap (λ (rs : List RangeOp). rs ++ r ∷ []) h.ranges_are ∙ sym grown;
}
