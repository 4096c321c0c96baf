-- Bytes that are written behind others.
use Rattle.std.proofs.Common.{map, ◌≡◌, ℕ, ◌-◌, ◌≤◌, List, [], ◌∷◌, ◌++◌, length, take, drop, refl, sym, ap, subst, ◌∙◌, arith}
use Rattle.std.specs.Prelude.{Option, Some, None, All}
use Rattle.std.specs.Option.{ForSome, option_map}
use Rattle.std.proofs.lemmas.List.{take-append-le, drop-append-le, length-append, length-drop}
use Rattle.std.proofs.lemmas.List.Elements.{All-head, All-tail, All-weaker}
use Rattle.mvcc_key.specs.Encoded.{IsName, name_in}
use Rattle.mvcc_key.specs.views.AbbreviatedKey.{IsAbbreviatedKey}
use Rattle.run_block.specs.RunFormat.{Run}
use Rattle.run_block.specs.TimeSpan.{times_of, span_of}
use Rattle.run_block.specs.views.Places.{piece_in, point_in, range_in, points_in, ranges_in, IsPlaced, IsRangePlaced, run_in, IsIndex}
use Rattle.run_block.specs.declared.index.Index.{Index}
use Rattle.run_block.specs.declared.piece.Piece.{Piece}
use Rattle.run_block.specs.declared.place.PointPlace.{PointPlace}
use Rattle.run_block.specs.declared.place.RangePlace.{RangePlace}

-- ---- pieces of bytes with more behind them

-- a piece is the same with more bytes behind
pub piece_in-more : (bytes more : List ℕ) (p : Piece) → p.end ≤ length bytes → piece_in (bytes ++ more) p ≡ piece_in bytes p
piece_in-more bytes more p within =
    let ordered = p.ordered in
    ap (λ (xs : List ℕ). take (p.end - p.start) xs) (drop-append-le p.start bytes more (omega arith))
    ∙ take-append-le (p.end - p.start) (drop p.start bytes) more (omega (arith, length-drop p.start bytes))

value_in-more : (bytes more : List ℕ) (value : Option Piece) → ForSome value (λ p. p.end ≤ length bytes) → option_map (piece_in (bytes ++ more)) value ≡ option_map (piece_in bytes) value
value_in-more bytes more None h = refl
value_in-more bytes more (Some p) h = ap (λ (x : List ℕ). Some x) (piece_in-more bytes more p (h p refl))

-- a point is the same with more bytes behind
pub point_in-more : (bytes more : List ℕ) (p : PointPlace) → IsPlaced bytes p → point_in (bytes ++ more) p ≡ point_in bytes p
point_in-more bytes more p h =
    let key = piece_in-more bytes more p.key h.key in
    let value = value_in-more bytes more p.value h.value in
    λ i. record { name = name_in (key i); value = value i }

pub placed-more : (bytes more : List ℕ) (p : PointPlace) → IsPlaced bytes p → IsPlaced (bytes ++ more) p
placed-more bytes more p h = record {
  key = (let k = h.key in omega (arith, length-append bytes more));
  value = λ v e. (let le = h.value v e in omega (arith, length-append bytes more));
  name = subst IsName (sym (piece_in-more bytes more p.key h.key)) h.name;
  abbreviated = subst (λ (key : List ℕ). IsAbbreviatedKey (name_in key).key p.abbreviated_key) (sym (piece_in-more bytes more p.key h.key)) h.abbreviated;
}

pub range_placed-more : (bytes more : List ℕ) (r : RangePlace) → IsRangePlaced bytes r → IsRangePlaced (bytes ++ more) r
range_placed-more bytes more r h = record {
  start = (let le = h.start in omega (arith, length-append bytes more));
  end = (let le = h.end in omega (arith, length-append bytes more));
}

range_in-more : (bytes more : List ℕ) (r : RangePlace) → IsRangePlaced bytes r → range_in (bytes ++ more) r ≡ range_in bytes r
range_in-more bytes more r h =
    let start = piece_in-more bytes more r.start h.start in
    let end = piece_in-more bytes more r.end h.end in
    λ i. record { start = start i; end = end i; ts = (range_in bytes r).ts; value = (range_in bytes r).value }

-- what is the same at each place is the same at all
map-alike : {X Y : Type 0} (P : X → Type 0) (f g : X → Y) → ((x : X) → P x → f x ≡ g x) → (xs : List X) → All P xs → map f xs ≡ map g xs
map-alike P f g same [] all = refl
map-alike P f g same (x ∷ xs) all =
    let first = same x (All-head P x xs all) in
    let others = map-alike P f g same xs (All-tail P x xs all) in
    λ i. first i ∷ others i

-- points are the same with more bytes behind
pub points_in-more : (bytes more : List ℕ) (ps : List PointPlace) → All (IsPlaced bytes) ps → points_in (bytes ++ more) ps ≡ points_in bytes ps
points_in-more bytes more = map-alike (IsPlaced bytes) (point_in (bytes ++ more)) (point_in bytes) (point_in-more bytes more)

-- and so are range operations
pub ranges_in-more : (bytes more : List ℕ) (rs : List RangePlace) → All (IsRangePlaced bytes) rs → ranges_in (bytes ++ more) rs ≡ ranges_in bytes rs
ranges_in-more bytes more = map-alike (IsRangePlaced bytes) (range_in (bytes ++ more)) (range_in bytes) (range_in-more bytes more)

-- the run at the places is the same with more bytes behind
pub run_in-more : (bytes more : List ℕ) (index : Index) → IsIndex bytes index → run_in (bytes ++ more) index ≡ run_in bytes index
run_in-more bytes more index is =
    let points = points_in-more bytes more index.points.items is.points in
    let ranges = ranges_in-more bytes more index.ranges.items is.ranges in
    λ i. record { points = points i; ranges = ranges i }

-- an index is one of the bytes with more behind
pub index-more : (bytes more : List ℕ) (index : Index) → IsIndex bytes index → IsIndex (bytes ++ more) index
index-more bytes more index is = record {
  points = All-weaker (IsPlaced bytes) (IsPlaced (bytes ++ more)) (λ p h. placed-more bytes more p h) index.points.items is.points;
  ranges = All-weaker (IsRangePlaced bytes) (IsRangePlaced (bytes ++ more)) (λ r h. range_placed-more bytes more r h) index.ranges.items is.ranges;
  span = is.span ∙ ap (λ (r : Run). span_of (times_of r)) (sym (run_in-more bytes more index is));
}
