-- A loop that reads one entry after another.
use Rattle.std.proofs.Common.{◌≡◌, ℕ, suc, ◌+◌, ◌-◌, ◌<◌, ◌≤◌, List, [], ◌∷◌, ◌++◌, refl, sym, ap, subst, ◌∙◌, append_assoc, arith}
use Rattle.std.specs.Prelude.{Option, Some, None, Result, Ok, Err}
use Rattle.std.specs.Option.{ForSome}
use Rattle.std.proofs.lemmas.List.{append-nil, map-append}
use Rattle.mvcc_key.specs.Steps.{◌>>=◌}
use Rattle.mvcc_key.specs.Order.{Name}
use Rattle.mvcc_key.specs.Points.{Point}
use Rattle.mvcc_key.proofs.ByteLaws.{step}
use Rattle.mvcc_key.specs.RangeOperations.{RangeOp}
use Rattle.run_block.specs.RunFormat.{RunFault, Placed, Rest, point_at, points_at, range_at, ranges_at}
use Rattle.run_block.specs.views.Places.{point_in, range_in, points_in, ranges_in, IsPlaced, IsRangePlaced, IsIndex}
use Rattle.run_block.specs.views.Reading.{rest_at, rest_of, IsKeyPiece, name_before, items_of, ArePointsAt, AreRangesAt}
use Rattle.run_block.specs.declared.index.Index.{Index}
use Rattle.run_block.specs.declared.piece.Piece.{Piece}
use Rattle.run_block.specs.declared.place.PointPlace.{PointPlace}
use Rattle.run_block.specs.declared.place.RangePlace.{RangePlace}
use Rattle.run_block.specs.declared.reader.Reader.{Reader}

-- entries in front of those that are read
abbrev in_front : {A : Type 0} → List (Placed A) → Result (List (Placed A) × Rest) RunFault → Result (List (Placed A) × Rest) RunFault
in_front placed (Ok x) = Ok (placed ++ x.0, x.1)
in_front placed (Err e) = Err e

-- one entry more in front
in_front-more : {A : Type 0} (placed : List (Placed A)) (p : Placed A) (r : Result (List (Placed A) × Rest) RunFault)
    → in_front placed (r >>= λ x. Ok (p ∷ x.0, x.1)) ≡ in_front (placed ++ p ∷ []) r
in_front-more placed p (Ok x) = ap (λ (xs : List (Placed _)). Ok (xs, x.1)) (sym (append_assoc placed (p ∷ []) x.0))
in_front-more placed p (Err e) = refl

items_of-push : {A : Type 0} (placed : List (Placed A)) (p : Placed A) → items_of (placed ++ p ∷ []) ≡ items_of placed ++ p.item ∷ []
items_of-push placed p = map-append (λ (q : Placed _). q.item) placed (p ∷ [])

fault_after : {A B : Type 0} (r : Result A RunFault) (f : A → Result B RunFault) (e : RunFault) → r ≡ Err e → (r >>= f) ≡ Err e
fault_after (Ok x) f e h = absurd cc
fault_after (Err d) f e h = cc

-- ---- points

-- some points are read, and so many are left
record ArePointsSoFar (count left : ℕ) (from rest : Rest) (before : Option Name) (points : List Point) : Type 0 where
  placed : List (Placed Point)
  items : items_of placed ≡ points
  reading : points_at count None from ≡ in_front placed (points_at left before rest)

first_points : (count : ℕ) (from : Rest) → ArePointsSoFar count count from from None []
first_points count from = record { placed = []; items = refl; reading = by (points_at count None from) }
  where
    by : (r : Result (List (Placed Point) × Rest) RunFault) → r ≡ in_front [] r
    by (Ok x) = refl
    by (Err e) = refl

more_points : (count left : ℕ) (from rest next : Rest) (before : Option Name) (points : List Point) (place : ℕ) (p : Point)
    → ArePointsSoFar count (suc left) from rest before points → point_at before rest ≡ Ok (record { place = place; item = p }, next)
    → ArePointsSoFar count left from next (Some p.name) (points ++ p ∷ [])
more_points count left from rest next before points place p h e = record {
  placed = h.placed ++ record { place = place; item = p } ∷ [];
  items = items_of-push h.placed (record { place = place; item = p }) ∙ ap (λ (ps : List Point). ps ++ p ∷ []) h.items;
  reading = h.reading
      ∙ ap (in_front h.placed) (step (point_at before rest) (λ (x : Placed Point × Rest). points_at left (Some ((x.0).item).name) x.1 >>= λ ps. Ok (x.0 ∷ ps.0, ps.1)) _ _ e refl)
      ∙ in_front-more h.placed (record { place = place; item = p }) (points_at left (Some p.name) next);
}

fault_of_points : (count left : ℕ) (from rest : Rest) (before : Option Name) (points : List Point) (fault : RunFault)
    → ArePointsSoFar count (suc left) from rest before points → point_at before rest ≡ Err fault → points_at count None from ≡ Err fault
fault_of_points count left from rest before points fault h e =
    h.reading ∙ ap (in_front h.placed) (fault_after (point_at before rest) (λ (x : Placed Point × Rest). points_at left (Some ((x.0).item).name) x.1 >>= λ ps. Ok (x.0 ∷ ps.0, ps.1)) fault e)

last_points : (count : ℕ) (from rest : Rest) (before : Option Name) (points : List Point) → ArePointsSoFar count 0 from rest before points → ArePointsAt count from rest points
last_points count from rest before points h = record {
  placed = h.placed;
  items = h.items;
  reading = h.reading ∙ ap (λ (xs : List (Placed Point)). Ok (xs, rest)) (append-nil h.placed);
}

-- what holds while points are read
pub record IsReadingPoints (count done : ℕ) (from reader : Reader) (before : Option Piece) (index : Index) : Type 0 where
  pub same : reader.bytes.now ≡ from.bytes.now
  pub index_is : IsIndex from.bytes.now index
  pub none : index.ranges.items ≡ []
  pub before_is : ForSome before (IsKeyPiece from.bytes.now)
  so_far : ArePointsSoFar count (count - done) (rest_of from) (rest_at from.bytes.now reader.place) (name_before from.bytes.now before) (points_in from.bytes.now index.points.items)

-- before the first point
pub IsReadingPoints-first : (count : ℕ) (from : Reader) (index : Index) → IsIndex from.bytes.now index → index.points.items ≡ [] → index.ranges.items ≡ []
    → IsReadingPoints count 0 from from None index
IsReadingPoints-first count from index is points ranges = record {
  same = refl;
  index_is = is;
  none = ranges;
  before_is = λ p h. absurd cc;
  so_far = subst (λ (ps : List Point). ArePointsSoFar count (count - 0) (rest_of from) (rest_of from) None ps) (sym (ap (points_in from.bytes.now) points))
      (subst (λ (n : ℕ). ArePointsSoFar count n (rest_of from) (rest_of from) None []) (omega arith) (first_points count (rest_of from)));
}

-- what is read of a point, in the first bytes
at_first : (w b b' : List ℕ) (before : Option Piece) (place place' : ℕ) (p : PointPlace) → b ≡ w → b' ≡ b
    → point_at (name_before b before) (rest_at b place) ≡ Ok (record { place = place; item = point_in b p }, rest_at b' place')
    → point_at (name_before w before) (rest_at w place) ≡ Ok (record { place = place; item = point_in w p }, rest_at w place')
at_first w b b' before place place' p same same' reading =
    subst (λ (v : List ℕ). point_at (name_before v before) (rest_at v place) ≡ Ok (record { place = place; item = point_in v p }, rest_at w place')) same
    (subst (λ (v : List ℕ). point_at (name_before b before) (rest_at b place) ≡ Ok (record { place = place; item = point_in b p }, rest_at v place')) (same' ∙ same) reading)

-- one point more
pub IsReadingPoints-more : (count done : ℕ) (from reader next : Reader) (before : Option Piece) (index more : Index) (p : PointPlace)
    → IsReadingPoints count done from reader before index → done < count → next.bytes.now ≡ reader.bytes.now
    → point_at (name_before reader.bytes.now before) (rest_of reader) ≡ Ok (record { place = reader.place; item = point_in reader.bytes.now p }, rest_of next)
    → IsPlaced reader.bytes.now p → IsIndex next.bytes.now more → more.points.items ≡ index.points.items ++ p ∷ [] → more.ranges.items ≡ []
    → IsReadingPoints count (done + 1) from next (Some p.key) more
IsReadingPoints-more count done from reader next before index more p h lt same reading placed is points ranges =
    let w : List ℕ = from.bytes.now in
    let back : next.bytes.now ≡ w = same ∙ h.same in
    let here : IsPlaced w p = subst (λ (v : List ℕ). IsPlaced v p) h.same placed in
    let fewer : count - done ≡ suc (count - (done + 1)) = omega arith in
    let was = subst (λ (n : ℕ). ArePointsSoFar count n (rest_of from) (rest_at w reader.place) (name_before w before) (points_in w index.points.items)) fewer h.so_far in
    let read = at_first w reader.bytes.now next.bytes.now before reader.place next.place p h.same same reading in
    let now = more_points count (count - (done + 1)) (rest_of from) (rest_at w reader.place) (rest_at w next.place) (name_before w before) (points_in w index.points.items) reader.place (point_in w p) was read in
    record {
      same = back;
      index_is = subst (λ (v : List ℕ). IsIndex v more) back is;
      none = ranges;
      before_is = λ q e. (let one : p.key ≡ q = cc in subst (IsKeyPiece w) one (record { within = here.key; name = here.name }));
      so_far = subst (ArePointsSoFar count (count - (done + 1)) (rest_of from) (rest_at w next.place) (Some (point_in w p).name))
          (sym (ap (points_in w) points ∙ map-append (point_in w) index.points.items (p ∷ []))) now;
    }

-- a point that cannot be read
pub IsReadingPoints-fault : (count done : ℕ) (from reader : Reader) (before : Option Piece) (index : Index) (fault : RunFault)
    → IsReadingPoints count done from reader before index → done < count
    → point_at (name_before reader.bytes.now before) (rest_of reader) ≡ Err fault → points_at count None (rest_of from) ≡ Err fault
IsReadingPoints-fault count done from reader before index fault h lt reading =
    let w : List ℕ = from.bytes.now in
    let fewer : count - done ≡ suc (count - (done + 1)) = omega arith in
    fault_of_points count (count - (done + 1)) (rest_of from) (rest_at w reader.place) (name_before w before) (points_in w index.points.items) fault
    (subst (λ (n : ℕ). ArePointsSoFar count n (rest_of from) (rest_at w reader.place) (name_before w before) (points_in w index.points.items)) fewer h.so_far)
    (subst (λ (v : List ℕ). point_at (name_before v before) (rest_at v reader.place) ≡ Err fault) h.same reading)

-- behind the last point
pub IsReadingPoints-last : (count done : ℕ) (from reader : Reader) (before : Option Piece) (index : Index)
    → IsReadingPoints count done from reader before index → count ≤ done → ArePointsAt count (rest_of from) (rest_of reader) (points_in from.bytes.now index.points.items)
IsReadingPoints-last count done from reader before index h le =
    let w : List ℕ = from.bytes.now in
    let none_left : count - done ≡ 0 = omega arith in
    subst (λ (v : List ℕ). ArePointsAt count (rest_of from) (rest_at v reader.place) (points_in w index.points.items)) (sym h.same)
    (last_points count (rest_of from) (rest_at w reader.place) (name_before w before) (points_in w index.points.items)
    (subst (λ (n : ℕ). ArePointsSoFar count n (rest_of from) (rest_at w reader.place) (name_before w before) (points_in w index.points.items)) none_left h.so_far))

-- ---- range operations

-- some range operations are read, and so many are left
record AreRangesSoFar (count left : ℕ) (from rest : Rest) (ranges : List RangeOp) : Type 0 where
  placed : List (Placed RangeOp)
  items : items_of placed ≡ ranges
  reading : ranges_at count from ≡ in_front placed (ranges_at left rest)

first_ranges : (count : ℕ) (from : Rest) → AreRangesSoFar count count from from []
first_ranges count from = record { placed = []; items = refl; reading = by (ranges_at count from) }
  where
    by : (r : Result (List (Placed RangeOp) × Rest) RunFault) → r ≡ in_front [] r
    by (Ok x) = refl
    by (Err e) = refl

more_ranges : (count left : ℕ) (from rest next : Rest) (ranges : List RangeOp) (place : ℕ) (r : RangeOp)
    → AreRangesSoFar count (suc left) from rest ranges → range_at rest ≡ Ok (record { place = place; item = r }, next)
    → AreRangesSoFar count left from next (ranges ++ r ∷ [])
more_ranges count left from rest next ranges place r h e = record {
  placed = h.placed ++ record { place = place; item = r } ∷ [];
  items = items_of-push h.placed (record { place = place; item = r }) ∙ ap (λ (rs : List RangeOp). rs ++ r ∷ []) h.items;
  reading = h.reading
      ∙ ap (in_front h.placed) (step (range_at rest) (λ (x : Placed RangeOp × Rest). ranges_at left x.1 >>= λ rs. Ok (x.0 ∷ rs.0, rs.1)) _ _ e refl)
      ∙ in_front-more h.placed (record { place = place; item = r }) (ranges_at left next);
}

fault_of_ranges : (count left : ℕ) (from rest : Rest) (ranges : List RangeOp) (fault : RunFault)
    → AreRangesSoFar count (suc left) from rest ranges → range_at rest ≡ Err fault → ranges_at count from ≡ Err fault
fault_of_ranges count left from rest ranges fault h e =
    h.reading ∙ ap (in_front h.placed) (fault_after (range_at rest) (λ (x : Placed RangeOp × Rest). ranges_at left x.1 >>= λ rs. Ok (x.0 ∷ rs.0, rs.1)) fault e)

last_ranges : (count : ℕ) (from rest : Rest) (ranges : List RangeOp) → AreRangesSoFar count 0 from rest ranges → AreRangesAt count from rest ranges
last_ranges count from rest ranges h = record {
  placed = h.placed;
  items = h.items;
  reading = h.reading ∙ ap (λ (xs : List (Placed RangeOp)). Ok (xs, rest)) (append-nil h.placed);
}

-- what holds while range operations are read
pub record IsReadingRanges (count done : ℕ) (from reader : Reader) (first index : Index) : Type 0 where
  pub same : reader.bytes.now ≡ from.bytes.now
  pub index_is : IsIndex from.bytes.now index
  pub points : index.points.items ≡ first.points.items
  so_far : AreRangesSoFar count (count - done) (rest_of from) (rest_at from.bytes.now reader.place) (ranges_in from.bytes.now index.ranges.items)

-- before the first range operation
pub IsReadingRanges-first : (count : ℕ) (from : Reader) (index : Index) → IsIndex from.bytes.now index → index.ranges.items ≡ []
    → IsReadingRanges count 0 from from index index
IsReadingRanges-first count from index is ranges = record {
  same = refl;
  index_is = is;
  points = refl;
  so_far = subst (λ (rs : List RangeOp). AreRangesSoFar count (count - 0) (rest_of from) (rest_of from) rs) (sym (ap (ranges_in from.bytes.now) ranges))
      (subst (λ (n : ℕ). AreRangesSoFar count n (rest_of from) (rest_of from) []) (omega arith) (first_ranges count (rest_of from)));
}

-- one range operation more
pub IsReadingRanges-more : (count done : ℕ) (from reader next : Reader) (first index more : Index) (r : RangePlace)
    → IsReadingRanges count done from reader first index → done < count → next.bytes.now ≡ reader.bytes.now
    → range_at (rest_of reader) ≡ Ok (record { place = reader.place; item = range_in reader.bytes.now r }, rest_of next)
    → IsRangePlaced reader.bytes.now r → ((bytes : List ℕ) → IsIndex bytes index → IsRangePlaced bytes r → IsIndex bytes more)
    → more.points.items ≡ index.points.items → more.ranges.items ≡ index.ranges.items ++ r ∷ []
    → IsReadingRanges count (done + 1) from next first more
IsReadingRanges-more count done from reader next first index more r h lt same reading placed is points ranges =
    let w : List ℕ = from.bytes.now in
    let back : next.bytes.now ≡ w = same ∙ h.same in
    let fewer : count - done ≡ suc (count - (done + 1)) = omega arith in
    let was = subst (λ (n : ℕ). AreRangesSoFar count n (rest_of from) (rest_at w reader.place) (ranges_in w index.ranges.items)) fewer h.so_far in
    let read : range_at (rest_at w reader.place) ≡ Ok (record { place = reader.place; item = range_in w r }, rest_at w next.place) =
    subst (λ (v : List ℕ). range_at (rest_at v reader.place) ≡ Ok (record { place = reader.place; item = range_in v r }, rest_at w next.place)) h.same
    (subst (λ (v : List ℕ). range_at (rest_of reader) ≡ Ok (record { place = reader.place; item = range_in reader.bytes.now r }, rest_at v next.place)) back reading) in
    let now = more_ranges count (count - (done + 1)) (rest_of from) (rest_at w reader.place) (rest_at w next.place) (ranges_in w index.ranges.items) reader.place (range_in w r) was read in
    record {
      same = back;
      index_is = is w h.index_is (subst (λ (v : List ℕ). IsRangePlaced v r) h.same placed);
      points = points ∙ h.points;
      so_far = subst (AreRangesSoFar count (count - (done + 1)) (rest_of from) (rest_at w next.place))
          (sym (ap (ranges_in w) ranges ∙ map-append (range_in w) index.ranges.items (r ∷ []))) now;
    }

-- a range operation that cannot be read
pub IsReadingRanges-fault : (count done : ℕ) (from reader : Reader) (first index : Index) (fault : RunFault)
    → IsReadingRanges count done from reader first index → done < count → range_at (rest_of reader) ≡ Err fault → ranges_at count (rest_of from) ≡ Err fault
IsReadingRanges-fault count done from reader first index fault h lt reading =
    let w : List ℕ = from.bytes.now in
    let fewer : count - done ≡ suc (count - (done + 1)) = omega arith in
    fault_of_ranges count (count - (done + 1)) (rest_of from) (rest_at w reader.place) (ranges_in w index.ranges.items) fault
    (subst (λ (n : ℕ). AreRangesSoFar count n (rest_of from) (rest_at w reader.place) (ranges_in w index.ranges.items)) fewer h.so_far)
    (subst (λ (v : List ℕ). range_at (rest_at v reader.place) ≡ Err fault) h.same reading)

-- behind the last range operation
pub IsReadingRanges-last : (count done : ℕ) (from reader : Reader) (first index : Index)
    → IsReadingRanges count done from reader first index → count ≤ done → AreRangesAt count (rest_of from) (rest_of reader) (ranges_in from.bytes.now index.ranges.items)
IsReadingRanges-last count done from reader first index h le =
    let w : List ℕ = from.bytes.now in
    let none_left : count - done ≡ 0 = omega arith in
    subst (λ (v : List ℕ). AreRangesAt count (rest_of from) (rest_at v reader.place) (ranges_in w index.ranges.items)) (sym h.same)
    (last_ranges count (rest_of from) (rest_at w reader.place) (ranges_in w index.ranges.items)
    (subst (λ (n : ℕ). AreRangesSoFar count n (rest_of from) (rest_at w reader.place) (ranges_in w index.ranges.items)) none_left h.so_far))
