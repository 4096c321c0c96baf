-- Points behind a head are the same behind another.
use Rattle.std.proofs.Common.{◌≡◌, ℕ, ◌+◌, ◌-◌, ◌≤◌, List, [], ◌∷◌, ◌++◌, length, take, drop, refl, sym, ap, subst, ◌∙◌, arith}
use Rattle.std.specs.Prelude.{Option, Some, None, All}
use Rattle.std.specs.Option.{ForSome, option_map}
use Rattle.std.specs.List.{flat_map}
use Rattle.std.proofs.Math.Seq.{drop-append-add}
use Rattle.std.proofs.lemmas.List.{length-append}
use Rattle.std.proofs.lemmas.List.Elements.{All-head, All-tail, All-nil}
use Rattle.mvcc_key.specs.Encoded.{IsName, name_in}
use Rattle.mvcc_key.specs.views.AbbreviatedKey.{IsAbbreviatedKey}
use Rattle.mvcc_key.specs.Points.{Point}
use Rattle.run_block.specs.RunFormat.{Run, point_bytes}
use Rattle.run_block.specs.TimeSpan.{times_of, span_of}
use Rattle.run_block.specs.views.Places.{piece_in, point_in, points_in, ranges_in, IsPlaced, IsRangePlaced, run_in, IsIndex}
use Rattle.run_block.specs.views.Writing.{head_bytes, IsBehind}
use Rattle.run_block.specs.declared.index.Index.{Index}
use Rattle.run_block.specs.declared.piece.Piece.{Piece}
use Rattle.run_block.specs.declared.place.PointPlace.{PointPlace}
use Rattle.run_block.specs.declared.place.RangePlace.{RangePlace}

-- what lies behind a head
drop-behind : (a b rest : List ℕ) (n : ℕ) → length a ≡ length b → length a ≤ n → drop n (b ++ rest) ≡ drop n (a ++ rest)
drop-behind a b rest n same le =
    let under : length b + (n - length a) ≡ n = omega arith in
    let over : n ≡ length a + (n - length a) = omega arith in
    ap (λ (k : ℕ). drop k (b ++ rest)) (sym under) ∙ drop-append-add b rest (n - length a)
    ∙ sym (drop-append-add a rest (n - length a)) ∙ ap (λ (k : ℕ). drop k (a ++ rest)) (sym over)

-- a piece behind a head
piece_in-behind : (a b rest : List ℕ) (p : Piece) → length a ≡ length b → length a ≤ p.start → piece_in (b ++ rest) p ≡ piece_in (a ++ rest) p
piece_in-behind a b rest p same le = ap (λ (xs : List ℕ). take (p.end - p.start) xs) (drop-behind a b rest p.start same le)

value_in-behind : (a b rest : List ℕ) (value : Option Piece) → length a ≡ length b → ForSome value (λ v. length a ≤ v.start)
    → option_map (piece_in (b ++ rest)) value ≡ option_map (piece_in (a ++ rest)) value
value_in-behind a b rest None same h = refl
value_in-behind a b rest (Some p) same h = ap (λ (x : List ℕ). Some x) (piece_in-behind a b rest p same (h p refl))

-- a point behind a head
point_in-behind : (a b rest : List ℕ) (p : PointPlace) → length a ≡ length b → IsBehind (length a) p → point_in (b ++ rest) p ≡ point_in (a ++ rest) p
point_in-behind a b rest p same h =
    let key = piece_in-behind a b rest p.key same h.key in
    let value = value_in-behind a b rest p.value same h.value in
    λ i. record { name = name_in (key i); value = value i }

placed-behind : (a b rest : List ℕ) (p : PointPlace) → length a ≡ length b → IsBehind (length a) p → IsPlaced (a ++ rest) p → IsPlaced (b ++ rest) p
placed-behind a b rest p same behind h =
    let before = length-append a rest in
    let after = length-append b rest in
    record {
      key = (let k = h.key in omega arith);
      value = λ v e. (let le = h.value v e in omega arith);
      name = subst IsName (sym (piece_in-behind a b rest p.key same behind.key)) h.name;
      abbreviated = subst (λ (key : List ℕ). IsAbbreviatedKey (name_in key).key p.abbreviated_key) (sym (piece_in-behind a b rest p.key same behind.key)) h.abbreviated;
    }

-- points behind a head
points_in-behind : (a b rest : List ℕ) (ps : List PointPlace) → length a ≡ length b → All (IsBehind (length a)) ps → points_in (b ++ rest) ps ≡ points_in (a ++ rest) ps
points_in-behind a b rest [] same all = refl
points_in-behind a b rest (p ∷ ps) same all =
    let first = point_in-behind a b rest p same (All-head (IsBehind (length a)) p ps all) in
    let others = points_in-behind a b rest ps same (All-tail (IsBehind (length a)) p ps all) in
    λ i. first i ∷ others i

-- the run of the points behind a head
run_in-behind : (a b rest : List ℕ) (index : Index) → length a ≡ length b → All (IsBehind (length a)) index.points.items → index.ranges.items ≡ []
    → run_in (b ++ rest) index ≡ run_in (a ++ rest) index
run_in-behind a b rest index same behind none =
    let points = points_in-behind a b rest index.points.items same behind in
    let ranges = ap (ranges_in (b ++ rest)) none ∙ sym (ap (ranges_in (a ++ rest)) none) in
    λ i. record { points = points i; ranges = ranges i }

-- an index of points behind a head
index-behind : (a b rest : List ℕ) (index : Index) → length a ≡ length b → All (IsBehind (length a)) index.points.items → index.ranges.items ≡ []
    → IsIndex (a ++ rest) index → IsIndex (b ++ rest) index
index-behind a b rest index same behind none is = record {
  points = λ k d lt. placed-behind a b rest _ same (behind k d lt) (is.points k d lt);
  ranges = subst (λ (rs : List RangePlace). All (IsRangePlaced (b ++ rest)) rs) (sym none) (All-nil (IsRangePlaced (b ++ rest)));
  span = is.span ∙ ap (λ (r : Run). span_of (times_of r)) (sym (run_in-behind a b rest index same behind none));
}

-- ---- the count in a head

-- points behind a head that counts them, and so many range operations
pub record IsCounted (next : List ℕ) (index : Index) (count ranges : ℕ) (ps : List Point) : Type 0 where
  pub items : next ≡ head_bytes count ranges ++ flat_map point_bytes (points_in next index.points.items)
  pub index_is : IsIndex next index
  pub points_are : points_in next index.points.items ≡ ps

-- they are counted in the place of none
head-counted : (bytes next : List ℕ) (index : Index) (count ranges : ℕ) (ps : List Point) → bytes ≡ head_bytes 0 ranges ++ flat_map point_bytes ps
    → points_in bytes index.points.items ≡ ps → IsIndex bytes index → All (IsBehind 24) index.points.items → index.ranges.items ≡ []
    → next ≡ head_bytes count ranges ++ flat_map point_bytes ps → IsCounted next index count ranges ps
head-counted bytes next index count ranges ps was points index_is behind none is =
    let places = index.points.items in
    let body : List ℕ = flat_map point_bytes ps in
    let old : List ℕ = head_bytes 0 ranges in
    let new : List ℕ = head_bytes count ranges in
    let index_was : IsIndex (old ++ body) index = subst (λ (v : List ℕ). IsIndex v index) was index_is in
    let now : points_in next places ≡ ps =
    ap (λ (v : List ℕ). points_in v places) is ∙ points_in-behind old new body places refl behind ∙ ap (λ (v : List ℕ). points_in v places) (sym was) ∙ points in
    record {
      items = is ∙ ap (λ (qs : List Point). head_bytes count ranges ++ flat_map point_bytes qs) (sym now);
      index_is = subst (λ (v : List ℕ). IsIndex v index) (sym is) (index-behind old new body index refl behind none index_was);
      points_are = now;
    }

-- the points that were put behind a head which counts none
pub points-counted : (made headed added next : List ℕ) (index : Index) (len count ranges : ℕ) (ps : List Point) → made ≡ [] → headed ≡ made ++ head_bytes 0 ranges
    → added ≡ headed ++ flat_map point_bytes ps → points_in added index.points.items ≡ ps → IsIndex added index → All (IsBehind (length headed)) index.points.items
    → index.ranges.items ≡ [] → len ≡ count
    → ((before ranges : ℕ) (body : List ℕ) → added ≡ head_bytes before ranges ++ body → next ≡ head_bytes len ranges ++ body) → IsCounted next index count ranges ps
points-counted made headed added next index len count ranges ps none_made head body points index_is behind none counts set =
    let head_is : headed ≡ head_bytes 0 ranges = head ∙ ap (λ (v : List ℕ). v ++ head_bytes 0 ranges) none_made in
    let was : added ≡ head_bytes 0 ranges ++ flat_map point_bytes ps = body ∙ ap (λ (v : List ℕ). v ++ flat_map point_bytes ps) head_is in
    let past : All (IsBehind 24) index.points.items = subst (λ (n : ℕ). All (IsBehind n) index.points.items) (ap length head_is) behind in
    let is : next ≡ head_bytes count ranges ++ flat_map point_bytes ps =
    set 0 ranges (flat_map point_bytes ps) was ∙ ap (λ (n : ℕ). head_bytes n ranges ++ flat_map point_bytes ps) counts in
    head-counted added next index count ranges ps was points index_is past none is
