-- An index with one entry more.
use Rattle.std.proofs.Common.{◌≡◌, ℕ, List, [], ◌∷◌, ◌++◌, refl, sym, ap, ◌∙◌}
use Rattle.std.specs.Prelude.{Option, Some, None, option_to_list}
use Rattle.std.specs.List.{filter_map}
use Rattle.std.proofs.lemmas.List.{append-nil, map-append}
use Rattle.std.proofs.lemmas.List.Elements.{filter_map-append, All-push}
use Rattle.std.proofs.lemmas.List.Sums.{fold-append}
use Rattle.mvcc_key.specs.Order.{Timestamp}
use Rattle.mvcc_key.specs.Points.{Point}
use Rattle.run_block.specs.TimeSpan.{point_time, times_of, widened, span_of}
use Rattle.run_block.specs.views.Places.{point_in, points_in, ranges_in, IsPlaced, run_in, span_seen, IsIndex}
use Rattle.run_block.specs.declared.index.Index.{Index}
use Rattle.run_block.specs.declared.place.PointPlace.{PointPlace}
use Rattle.run_block.specs.declared.place.RangePlace.{RangePlace}

-- a span with a timestamp in it, where there is one
abbrev pub span_with : Option (Timestamp × Timestamp) → Option Timestamp → Option (Timestamp × Timestamp)
span_with span None = span
span_with span (Some t) = widened span t

-- the span of one timestamp more, where there is one
span_of-more : (times : List Timestamp) (o : Option Timestamp) → span_of (times ++ option_to_list o) ≡ span_with (span_of times) o
span_of-more times None = ap span_of (append-nil times)
span_of-more times (Some t) = fold-append widened None times (t ∷ [])

filter_map-one : {X Y : Type 0} (f : X → Option Y) (x : X) (ys : List Y) → filter_map f (x ∷ []) ++ ys ≡ option_to_list (f x) ++ ys
filter_map-one f x ys = by (f x) refl
  where
    by : (o : Option _) → f x ≡ o → filter_map f (x ∷ []) ++ ys ≡ option_to_list (f x) ++ ys
    by None e = rw e refl
    by (Some y) e = rw e refl

-- the timestamps with one point more, before any range operation
times_of-point : (ps : List Point) (p : Point) → times_of (record { points = ps ++ p ∷ []; ranges = [] }) ≡ times_of (record { points = ps; ranges = [] }) ++ option_to_list (point_time p)
times_of-point ps p =
    append-nil (filter_map point_time (ps ++ p ∷ []))
    ∙ filter_map-append point_time ps (p ∷ [])
    ∙ ap (λ (xs : List Timestamp). filter_map point_time ps ++ xs) (sym (append-nil (filter_map point_time (p ∷ []))) ∙ filter_map-one point_time p [] ∙ append-nil (option_to_list (point_time p)))
    ∙ ap (λ (xs : List Timestamp). xs ++ option_to_list (point_time p)) (sym (append-nil (filter_map point_time ps)))

-- an index with one point more
pub index-point : (bytes : List ℕ) (old new : Index) (p : PointPlace) → IsIndex bytes old → IsPlaced bytes p → old.ranges.items ≡ []
    → new.ranges.items ≡ old.ranges.items → new.points.items ≡ old.points.items ++ p ∷ []
    → span_seen new.span ≡ span_with (span_seen old.span) (point_time (point_in bytes p)) → IsIndex bytes new
index-point bytes old new p is placed none same more span =
    let empty : new.ranges.items ≡ [] = same ∙ none in
    let was : times_of (run_in bytes old) ≡ times_of (record { points = points_in bytes old.points.items; ranges = [] }) =
    ap (λ (rs : List RangePlace). times_of (record { points = points_in bytes old.points.items; ranges = ranges_in bytes rs })) none in
    let now : times_of (run_in bytes new) ≡ times_of (record { points = points_in bytes old.points.items ++ point_in bytes p ∷ []; ranges = [] }) =
    ap (λ (rs : List RangePlace). times_of (record { points = points_in bytes new.points.items; ranges = ranges_in bytes rs })) empty
    ∙ ap (λ (ps : List Point). times_of (record { points = ps; ranges = [] })) (ap (points_in bytes) more ∙ map-append (point_in bytes) old.points.items (p ∷ [])) in
    let times : times_of (run_in bytes new) ≡ times_of (run_in bytes old) ++ option_to_list (point_time (point_in bytes p)) =
    now ∙ times_of-point (points_in bytes old.points.items) (point_in bytes p) ∙ ap (λ (ts : List Timestamp). ts ++ option_to_list (point_time (point_in bytes p))) (sym was) in
    record {
      points = rw more (All-push (IsPlaced bytes) old.points.items p is.points placed);
      ranges = rw same is.ranges;
      span = span ∙ ap (λ (s : Option (Timestamp × Timestamp)). span_with s (point_time (point_in bytes p))) is.span
          ∙ sym (span_of-more (times_of (run_in bytes old)) (point_time (point_in bytes p))) ∙ ap span_of (sym times);
    }
