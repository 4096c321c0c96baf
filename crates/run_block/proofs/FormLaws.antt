-- Runs by what holds of each entry, and by what is read one entry after another.
use Rattle.std.proofs.Common.{◌≡◌, ℕ, ◌≤◌, true, List, [], ◌∷◌, length, refl, ap, arith}
use Rattle.std.specs.Prelude.{Option, Some, None, All, ⊤}
use Rattle.std.specs.Option.{ForSome}
use Rattle.std.specs.List.{AllByRecursion}
use Rattle.std.specs.List.Sorted.{IsStrictlySortedBy}
use Rattle.std.specs.declared.cmp.Ordering.TheVariants.{Less}
use Rattle.std.specs.Ordering.{is_lt}
use Rattle.std.proofs.lemmas.List.{nil_from_length}
use Rattle.std.proofs.lemmas.List.Elements.{All-from_recursion, All-head, All-tail}
use Rattle.mvcc_key.specs.Order.{Name, name_cmp}
use Rattle.mvcc_key.specs.Limits.{max_stored_length}
use Rattle.mvcc_key.specs.Points.{Point, point_cmp, IsRising}
use Rattle.mvcc_key.proofs.OrderLaws.{name_cmp-total}
use Rattle.mvcc_key.proofs.PointLaws.{rising_rest, rising-sorted}
use Rattle.mvcc_key.specs.RangeOperations.{RangeOp}
use Rattle.mvcc_key.proofs.TimeLaws.{less_from}
use Rattle.run_block.specs.RunFormat.{Run, is_next}
use Rattle.run_block.specs.Runs.{IsStoredRange, IsRun, BytesAreRead, ReadBytesAreOfRun}
use Rattle.mvcc_key.specs.Batches.{IsStoredPoint}
use Rattle.run_block.proofs.RunLaws.{IsPointValue, AreRunPoints, IsRangeValue, AreRunRanges, IsReadable, IsSpelled-run_of, run_of-run_bytes}

-- ---- from each to one after another

point_value : (value : Option (List ℕ)) → ForSome value (λ v. length v ≤ max_stored_length) → IsPointValue value
point_value None h = tt
point_value (Some v) h = h v refl

range_value : (value : Option (List ℕ)) → ForSome value (λ v. v ≡ []) → IsRangeValue value
range_value None h = tt
range_value (Some v) h = ap length (h v refl)

-- the first point is above the name
abbrev IsAbove : Option Name → List Point → Type 0
IsAbove None ps = ⊤
IsAbove (Some n) [] = ⊤
IsAbove (Some n) (p ∷ ps) = name_cmp n p.name ≡ Less

next_above : (before : Option Name) (p : Point) (ps : List Point) → IsAbove before (p ∷ ps) → is_next before p.name ≡ true
next_above None p ps h = refl
next_above (Some n) p ps h = ap is_lt h

above_first : (p : Point) (ps : List Point) → IsRising (p ∷ ps) → IsAbove (Some p.name) ps
above_first p [] rising = tt
above_first p (q ∷ qs) rising = rising 0 1 p q (omega arith) refl refl

run_points : (before : Option Name) (ps : List Point) → All IsStoredPoint ps → IsRising ps → IsAbove before ps → AreRunPoints before ps
run_points before [] all rising above = tt
run_points before (p ∷ ps) all rising above =
    let first = All-head IsStoredPoint p ps all in (
      record { name = record { some = first.some; size = first.short; range = first.range }; next = next_above before p ps above; value = point_value p.value first.value },
      run_points (Some p.name) ps (All-tail IsStoredPoint p ps all) (rising_rest (λ (q : Point). q.name) p ps rising) (above_first p ps rising),
    )

run_ranges : (rs : List RangeOp) → All IsStoredRange rs → AreRunRanges rs
run_ranges [] all = tt
run_ranges (r ∷ rs) all =
    let first = All-head IsStoredRange r rs all in
    (record { start = first.start; end = first.end; value = range_value r.value first.value; form = first.form }, run_ranges rs (All-tail IsStoredRange r rs all))

-- a run can be read one entry after another
pub readable : (r : Run) → IsRun r → IsReadable r
readable r h = record {
  point_count = h.point_count;
  range_count = h.range_count;
  points = run_points None r.points h.points h.rising tt;
  ranges = run_ranges r.ranges h.ranges;
}

-- ---- from one after another to each

stored_value : (value : Option (List ℕ)) → IsPointValue value → ForSome value (λ v. length v ≤ max_stored_length)
stored_value None h v e = absurd cc
stored_value (Some w) h v e = (let same : w ≡ v = cc in rw (← same) h)

empty_value : (value : Option (List ℕ)) → IsRangeValue value → ForSome value (λ v. v ≡ [])
empty_value None h v e = absurd cc
empty_value (Some w) h v e = (let same : w ≡ v = cc in rw (← same) (nil_from_length w h))

each_above : (m n : Name) (ps : List Point) → name_cmp m n ≡ Less → AllByRecursion (λ q. name_cmp n q.name ≡ Less) ps → AllByRecursion (λ q. name_cmp m q.name ≡ Less) ps
each_above m n [] lt h = tt
each_above m n (p ∷ ps) lt h = (name_cmp-total.trans m n p.name lt h.0, each_above m n ps lt h.1)

all_above : (n : Name) (ps : List Point) → AreRunPoints (Some n) ps → AllByRecursion (λ q. name_cmp n q.name ≡ Less) ps
all_above n [] h = tt
all_above n (p ∷ ps) h =
    let first = h.0 in
    let less : name_cmp n p.name ≡ Less = less_from (name_cmp n p.name) first.next in
    (less, each_above n p.name ps less (all_above p.name ps h.1))

sorted_points : (before : Option Name) (ps : List Point) → AreRunPoints before ps → IsStrictlySortedBy point_cmp ps
unfolding IsStrictlySortedBy
sorted_points before [] h = tt
sorted_points before (p ∷ ps) h = (all_above p.name ps h.1, sorted_points (Some p.name) ps h.1)

stored_points : (before : Option Name) (ps : List Point) → AreRunPoints before ps → AllByRecursion IsStoredPoint ps
stored_points before [] h = tt
stored_points before (p ∷ ps) h =
    let first = h.0 in
    let name = first.name in
    (record { some = name.some; short = name.size; range = name.range; value = stored_value p.value first.value }, stored_points (Some p.name) ps h.1)

stored_ranges : (rs : List RangeOp) → AreRunRanges rs → AllByRecursion IsStoredRange rs
stored_ranges [] h = tt
stored_ranges (r ∷ rs) h =
    let first = h.0 in
    (record { start = first.start; end = first.end; form = first.form; value = empty_value r.value first.value }, stored_ranges rs h.1)

-- what was read one entry after another is a run
pub run_of-readable : (r : Run) → IsReadable r → IsRun r
run_of-readable r h = record {
  points = All-from_recursion IsStoredPoint r.points (stored_points None r.points h.points);
  rising = rising-sorted r.points (sorted_points None r.points h.points);
  ranges = All-from_recursion IsStoredRange r.ranges (stored_ranges r.ranges h.ranges);
  point_count = h.point_count;
  range_count = h.range_count;
}

-- ---- the laws of the bytes

-- a run is read from its bytes
pub bytes_are_read : BytesAreRead
bytes_are_read r h = run_of-run_bytes r (readable r h)

-- bytes that are read are those of the run that is read
pub read_bytes_are_of_run : ReadBytesAreOfRun
read_bytes_are_of_run bytes r fits e =
    let spelled = IsSpelled-run_of bytes r fits e in record { spelled = spelled.bytes_are; run = run_of-readable r spelled.is_run }
