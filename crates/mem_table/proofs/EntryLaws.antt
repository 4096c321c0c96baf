-- Entries by their operations and by their points.
use Rattle.std.proofs.Common.{◌≡◌, List, [], ◌∷◌, ◌++◌, refl, ap, ◌∙◌}
use Rattle.std.specs.List.{AllByRecursion}
use Rattle.std.specs.List.Sorted.{IsStrictlySortedBy}
use Rattle.std.specs.declared.cmp.Ordering.{Ordering}
use Rattle.std.specs.declared.cmp.Ordering.TheVariants.{Less, Equal, Greater}
use Rattle.std.specs.Ordering.{match_ordering}
use Rattle.std.specs.Cmp.{IsTotalOrder}
use Rattle.std.proofs.lemmas.Cmp.{on_total}
use Rattle.std.proofs.lemmas.List.{map-append}
use Rattle.std.proofs.lemmas.List.Elements.{All-from_recursion, recursion_from_All}
use Rattle.mvcc_key.specs.Lists.{put_in_order, in_order}
use Rattle.mvcc_key.specs.Points.{Point, point_cmp}
use Rattle.mvcc_key.specs.views.SeenPoint.{point_of, points_of}
use Rattle.mvcc_key.specs.declared.batch.PointOp.{PointOp}
use Rattle.mvcc_key.proofs.OrderLaws.{name_cmp-total}
use Rattle.mvcc_key.proofs.SortedLaws.{in_order-sorted}
use Rattle.mvcc_key.proofs.PointLaws.{sorted-rising, rising-sorted}
use Rattle.mvcc_key.proofs.EachLaws.{All-append, All-in_order}
use Rattle.mvcc_key.specs.Batches.{IsStorable, AreEntries}
use Rattle.mem_table.specs.views.Places.{name_of_op, op_cmp, newest_ops}
use Rattle.mem_table.proofs.OrderedLaws.{each-front, sorted_front}

-- the order of operations is total
pub op_cmp-total : IsTotalOrder op_cmp
op_cmp-total = on_total name_of_op name_cmp-total

-- ---- sorted operations and rising points

each_seen : (op : PointOp) (ops : List PointOp) → AllByRecursion (λ q. op_cmp op q ≡ Less) ops → AllByRecursion (λ q. point_cmp (point_of op) q ≡ Less) (points_of ops)
each_seen op [] h = tt
each_seen op (q ∷ qs) h = (h.0, each_seen op qs h.1)

seen_each : (op : PointOp) (ops : List PointOp) → AllByRecursion (λ q. point_cmp (point_of op) q ≡ Less) (points_of ops) → AllByRecursion (λ q. op_cmp op q ≡ Less) ops
seen_each op [] h = tt
seen_each op (q ∷ qs) h = (h.0, seen_each op qs h.1)

-- operations in order have points in order
sorted_seen : (ops : List PointOp) → IsStrictlySortedBy op_cmp ops → IsStrictlySortedBy point_cmp (points_of ops)
unfolding IsStrictlySortedBy
sorted_seen [] s = tt
sorted_seen (op ∷ ops) s = (each_seen op ops s.0, sorted_seen ops s.1)

seen_sorted : (ops : List PointOp) → IsStrictlySortedBy point_cmp (points_of ops) → IsStrictlySortedBy op_cmp ops
unfolding IsStrictlySortedBy
seen_sorted [] s = tt
seen_sorted (op ∷ ops) s = (seen_each op ops s.0, seen_sorted ops s.1)

-- ---- entries

-- entries are in order
pub sorted-entries : (ops : List PointOp) → AreEntries ops → IsStrictlySortedBy op_cmp ops
sorted-entries ops e = seen_sorted ops (sorted-rising (points_of ops) e.rising)

-- each is storable
pub each-entries : (ops : List PointOp) → AreEntries ops → AllByRecursion IsStorable ops
each-entries ops e = recursion_from_All IsStorable ops e.storable

-- storable operations in order are entries
pub entries-sorted : (ops : List PointOp) → AllByRecursion IsStorable ops → IsStrictlySortedBy op_cmp ops → AreEntries ops
entries-sorted ops each s = record { storable = All-from_recursion IsStorable ops each; rising = rising-sorted (points_of ops) (sorted_seen ops s) }

-- entries without their end
pub entries-front : (ops others : List PointOp) → AreEntries (ops ++ others) → AreEntries ops
entries-front ops others e =
    entries-sorted ops (each-front IsStorable ops others (each-entries (ops ++ others) e)) (sorted_front op_cmp ops others (sorted-entries (ops ++ others) e))

-- one storable operation is entries
pub entries-one : (op : PointOp) → IsStorable op → AreEntries (op ∷ [])
unfolding IsStrictlySortedBy
entries-one op h = entries-sorted (op ∷ []) (h, tt) (tt, tt)

-- newer entries among older ones are entries
pub entries-newest : (newer older : List PointOp) → AreEntries newer → AreEntries older → AreEntries (newest_ops newer older)
entries-newest newer older n o =
    entries-sorted (newest_ops newer older)
    (All-in_order op_cmp IsStorable (newer ++ older) (All-append IsStorable newer older (each-entries newer n) (each-entries older o)))
    (in_order-sorted op_cmp-total (newer ++ older))

-- ---- points of operations in order

points-put : (op : PointOp) (ops : List PointOp) → points_of (put_in_order op_cmp op ops) ≡ put_in_order point_cmp (point_of op) (points_of ops)
points-put op [] = refl
points-put op (q ∷ qs) = by (op_cmp op q) (points-put op qs)
  where
    by : (o : Ordering) → points_of (put_in_order op_cmp op qs) ≡ put_in_order point_cmp (point_of op) (points_of qs)
        → points_of (match_ordering o (op ∷ q ∷ qs) (op ∷ qs) (q ∷ put_in_order op_cmp op qs))
        ≡ match_ordering o (point_of op ∷ point_of q ∷ points_of qs) (point_of op ∷ points_of qs) (point_of q ∷ put_in_order point_cmp (point_of op) (points_of qs))
    by Less e = refl
    by Equal e = refl
    by Greater e = ap (λ (ps : List Point). point_of q ∷ ps) e

-- operations in order have their points in order
pub points-in_order : (ops : List PointOp) → points_of (in_order op_cmp ops) ≡ in_order point_cmp (points_of ops)
points-in_order [] = refl
points-in_order (op ∷ ops) = points-put op (in_order op_cmp ops) ∙ ap (put_in_order point_cmp (point_of op)) (points-in_order ops)

-- the newest operations have the newest points
pub points-newest : (newer older : List PointOp) → points_of (newest_ops newer older) ≡ in_order point_cmp (points_of newer ++ points_of older)
points-newest newer older = points-in_order (newer ++ older) ∙ ap (in_order point_cmp) (map-append point_of newer older)
