-- Operations by their numbers.
use Rattle.std.proofs.Common.{◌≡◌, ℕ, ◌<◌, List, [], ◌∷◌, length, take, drop, get_or, refl, sym, ap, ◌∙◌}
use Rattle.std.specs.Prelude.{◌≢◌}
use Rattle.std.specs.List.{AllByRecursion}
use Rattle.std.specs.List.Sorted.{IsStrictlySortedBy}
use Rattle.std.specs.declared.cmp.Ordering.TheVariants.{Less, Greater}
use Rattle.std.specs.Ordering.{ordering_reverse}
use Rattle.std.proofs.lemmas.List.{take-map, drop-map}
use Rattle.std.proofs.lemmas.Option.{get_or_from_slice_get, slice_get-get_or}
use Rattle.mvcc_key.specs.declared.batch.PointOp.{PointOp}
use Rattle.mvcc_key.specs.Batches.{AreEntries}
use Rattle.mem_table.specs.views.Places.{op_cmp, no_op, listed, IsStored}
use Rattle.mem_table.proofs.EntryLaws.{op_cmp-total, sorted-entries}
use Rattle.mem_table.proofs.NumberLaws.{AreApart}

-- the first of them
pub take-listed : (n : ℕ) (ops : List PointOp) (order : List ℕ) → take n (listed ops order) ≡ listed ops (take n order)
take-listed n ops order = take-map _ n order

-- those behind
pub drop-listed : (n : ℕ) (ops : List PointOp) (order : List ℕ) → drop n (listed ops order) ≡ listed ops (drop n order)
drop-listed n ops order = drop-map _ n order

-- ---- a changed operation

-- the others stay
pub listed-kept : (op : PointOp) (number : ℕ) (ops new : List PointOp) (order : List ℕ) → IsStored op number ops new
    → AllByRecursion (λ n. n < length ops) order → AllByRecursion (λ n. n ≢ number) order → listed new order ≡ listed ops order
listed-kept op number ops new [] stored below others = refl
listed-kept op number ops new (n ∷ ns) stored below others =
    let here : get_or new n no_op ≡ get_or ops n no_op = get_or_from_slice_get new n (get_or ops n no_op) no_op (stored.others n below.0 others.0 ∙ slice_get-get_or ops n no_op below.0) in
    ap (λ (q : PointOp). q ∷ listed new ns) here ∙ ap (λ (qs : List PointOp). get_or ops n no_op ∷ qs) (listed-kept op number ops new ns stored below.1 others.1)

-- and it is listed under its number
pub listed-here : (op : PointOp) (number : ℕ) (ops new : List PointOp) (order : List ℕ) → IsStored op number ops new → listed new (number ∷ order) ≡ op ∷ listed new order
listed-here op number ops new order stored = ap (λ (q : PointOp). q ∷ listed new order) (get_or_from_slice_get new number op no_op stored.here)

-- ---- numbers of operations in order are apart

not-itself : (op : PointOp) → op_cmp op op ≢ Less
not-itself op less =
    let greater : op_cmp op op ≡ Greater = op_cmp-total.antisymm op op ∙ ap ordering_reverse less in
    cc

apart-each : (ops : List PointOp) (n : ℕ) (ns : List ℕ) → AllByRecursion (λ q. op_cmp (get_or ops n no_op) q ≡ Less) (listed ops ns) → AllByRecursion (λ m. m ≢ n) ns
apart-each ops n [] h = tt
apart-each ops n (m ∷ ns) h =
    ((λ same. not-itself (get_or ops n no_op) (ap (λ (k : ℕ). op_cmp (get_or ops n no_op) (get_or ops k no_op)) (sym same) ∙ h.0)), apart-each ops n ns h.1)

apart-sorted : (ops : List PointOp) (ns : List ℕ) → IsStrictlySortedBy op_cmp (listed ops ns) → AreApart ns
unfolding AreApart IsStrictlySortedBy
apart-sorted ops [] s = tt
apart-sorted ops (n ∷ ns) s = (apart-each ops n ns s.0, apart-sorted ops ns s.1)

-- numbers of entries are apart
pub apart-entries : (ops : List PointOp) (order : List ℕ) → AreEntries (listed ops order) → AreApart order
apart-entries ops order e = apart-sorted ops order (sorted-entries (listed ops order) e)
