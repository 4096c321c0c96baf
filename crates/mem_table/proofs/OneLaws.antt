-- One newer operation put among older ones.
use Rattle.std.proofs.Common.{◌≡◌, ℕ, suc, ◌+◌, ◌<◌, ◌≤◌, List, [], ◌∷◌, ◌++◌, length, take, drop, sym, ap, ap₂, subst, ◌∙◌, arith}
use Rattle.std.specs.Prelude.{◌≢◌, slice_get, Some}
use Rattle.std.specs.List.{AllByRecursion, insert}
use Rattle.std.proofs.Math.Seq.{drop-cons}
use Rattle.std.proofs.lemmas.List.{take-append-drop, map-append}
use Rattle.std.proofs.lemmas.Option.{slice_get_within, get_or_from_slice_get}
use Rattle.std.proofs.lemmas.List.Elements.{recursion_from_All}
use Rattle.mvcc_key.specs.Lists.{put_in_order}
use Rattle.mvcc_key.specs.Encoded.{name_in}
use Rattle.mvcc_key.specs.declared.batch.PointOp.{PointOp}
use Rattle.mvcc_key.specs.Batches.{AreEntries}
use Rattle.mem_table.specs.views.Places.{op_cmp, newest_ops, listed, AreNumbersOf, IsStored, IsRangeOf}
use Rattle.mem_table.proofs.OrderedLaws.{each-front, put-range}
use Rattle.mvcc_key.proofs.SortedLaws.{in_order-same}
use Rattle.mem_table.proofs.EntryLaws.{op_cmp-total, sorted-entries}
use Rattle.mem_table.proofs.RangeLaws.{range-op}
use Rattle.mem_table.proofs.NumberLaws.{AreApart, IsAmong, among-known, among-new, each-back}
use Rattle.mem_table.proofs.ListedLaws.{take-listed, drop-listed, listed-kept, listed-here, apart-entries}

-- the newest of one operation and older ones
newest-one : (op : PointOp) (older : List PointOp) (low behind : ℕ) → AreEntries older → IsRangeOf (name_in op.key) older low behind
    → newest_ops (op ∷ []) older ≡ take low older ++ op ∷ drop behind older
newest-one op older low behind o range =
    ap (put_in_order op_cmp op) (in_order-same op_cmp older (sorted-entries older o))
    ∙ put-range op_cmp-total op older low behind (range-op op older low behind range)

-- the operation stands under its number, and the others stay
listed-among : (op : PointOp) (number : ℕ) (ops new : List PointOp) (xs ys : List ℕ) → IsStored op number ops new
    → IsAmong xs ys number (length ops) (length new) → listed new (xs ++ number ∷ ys) ≡ listed ops xs ++ op ∷ listed ops ys
listed-among op number ops new xs ys stored among =
    let front : listed new xs ≡ listed ops xs =
    listed-kept op number ops new xs stored (each-front (λ n. n < length ops) xs ys among.kept) (each-front (λ n. n ≢ number) xs ys among.others) in
    let back : listed new ys ≡ listed ops ys =
    listed-kept op number ops new ys stored (each-back (λ n. n < length ops) xs ys among.kept) (each-back (λ n. n ≢ number) xs ys among.others) in
    map-append _ xs (number ∷ ys)
    ∙ ap₂ (λ (us vs : List PointOp). us ++ vs) front (listed-here op number ops new ys stored ∙ ap (λ (us : List PointOp). op ∷ us) back)

-- as a part of the newest
among-newest : (op : PointOp) (number : ℕ) (ops new : List PointOp) (order : List ℕ) (low behind : ℕ) → AreEntries (listed ops order)
    → IsRangeOf (name_in op.key) (listed ops order) low behind → IsStored op number ops new
    → IsAmong (take low order) (drop behind order) number (length ops) (length new)
    → listed new (take low order ++ number ∷ drop behind order) ≡ newest_ops (op ∷ []) (listed ops order)
among-newest op number ops new order low behind o range stored among =
    listed-among op number ops new (take low order) (drop behind order) stored among
    ∙ ap₂ (λ (us vs : List PointOp). us ++ op ∷ vs) (sym (take-listed low ops order)) (sym (drop-listed behind ops order))
    ∙ sym (newest-one op (listed ops order) low behind o range)

-- an order with the number at a place
at-place : (order : List ℕ) (low behind number : ℕ) → low < behind → behind ≤ low + 1 → slice_get order low ≡ Some number
    → order ≡ take low order ++ number ∷ drop behind order
at-place order low behind number some one is =
    let next : suc low ≡ behind = omega arith in
    let back : drop low order ≡ number ∷ drop behind order =
    drop-cons order low number (slice_get_within order low number is)
    ∙ ap₂ (λ (n m : ℕ). n ∷ drop m order) (get_or_from_slice_get order low number number is) next in
    sym (take-append-drop low order) ∙ ap (λ (ns : List ℕ). take low order ++ ns) back

-- an operation under the number of its name
pub one-known : (op : PointOp) (number : ℕ) (ops new : List PointOp) (order : List ℕ) (low behind : ℕ) → AreNumbersOf ops order
    → AreEntries (listed ops order) → IsRangeOf (name_in op.key) (listed ops order) low behind → IsStored op number ops new
    → low < behind → slice_get order low ≡ Some number → listed new order ≡ newest_ops (op ∷ []) (listed ops order)
one-known op number ops new order low behind numbers o range stored some is =
    let parts : order ≡ take low order ++ number ∷ drop behind order = at-place order low behind number some range.one is in
    ap (listed new) parts
    ∙ among-newest op number ops new order low behind o range stored
    (among-known (take low order) (drop behind order) number (length ops) (length new) stored.longer
    (subst (AllByRecursion (λ n. n < length ops)) parts (recursion_from_All (λ n. n < length ops) order numbers))
    (subst AreApart parts (apart-entries ops order o)))

-- an operation under a new number
pub one-new : (op : PointOp) (number : ℕ) (ops new : List PointOp) (order : List ℕ) (low behind : ℕ) → AreNumbersOf ops order
    → AreEntries (listed ops order) → IsRangeOf (name_in op.key) (listed ops order) low behind → IsStored op number ops new
    → low ≡ behind → number ≡ length ops → listed new (insert order low number) ≡ newest_ops (op ∷ []) (listed ops order)
one-new op number ops new order low behind numbers o range stored none is =
    let parts : take low order ++ drop behind order ≡ order = ap (λ (n : ℕ). take low order ++ drop n order) (sym none) ∙ take-append-drop low order in
    ap (λ (n : ℕ). listed new (take low order ++ number ∷ drop n order)) none
    ∙ among-newest op number ops new order low behind o range stored
    (among-new (take low order) (drop behind order) number (length ops) (length new) stored.longer is (slice_get_within new number op stored.here)
    (subst (AllByRecursion (λ n. n < length ops)) (sym parts) (recursion_from_All (λ n. n < length ops) order numbers))
    (subst AreApart (sym parts) (apart-entries ops order o)))
