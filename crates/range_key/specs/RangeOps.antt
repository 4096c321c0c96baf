-- Range operations, and what they make of tombstones and of their fragments.
use Rattle.std.specs.Prelude.{◌≡◌, Bool, true, List, [], Some, None, is_some, fold, map, if◌then◌else◌}
use Rattle.std.specs.List.{AllPass, AllByRecursion}
use Rattle.mvcc_key.specs.Order.{Timestamp, is_same_time, Key, is_below}
use Rattle.mvcc_key.specs.History.{RangeTombstone, with_tombstone}
use Rattle.mvcc_key.specs.Fragments.{Fragment, fragments, take_out, tombstones_of}
use Rattle.mvcc_key.specs.Canonical.{IsCanonical}
use Rattle.mvcc_key.specs.RangeOperations.{RangeOp}

-- the tombstones after one operation more
abbrev pub with_operation : List RangeTombstone → RangeOp → List RangeTombstone
with_operation tombstones op =
    if is_some op.value then with_tombstone (record { start = op.start; end = op.end; ts = op.ts }) tombstones
    else take_out op.start op.end (λ t. is_same_time t.ts op.ts) tombstones

-- the tombstones after more operations, each on what the one before it left
abbrev pub with_operations : List RangeTombstone → List RangeOp → List RangeTombstone
with_operations = fold with_operation

-- the tombstones that operations leave
abbrev pub tombstones_after : List RangeOp → List RangeTombstone
tombstones_after = with_operations []

-- the fragments after one operation more on what they stand for
unfoldable pub fragments_with : List Fragment → RangeOp → List Fragment
fragments_with fs op = fragments (with_operation (tombstones_of fs) op)

-- the fragments after more operations, each on what the one before it left
abbrev pub fragments_after : List Fragment → List RangeOp → List Fragment
fragments_after = fold fragments_with

-- the operation that sets a tombstone over the span
abbrev pub setting : Key → Key → Timestamp → RangeOp
setting start end ts = record { start = start; end = end; ts = ts; value = Some [] }

-- the operation that takes the timestamp out of the span
abbrev pub removing : Key → Key → Timestamp → RangeOp
removing start end ts = record { start = start; end = end; ts = ts; value = None }

-- the operation that sets the tombstone
abbrev pub set_tombstone : RangeTombstone → RangeOp
set_tombstone t = setting t.start t.end t.ts

-- the operations that set what the fragments stand for
abbrev pub operations_of : List Fragment → List RangeOp
operations_of fs = map set_tombstone (tombstones_of fs)

-- each is over a span
abbrev pub AreOverSpans : List RangeOp → Type 0
AreOverSpans = AllPass (λ op. is_below op.start op.end)

-- operations on fragments are operations on whichever tombstones these show
abbrev pub FragmentsTellOperations : Type 0
FragmentsTellOperations = (ops : List RangeOp) (tombstones : List RangeTombstone) → AreOverSpans ops
    → fragments_after (fragments tombstones) ops ≡ fragments (with_operations tombstones ops)

-- the operations of fragments leave their tombstones, and give the fragments again
abbrev pub OperationsGiveFragments : Type 0
OperationsGiveFragments = (fs : List Fragment) → IsCanonical fs → fragments (tombstones_after (operations_of fs)) ≡ fs

-- the operation's bounds and its timestamp pass the tests
pub record HasParts (bound : Key → Bool) (time : Timestamp → Bool) (op : RangeOp) : Type 0 where
  pub start : bound op.start ≡ true
  pub end : bound op.end ≡ true
  pub ts : time op.ts ≡ true

-- what the bounds and the timestamps of operations pass, those of the operations of the fragments pass that they leave
abbrev pub OperationsKeepParts : Type 0
OperationsKeepParts = (bound : Key → Bool) (time : Timestamp → Bool) (fs : List Fragment) (ops : List RangeOp)
    → AllByRecursion (HasParts bound time) (operations_of fs) → AllByRecursion (HasParts bound time) ops
    → AllByRecursion (HasParts bound time) (operations_of (fragments_after fs ops))

-- each operation of fragments is over a span, and sets no bytes
abbrev pub OperationsSetSpans : Type 0
OperationsSetSpans = (fs : List Fragment) → IsCanonical fs
    → AllByRecursion (λ op. (is_below op.start op.end ≡ true) × (op.value ≡ Some [])) (operations_of fs)
