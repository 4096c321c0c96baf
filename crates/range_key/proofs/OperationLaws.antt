-- Range operations carried out on fragments.
use Rattle.std.specs.Prelude.{◌≡◌, ℕ, Bool, true, List, [], ◌∷◌, ◌++◌, Option, Some, None, map}
use Rattle.std.proofs.Common.{refl, sym, ◌∙◌, ap, append_assoc, arith, suc}
use Rattle.std.proofs.lemmas.List.{append-nil}
use Rattle.std.proofs.lemmas.Simd.{map-map}
use Rattle.mvcc_key.specs.Order.{Timestamp, is_same_time, Key, is_below}
use Rattle.mvcc_key.specs.History.{RangeTombstone, with_tombstone}
use Rattle.mvcc_key.specs.Fragments.{Fragment, fragments, tombstones_of}
use Rattle.mvcc_key.specs.Canonical.{IsCanonical}
use Rattle.mvcc_key.proofs.CanonicalLaws.{fragments-canonical}
use Rattle.mvcc_key.proofs.ChangeLaws.{with_tombstone-decided, take_out-decided}
use Rattle.mvcc_key.proofs.TombstonesOfLaws.{fragments-tombstones_of, fragments-again}
use Rattle.range_key.proofs.ChangedLaws.{fragments-none}
use Rattle.range_key.specs.views.Changes.{AddsTombstone, TakesOut, without_times}
use Rattle.mvcc_key.specs.RangeOperations.{RangeOp}
use Rattle.range_key.specs.RangeOps.{AreOverSpans, with_operation, with_operations, tombstones_after, fragments_with, fragments_after, setting, removing, set_tombstone, operations_of, FragmentsTellOperations, OperationsGiveFragments}

-- tombstones with the same fragments have the same fragments after an operation
pub with_operation-decided : (op : RangeOp) (ts us : List RangeTombstone) → is_below op.start op.end ≡ true → fragments ts ≡ fragments us
    → fragments (with_operation ts op) ≡ fragments (with_operation us op)
with_operation-decided op ts us span same = by op.value
  where
    by : (v : Option (List ℕ)) → fragments (with_operation ts (record op { value = v })) ≡ fragments (with_operation us (record op { value = v }))
    by None = take_out-decided op.start op.end (λ t. is_same_time t op.ts) ts us span same
    by (Some v) = with_tombstone-decided (record { start = op.start; end = op.end; ts = op.ts }) ts us same

-- the fragments after an operation are those of whichever tombstones they show
pub fragments_with-shows : (op : RangeOp) (fs : List Fragment) (ts : List RangeTombstone) → is_below op.start op.end ≡ true → fs ≡ fragments ts
    → fragments_with fs op ≡ fragments (with_operation ts op)
unfolding fragments_with
fragments_with-shows op fs ts span shows =
    with_operation-decided op (tombstones_of fs) ts span (ap (λ gs. fragments (tombstones_of gs)) shows ∙ fragments-again ts)

-- the fragments after an operation are canonical
pub fragments_with-canonical : (fs : List Fragment) (op : RangeOp) → IsCanonical (fragments_with fs op)
unfolding fragments_with
fragments_with-canonical fs op = fragments-canonical (with_operation (tombstones_of fs) op)

-- operations on fragments, each on what the one before it left, are those on whichever tombstones they show
pub fragments_after-shows : FragmentsTellOperations
fragments_after-shows [] ts spans = refl
fragments_after-shows (op ∷ ops) ts spans =
    ap (λ fs. fragments_after fs ops) (fragments_with-shows op (fragments ts) ts (spans 0 op (omega arith)) refl)
    ∙ fragments_after-shows ops (with_operation ts op) (λ k d h. spans (suc k) d (omega arith))

-- operations after others are carried out on what these left
pub tombstones_after-more : (ts : List RangeTombstone) (ops : List RangeOp) (op : RangeOp) → with_operations ts (ops ++ op ∷ []) ≡ with_operation (with_operations ts ops) op
tombstones_after-more ts [] op = refl
tombstones_after-more ts (o ∷ ops) op = tombstones_after-more (with_operation ts o) ops op

-- one more tombstone is written behind the others
last_written : (t : RangeTombstone) (ts : List RangeTombstone) → with_tombstone t ts ≡ ts ++ t ∷ []
last_written t [] = refl
last_written t (u ∷ us) = ap (λ vs. u ∷ vs) (last_written t us)

-- operations that set tombstones leave these behind the others
pub set-tombstones : (ts us : List RangeTombstone) → with_operations ts (map set_tombstone us) ≡ ts ++ us
set-tombstones ts [] = sym (append-nil ts)
set-tombstones ts (u ∷ us) =
    ap (λ vs. with_operations vs (map set_tombstone us)) (last_written u ts)
    ∙ set-tombstones (ts ++ u ∷ []) us ∙ append_assoc ts (u ∷ []) us

-- the operations of fragments give the fragments again
pub operations_of-fragments : OperationsGiveFragments
operations_of-fragments fs c = ap fragments (set-tombstones [] (tombstones_of fs)) ∙ fragments-tombstones_of fs c

-- a list that shows a tombstone more is the list after the operation that sets it
pub adds-setting : (start end : Key) (ts : Timestamp) (old new : List Fragment) → IsCanonical old → AddsTombstone start end ts old new
    → new ≡ fragments_with old (setting start end ts)
unfolding fragments_with
adds-setting start end ts old new c adds = adds (tombstones_of old) (sym (fragments-tombstones_of old c))

-- a list without timestamps over a span is the one list that shows what is left
pub takes-without : (start end : Key) (test : Timestamp → Bool) (old new : List Fragment) → IsCanonical old → TakesOut start end test old new
    → new ≡ without_times start end test old
takes-without start end test old new c takes = takes (tombstones_of old) (sym (fragments-tombstones_of old c))

-- a list without one timestamp over a span is the list after the operation that takes it out
pub without-removing : (start end : Key) (ts : Timestamp) (old : List Fragment) → without_times start end (λ t. is_same_time t ts) old ≡ fragments_with old (removing start end ts)
unfolding fragments_with
without-removing start end ts old = refl

-- what an operation makes of fragments does not depend on what it sets
pub any-setting : (start end : Key) (ts : Timestamp) (value : List ℕ) (old : List Fragment)
    → fragments_with old (setting start end ts) ≡ fragments_with old (record { start = start; end = end; ts = ts; value = Some value })
unfolding fragments_with
any-setting start end ts value old = refl

-- an operation that has a value sets, wherever its parts are from
pub sets-operation : (start end s e : Key) (ts : Timestamp) (value : Option (List ℕ)) (bytes : List ℕ) (old : List Fragment) → s ≡ start → e ≡ end → value ≡ Some bytes
    → fragments_with old (setting s e ts) ≡ fragments_with old (record { start = start; end = end; ts = ts; value = value })
sets-operation start end s e ts value bytes old f g h =
    ap (λ x. fragments_with old (setting x e ts)) f ∙ ap (λ x. fragments_with old (setting start x ts)) g
    ∙ any-setting start end ts bytes old ∙ ap (λ v. fragments_with old (record { start = start; end = end; ts = ts; value = v })) (sym h)

-- an operation that has none removes
pub removes-operation : (start end s e : Key) (ts : Timestamp) (value : Option (List ℕ)) (old : List Fragment) → s ≡ start → e ≡ end → value ≡ None
    → fragments_with old (removing s e ts) ≡ fragments_with old (record { start = start; end = end; ts = ts; value = value })
removes-operation start end s e ts value old f g h =
    ap (λ x. fragments_with old (removing x e ts)) f ∙ ap (λ x. fragments_with old (removing start x ts)) g
    ∙ ap (λ v. fragments_with old (record { start = start; end = end; ts = ts; value = v })) (sym h)

-- the list so far with the next operation
pub one-more : (ops : List RangeOp) (op : RangeOp) (so_far next : List Fragment) → is_below op.start op.end ≡ true → so_far ≡ fragments (tombstones_after ops)
    → next ≡ fragments_with so_far op → next ≡ fragments (tombstones_after (ops ++ op ∷ []))
one-more ops op so_far next span shows is =
    is ∙ fragments_with-shows op so_far (tombstones_after ops) span shows ∙ ap fragments (sym (tombstones_after-more [] ops op))

-- the operations of one fragment, made from its timestamps
pub operations_of-one : {T : Type 0} (time : T → Timestamp) (f : Fragment) (times : List T) → map time times ≡ f.stack
    → map (λ t. setting f.start f.end (time t)) times ≡ operations_of (f ∷ [])
operations_of-one time f times is =
    let whole : List RangeTombstone = map (λ t. record { start = f.start; end = f.end; ts = t }) f.stack in
    sym (map-map (λ t. setting f.start f.end t) time times)
    ∙ ap (map (λ t. setting f.start f.end t)) is
    ∙ sym (map-map set_tombstone (λ t. record { start = f.start; end = f.end; ts = t }) f.stack)
    ∙ ap (map set_tombstone) (sym (append-nil whole))

-- a list without one timestamp over a span is the list after the operation that takes it out
pub takes-removing : (start end : Key) (ts : Timestamp) (old new : List Fragment) → IsCanonical old → TakesOut start end (λ t. is_same_time t ts) old new
    → new ≡ fragments_with old (removing start end ts)
takes-removing start end ts old new c takes = takes-without start end (λ t. is_same_time t ts) old new c takes ∙ without-removing start end ts old

-- operations on canonical fragments leave canonical fragments
pub fragments_after-canonical : (fs : List Fragment) (ops : List RangeOp) → IsCanonical fs → IsCanonical (fragments_after fs ops)
fragments_after-canonical fs [] c = c
fragments_after-canonical fs (op ∷ ops) c = fragments_after-canonical (fragments_with fs op) ops (fragments_with-canonical fs op)

-- operations after others are carried out on the fragments that these left
pub fragments_after-more : (fs : List Fragment) (ops more : List RangeOp) → fragments_after fs (ops ++ more) ≡ fragments_after (fragments_after fs ops) more
fragments_after-more fs [] more = refl
fragments_after-more fs (op ∷ ops) more = fragments_after-more (fragments_with fs op) ops more

-- from nothing on they leave the fragments of the tombstones that they leave
pub fragments_after-nothing : (ops : List RangeOp) → AreOverSpans ops → fragments_after [] ops ≡ fragments (tombstones_after ops)
fragments_after-nothing ops spans = ap (λ fs. fragments_after fs ops) fragments-none ∙ fragments_after-shows ops [] spans
