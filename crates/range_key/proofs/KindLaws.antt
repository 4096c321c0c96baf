-- What the bounds and the timestamps of operations pass, and those of the operations of the fragments that they leave.
use Rattle.std.specs.Prelude.{◌≡◌, ℕ, Bool, true, false, cond, Option, Some, None, List, [], ◌∷◌, map}
use Rattle.std.specs.List.{AllByRecursion}
use Rattle.std.proofs.Common.{refl}
use Rattle.mvcc_key.specs.Order.{Timestamp, is_same_time, Key, is_below, lower_key, higher_key}
use Rattle.mvcc_key.specs.History.{RangeTombstone, with_tombstone}
use Rattle.mvcc_key.specs.Canonical.{IsCanonical}
use Rattle.mvcc_key.specs.Fragments.{Fragment, fragments, part, outside, take_out, tombstones_of}
use Rattle.mvcc_key.proofs.EachLaws.{All-append, All-map, All-unmap, All-weaker}
use Rattle.mvcc_key.proofs.FragmentPartsLaws.{chosen-has, TombstoneHas, fragments-have, tombstones_of-have}
use Rattle.mvcc_key.proofs.StackLaws.{first_fragment, rest_canonical}
use Rattle.mvcc_key.specs.RangeOperations.{RangeOp}
use Rattle.range_key.specs.RangeOps.{with_operation, fragments_with, fragments_after, set_tombstone, HasParts, OperationsKeepParts, OperationsSetSpans}

module _ (bound : Key → Bool) (time : Timestamp → Bool) where
  -- a tombstone's bounds and its timestamp pass the tests
  abbrev Passes : RangeTombstone → Type 0
  Passes t = HasParts bound time (set_tombstone t)

  with_passes : (t : RangeTombstone) (ts : List RangeTombstone) → Passes t → AllByRecursion Passes ts → AllByRecursion Passes (with_tombstone t ts)
  with_passes t [] k a = (k, tt)
  with_passes t (u ∷ us) k a = (a.0, with_passes t us k a.1)

  part_passes : (start end : Key) (ts : Timestamp) → bound start ≡ true → bound end ≡ true → time ts ≡ true → AllByRecursion Passes (part start end ts)
  part_passes start end ts p q r = by (is_below start end)
    where
      by : (t : Bool) → AllByRecursion Passes (cond t (record { start = start; end = end; ts = ts } ∷ []) [])
      by true = (record { start = p; end = q; ts = r }, tt)
      by false = tt

  outside_passes : (start end : Key) (t : RangeTombstone) → bound start ≡ true → bound end ≡ true → Passes t → AllByRecursion Passes (outside start end t)
  outside_passes start end t p q k =
      All-append Passes (part t.start (lower_key t.end start) t.ts) (part (higher_key t.start end) t.end t.ts)
      (part_passes t.start (lower_key t.end start) t.ts k.start (chosen-has (λ k. bound k ≡ true) (is_below start t.end) start t.end p k.end) k.ts)
      (part_passes (higher_key t.start end) t.end t.ts (chosen-has (λ k. bound k ≡ true) (is_below t.start end) end t.start q k.start) k.end k.ts)

  take_out_passes : (start end : Key) (test : RangeTombstone → Bool) (ts : List RangeTombstone) → bound start ≡ true → bound end ≡ true
      → AllByRecursion Passes ts → AllByRecursion Passes (take_out start end test ts)
  take_out_passes start end test [] p q a = tt
  take_out_passes start end test (t ∷ ts) p q a =
      All-append Passes (cond (test t) (outside start end t) (t ∷ [])) (take_out start end test ts) (by (test t)) (take_out_passes start end test ts p q a.1)
    where
      by : (b : Bool) → AllByRecursion Passes (cond b (outside start end t) (t ∷ []))
      by true = outside_passes start end t p q a.0
      by false = (a.0, tt)

  operation_passes : (op : RangeOp) (ts : List RangeTombstone) → HasParts bound time op → AllByRecursion Passes ts → AllByRecursion Passes (with_operation ts op)
  operation_passes op ts k a = by op.value
    where
      by : (v : Option (List ℕ)) → AllByRecursion Passes (with_operation ts (record op { value = v }))
      by None = take_out_passes op.start op.end (λ t. is_same_time t.ts op.ts) ts k.start k.end a
      by (Some v) = with_passes (record { start = op.start; end = op.end; ts = op.ts }) ts (record { start = k.start; end = k.end; ts = k.ts }) a

  -- the tombstones of the fragments of tombstones that pass
  tombstones_pass : (ts : List RangeTombstone) → AllByRecursion Passes ts → AllByRecursion Passes (tombstones_of (fragments ts))
  tombstones_pass ts a =
      All-weaker (TombstoneHas (λ k. bound k ≡ true) (λ t. time t ≡ true)) Passes (tombstones_of (fragments ts)) (λ t h. record { start = h.start; end = h.end; ts = h.ts })
      (tombstones_of-have (λ k. bound k ≡ true) (λ t. time t ≡ true) (fragments ts)
      (fragments-have (λ k. bound k ≡ true) (λ t. time t ≡ true) ts
      (All-weaker Passes (TombstoneHas (λ k. bound k ≡ true) (λ t. time t ≡ true)) ts (λ t h. record { start = h.start; end = h.end; ts = h.ts }) a)))

  -- one operation
  fragments_with-pass : (fs : List Fragment) (op : RangeOp) → AllByRecursion Passes (tombstones_of fs) → HasParts bound time op
      → AllByRecursion Passes (tombstones_of (fragments_with fs op))
  unfolding fragments_with
  fragments_with-pass fs op a k =
      let after = with_operation (tombstones_of fs) op in
      tombstones_pass after (operation_passes op (tombstones_of fs) k a)

  -- several operations
  fragments_after-pass : (fs : List Fragment) (ops : List RangeOp) → AllByRecursion Passes (tombstones_of fs) → AllByRecursion (HasParts bound time) ops
      → AllByRecursion Passes (tombstones_of (fragments_after fs ops))
  fragments_after-pass fs [] a k = a
  fragments_after-pass fs (op ∷ ops) a k = fragments_after-pass (fragments_with fs op) ops (fragments_with-pass fs op a k.0) k.1

-- the operations of fragments keep what operations have
pub operations_of-parts : OperationsKeepParts
operations_of-parts bound time fs ops a k =
    All-map (HasParts bound time) set_tombstone (tombstones_of (fragments_after fs ops))
    (fragments_after-pass bound time fs ops (All-unmap (HasParts bound time) set_tombstone (tombstones_of fs) a) k)

-- each is over a span and sets no bytes
abbrev Sets : RangeOp → Type 0
Sets op = (is_below op.start op.end ≡ true) × (op.value ≡ Some [])

stack_sets : (start end : Key) (stack : List Timestamp) → is_below start end ≡ true
    → AllByRecursion (λ t. Sets (set_tombstone (record { start = start; end = end; ts = t }))) stack
stack_sets start end [] h = tt
stack_sets start end (t ∷ ts) h = ((h, refl), stack_sets start end ts h)

tombstones_set : (fs : List Fragment) → IsCanonical fs → AllByRecursion (λ t. Sets (set_tombstone t)) (tombstones_of fs)
tombstones_set [] c = tt
tombstones_set (f ∷ fs) c =
    All-append (λ t. Sets (set_tombstone t)) (map (λ t. record { start = f.start; end = f.end; ts = t }) f.stack) (tombstones_of fs)
    (All-map (λ t. Sets (set_tombstone t)) (λ t. record { start = f.start; end = f.end; ts = t }) f.stack
    (stack_sets f.start f.end f.stack (first_fragment f fs c).span))
    (tombstones_set fs (rest_canonical f fs c).0)

pub operations_of-spans : OperationsSetSpans
operations_of-spans fs c = All-map Sets set_tombstone (tombstones_of fs) (tombstones_set fs c)
