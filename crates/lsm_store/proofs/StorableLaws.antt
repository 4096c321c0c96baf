-- What holds of the operations of stored runs, and of those that the fragments give which they leave.
use Rattle.std.proofs.Common.{◌≡◌, ℕ, zero, suc, ◌≤◌, Bool, true, false, List, [], ◌∷◌, ◌++◌, length, take, refl, sym, ap, subst, arith}
use Rattle.std.specs.Prelude.{All, Some, None, not, nat_lt, ◌&&◌, slice_get}
use Rattle.std.specs.declared.option.Option.{Option}
use Rattle.std.specs.List.{AllByRecursion}
use Rattle.std.specs.Option.{ForSome}
use Rattle.std.proofs.lemmas.Bool.{le-ltb, ltb-false}
use Rattle.std.proofs.lemmas.List.Elements.{All-from_recursion, recursion_from_All}
use Rattle.mvcc_key.specs.Limits.{max_bound_length}
use Rattle.mvcc_key.specs.Order.{Timestamp, Key, is_below, is_no_time, is_in_range}
use Rattle.mvcc_key.specs.Fragments.{Fragment}
use Rattle.mvcc_key.specs.Canonical.{IsCanonical}
use Rattle.mvcc_key.specs.Batches.{IsStorableRange}
use Rattle.mvcc_key.specs.RangeOperations as words
use Rattle.mvcc_key.specs.views.SeenRange.{range_op_of, range_ops_of}
use Rattle.mvcc_key.specs.declared.batch.RangeOp.{RangeOp}
use Rattle.mvcc_key.proofs.EachLaws.{All-weaker}
use Rattle.range_key.specs.RangeOps.{HasParts, operations_of, fragments_after}
use Rattle.range_key.proofs.KindLaws.{operations_of-spans}
use Rattle.run_block.specs.RunFormat.{Run}
use Rattle.run_block.specs.Runs.{IsRun, IsStoredRange}
use Rattle.lsm_store.specs.Shown.{fragments_over}

-- a bound may be stored
abbrev pub is_short : Key → Bool
is_short bound = not (nat_lt max_bound_length (length bound))

-- it is a timestamp
abbrev pub is_timed : Timestamp → Bool
is_timed ts = not (is_no_time ts)

-- ---- the parts of a stored operation

short : (bound : Key) → length bound ≤ max_bound_length → is_short bound ≡ true
short bound le = ap not (le-ltb max_bound_length (length bound) le)

not_true : (b : Bool) → not b ≡ true → b ≡ false
not_true true h = absurd cc
not_true false h = refl

is-short : (bound : Key) → is_short bound ≡ true → length bound ≤ max_bound_length
is-short bound h = ltb-false max_bound_length (length bound) (not_true _ h)

first_two : (a b c : Bool) → (a && b && c) ≡ true → (a ≡ true) × (b ≡ true)
first_two true true c h = (refl, refl)
first_two true false c h = absurd cc
first_two false b c h = absurd cc

-- it is over a span
pub stored-below : (op : words.RangeOp) → IsStoredRange op → is_below op.start op.end ≡ true
stored-below op stored = (first_two (is_below op.start op.end) (not (is_no_time op.ts)) (is_in_range op.ts) stored.form).0

-- its parts pass the tests
pub stored-parts : (op : words.RangeOp) → IsStoredRange op → HasParts is_short is_timed op
stored-parts op stored = record {
  start = short op.start stored.start;
  end = short op.end stored.end;
  ts = (first_two (is_below op.start op.end) (not (is_no_time op.ts)) (is_in_range op.ts) stored.form).1;
}

-- those of a run
pub run-parts : (run : Run) → IsRun run → AllByRecursion (HasParts is_short is_timed) run.ranges
run-parts run is = All-weaker IsStoredRange (HasParts is_short is_timed) run.ranges stored-parts (recursion_from_All IsStoredRange run.ranges is.ranges)

-- an operation that passes them, is over a span and sets nothing can be stored
storable : (op : RangeOp) → HasParts is_short is_timed (range_op_of op) → (is_below op.start op.end ≡ true) × (op.set ≡ Some []) → IsStorableRange op
storable op parts sets = record {
  start = is-short op.start parts.start;
  end = is-short op.end parts.end;
  below = sets.0;
  some = not_true _ parts.ts;
  value = subst (λ (v : Option (List ℕ)). ForSome v (λ bytes. bytes ≡ [])) (sym sets.1) (λ x is. (let same : [] ≡ x = cc in sym same));
}

-- so can those that fragments give
pub all-storable : (ops : List RangeOp) (fs : List Fragment) → IsCanonical fs → range_ops_of ops ≡ operations_of fs
    → AllByRecursion (HasParts is_short is_timed) (operations_of fs) → All IsStorableRange ops
all-storable ops fs canonical are parts =
    All-from_recursion IsStorableRange ops
    (each ops (subst (AllByRecursion (HasParts is_short is_timed)) (sym are) parts) (subst (AllByRecursion Sets) (sym are) (operations_of-spans fs canonical)))
  where
    Sets : words.RangeOp → Type 0
    Sets op = (is_below op.start op.end ≡ true) × (op.value ≡ Some [])

    each : (ops : List RangeOp) → AllByRecursion (HasParts is_short is_timed) (range_ops_of ops)
        → AllByRecursion (λ op. (is_below op.start op.end ≡ true) × (op.value ≡ Some [])) (range_ops_of ops) → AllByRecursion IsStorableRange ops
    each [] a b = tt
    each (op ∷ ops) a b = (storable op a.0 b.0, each ops a.1 b.1)

-- ---- operations at places

module _ {X : Type 0} where
  -- one more
  pub take-next : (xs : List X) (i : ℕ) (x : X) → slice_get xs i ≡ Some x → take (suc i) xs ≡ take i xs ++ x ∷ []
  take-next [] i x h = absurd cc
  take-next (y ∷ ys) zero x h = (let is : y ≡ x = cc in ap (λ (z : X). z ∷ []) is)
  take-next (y ∷ ys) (suc i) x h = ap (λ (zs : List X). y ∷ zs) (take-next ys i x h)

  -- none more
  pub none-behind : (xs : List X) (i : ℕ) → slice_get xs i ≡ None → length xs ≤ i
  none-behind [] i h = omega arith
  none-behind (y ∷ ys) zero h = absurd cc
  none-behind (y ∷ ys) (suc i) h = (let le = none-behind ys i h in omega (arith, le))

  -- each has what all have
  pub each-there : (P : X → Type 0) (xs : List X) (i : ℕ) (x : X) → AllByRecursion P xs → slice_get xs i ≡ Some x → P x
  each-there P [] i x all h = absurd cc
  each-there P (y ∷ ys) zero x all h = (let is : y ≡ x = cc in subst P is all.0)
  each-there P (y ∷ ys) (suc i) x all h = each-there P ys i x all.1 h

-- ---- runs from the last on

-- the last run goes first
pub over-last : (base : List Fragment) (rest : List Run) (run : Run) → fragments_over base (rest ++ run ∷ []) ≡ fragments_over (fragments_after base run.ranges) rest
over-last base [] run = refl
over-last base (r ∷ rs) run = ap (λ (fs : List Fragment). fragments_after fs r.ranges) (over-last base rs run)
