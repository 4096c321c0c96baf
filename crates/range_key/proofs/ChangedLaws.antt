-- A list whose touched part is made anew is the list after the change.
use Rattle.std.specs.Prelude.{◌≡◌, ℕ, ◌≤◌, Bool, true, List, [], ◌++◌, take, drop, filter, slice_range, Result, Ok, Err, OnOk, OnErr}
use Rattle.std.proofs.Common.{refl, sym, ◌∙◌, ap, subst}
use Rattle.std.proofs.lemmas.List.{take-append-drop}
use Rattle.std.proofs.lemmas.List.Folds.{drop_split}
use Rattle.mvcc_key.specs.Order.{Timestamp, Key, is_below}
use Rattle.mvcc_key.specs.History.{RangeTombstone, with_tombstone}
use Rattle.mvcc_key.specs.Fragments.{Fragment, fragments, joined, stack_at, take_out, tombstones_of}
use Rattle.mvcc_key.specs.Canonical.{IsCanonical, is_apart}
use Rattle.mvcc_key.specs.Pieces.{EndBelow, StartsAbove, added_pieces, taken_pieces, stack_with, stack_without}
use Rattle.mvcc_key.proofs.CanonicalLaws.{fragments-canonical}
use Rattle.mvcc_key.proofs.TombstonesOfLaws.{fragments-tombstones_of}
use Rattle.mvcc_key.proofs.ChangeLaws.{stack_at-with_tombstone, stack_at-take_out, with_tombstone-apart, take_out-apart}
use Rattle.mvcc_key.proofs.ApartLaws.{with_tombstone-around, take_out-around}
use Rattle.range_key.specs.views.Changes.{AddsTombstone, TakesOut, PutsOver, TakesFrom}

-- a list in three parts
pub three-ranges : {X : Type 0} (low high : ℕ) (xs : List X) → low ≤ high → xs ≡ take low xs ++ (slice_range xs low high ++ drop high xs)
three-ranges low high xs ordered = sym (take-append-drop low xs) ∙ ap (λ us. take low xs ++ us) (drop_split xs low high ordered)

-- all that is known of a list after one more tombstone
pub record IsAdded (start end : Key) (ts : Timestamp) (old new : List Fragment) : Type 0 where
  pub adds : AddsTombstone start end ts old new
  pub puts : PutsOver start end ts old new
  pub apart : filter (is_apart start end) new ≡ filter (is_apart start end) old
  pub canonical : IsCanonical new

-- a list that shows the tombstones of the old one with one more
added-is : (start end : Key) (ts : Timestamp) (old new : List Fragment) → IsCanonical old → AddsTombstone start end ts old new → IsAdded start end ts old new
added-is start end ts old new c adds =
    let t : RangeTombstone = record { start = start; end = end; ts = ts } in
    let same : old ≡ fragments (tombstones_of old) = sym (fragments-tombstones_of old c) in
    let is : new ≡ fragments (with_tombstone t (tombstones_of old)) = adds (tombstones_of old) same in
    record {
      adds = adds;
      puts = λ key. ap (λ fs. stack_at fs key) is ∙ stack_at-with_tombstone t (tombstones_of old) key ∙ ap (λ fs. stack_with start end ts key (stack_at fs key)) (sym same);
      apart = ap (filter (is_apart start end)) is ∙ with_tombstone-apart t (tombstones_of old) ∙ ap (filter (is_apart start end)) (sym same);
      canonical = subst IsCanonical (sym is) (fragments-canonical (with_tombstone t (tombstones_of old)));
    }

-- a list whose touched part is made anew under one more tombstone
pub added-list : (start end : Key) (ts : Timestamp) (low high : ℕ) (shown old pieces : List Fragment) → is_below start end ≡ true → shown ≡ old → IsCanonical old
    → low ≤ high → EndBelow start (take low shown) → StartsAbove end (drop high shown)
    → pieces ≡ joined (added_pieces (record { start = start; end = end; ts = ts }) (slice_range shown low high))
    → IsAdded start end ts old (take low old ++ (pieces ++ drop high old))
added-list start end ts low high shown old pieces span shows c ordered left right is =
    let made : List Fragment → List Fragment = λ fs. take low fs ++ (pieces ++ drop high fs) in
    added-is start end ts old (made old) c
    (λ tombstones same. ap made (sym shows)
    ∙ ap (λ us. take low shown ++ (us ++ drop high shown)) is
    ∙ sym (with_tombstone-around (record { start = start; end = end; ts = ts }) tombstones (take low shown) (slice_range shown low high) (drop high shown) span
    (sym (shows ∙ same) ∙ three-ranges low high shown ordered) left right))

-- all that is known of a list after timestamps were taken out of a span
pub record IsTaken (start end : Key) (test : Timestamp → Bool) (old new : List Fragment) : Type 0 where
  pub takes : TakesOut start end test old new
  pub leaves : TakesFrom start end test old new
  pub apart : filter (is_apart start end) new ≡ filter (is_apart start end) old
  pub canonical : IsCanonical new

-- a list that shows the tombstones of the old one without the span
taken-is : (start end : Key) (test : Timestamp → Bool) (old new : List Fragment) → is_below start end ≡ true → IsCanonical old → TakesOut start end test old new
    → IsTaken start end test old new
taken-is start end test old new span c takes =
    let same : old ≡ fragments (tombstones_of old) = sym (fragments-tombstones_of old c) in
    let is : new ≡ fragments (take_out start end (λ t. test t.ts) (tombstones_of old)) = takes (tombstones_of old) same in
    record {
      takes = takes;
      leaves = λ key. ap (λ fs. stack_at fs key) is ∙ stack_at-take_out start end test (tombstones_of old) key span ∙ ap (λ fs. stack_without start end test key (stack_at fs key)) (sym same);
      apart = ap (filter (is_apart start end)) is ∙ take_out-apart start end test (tombstones_of old) span ∙ ap (filter (is_apart start end)) (sym same);
      canonical = subst IsCanonical (sym is) (fragments-canonical (take_out start end (λ t. test t.ts) (tombstones_of old)));
    }

-- a list whose touched part is made anew without some timestamps
pub taken-list : (start end : Key) (test : Timestamp → Bool) (low high : ℕ) (shown old pieces : List Fragment) → is_below start end ≡ true → shown ≡ old → IsCanonical old
    → low ≤ high → EndBelow start (take low shown) → StartsAbove end (drop high shown)
    → pieces ≡ joined (taken_pieces start end test (slice_range shown low high))
    → IsTaken start end test old (take low old ++ (pieces ++ drop high old))
taken-list start end test low high shown old pieces span shows c ordered left right is =
    let made : List Fragment → List Fragment = λ fs. take low fs ++ (pieces ++ drop high fs) in
    taken-is start end test old (made old) span c
    (λ tombstones same. ap made (sym shows)
    ∙ ap (λ us. take low shown ++ (us ++ drop high shown)) is
    ∙ sym (take_out-around start end test tombstones (take low shown) (slice_range shown low high) (drop high shown) span
    (sym (shows ∙ same) ∙ three-ranges low high shown ordered) left right))

-- the same of a list that is shown
pub added-shown : (start end : Key) (ts : Timestamp) (put : List Fragment → List Fragment) (shown old : List Fragment) → shown ≡ old → IsCanonical old
    → AddsTombstone start end ts shown (put shown) → IsAdded start end ts old (put old)
added-shown start end ts put shown old same c adds = added-is start end ts old (put old) c (subst (λ fs. AddsTombstone start end ts fs (put fs)) same adds)

pub taken-shown : (start end : Key) (test : Timestamp → Bool) (put : List Fragment → List Fragment) (shown old : List Fragment) → is_below start end ≡ true → shown ≡ old
    → IsCanonical old → TakesOut start end test shown (put shown) → IsTaken start end test old (put old)
taken-shown start end test put shown old span same c takes =
    taken-is start end test old (put old) span c (subst (λ fs. TakesOut start end test fs (put fs)) same takes)

-- what a call that may be refused leaves: the list after the change, or the old list
pub record IsEither {T E : Type 0} (result : Result T E) (made old new : List Fragment) : Type 0 where
  pub ok : OnOk result (new ≡ made)
  pub err : OnErr result (new ≡ old)

module _ {T E : Type 0} (P : List Fragment → Type 0) where
  -- what holds of the list after the change holds where the call is accepted
  pub either-ok : (result : Result T E) (made old new : List Fragment) → IsEither result made old new → P made → OnOk result (P new)
  either-ok (Ok v) made old new is p = subst P (sym is.ok) p
  either-ok (Err e) made old new is p = tt

  -- what holds of both lists holds of what is left
  pub either : (result : Result T E) (made old new : List Fragment) → IsEither result made old new → P made → P old → P new
  either (Ok v) made old new is p q = subst P (sym is.ok) p
  either (Err e) made old new is p q = subst P (sym is.err) q

-- no tombstones have no fragments
pub fragments-none : [] ≡ fragments []
unfolding fragments
fragments-none = refl
