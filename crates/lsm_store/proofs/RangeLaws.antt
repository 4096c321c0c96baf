-- Range operations of parts, and the fragments that they give.
use Rattle.std.proofs.Common.{◌≡◌, Bool, true, false, cond, List, [], ◌∷◌, ◌++◌, map, refl, sym, ap, ◌∙◌}
use Rattle.std.specs.Prelude.{not, ◌||◌, Some, IsTrue}
use Rattle.std.proofs.lemmas.List.Elements.{All-from_recursion}
use Rattle.mvcc_key.specs.Lists.{is_empty}
use Rattle.mvcc_key.specs.Order.{Timestamp, is_below}
use Rattle.mvcc_key.specs.Fragments.{Fragment, tombstones_of}
use Rattle.mvcc_key.specs.SameFragments.{are_same_fragments}
use Rattle.mvcc_key.specs.Canonical.{IsCanonical}
use Rattle.mvcc_key.specs.RangeOperations.{RangeOp}
use Rattle.mvcc_key.proofs.EachLaws.{All-weaker}
use Rattle.mvcc_key.proofs.StackLaws.{first_fragment}
use Rattle.range_key.specs.RangeOps.{fragments_after, operations_of, set_tombstone, AreOverSpans}
use Rattle.range_key.proofs.OperationLaws.{fragments_after-canonical, fragments_after-nothing, operations_of-fragments}
use Rattle.range_key.proofs.KindLaws.{operations_of-spans}
use Rattle.range_key.proofs.SameLaws.{are_same-true, are_same-itself, not_false}
use Rattle.run_block.specs.RunFormat.{Run}
use Rattle.lsm_store.specs.Shown.{fragments_over, fragments_in}

-- ---- the fragments of parts

-- the operations of newer parts go on over what older ones give
pub over-append : (base : List Fragment) (newer older : List Run) → fragments_over base (newer ++ older) ≡ fragments_over (fragments_over base older) newer
over-append base [] older = refl
over-append base (r ∷ rs) older = ap (λ (fs : List Fragment). fragments_after fs r.ranges) (over-append base rs older)

-- where older parts give the same, so do all
pub in-tail : (newer older other : List Run) → fragments_in older ≡ fragments_in other → fragments_in (newer ++ older) ≡ fragments_in (newer ++ other)
in-tail newer older other same =
    over-append [] newer older ∙ ap (λ (fs : List Fragment). fragments_over fs newer) same ∙ sym (over-append [] newer other)

-- they are canonical
pub in-canonical : (parts : List Run) → IsCanonical (fragments_in parts)
in-canonical [] = tt
in-canonical (r ∷ rs) = fragments_after-canonical (fragments_in rs) r.ranges (in-canonical rs)

-- ---- the operations of fragments

-- each is over a span and sets nothing
abbrev SetsSpan : RangeOp → Type 0
SetsSpan op = (is_below op.start op.end ≡ true) × (op.value ≡ Some [])

-- from nothing on they give the fragments again
pub closing-again : (fs : List Fragment) → IsCanonical fs → fragments_after [] (operations_of fs) ≡ fs
closing-again fs c = fragments_after-nothing (operations_of fs) spans ∙ operations_of-fragments fs c
  where
    spans : AreOverSpans (operations_of fs)
    spans =
        All-from_recursion (λ (op : RangeOp). is_below op.start op.end ≡ true) (operations_of fs)
        (All-weaker SetsSpan (λ (op : RangeOp). is_below op.start op.end ≡ true) (operations_of fs) (λ op s. s.0) (operations_of-spans fs c))

-- there is one exactly where there is a fragment
pub none-closing : (fs : List Fragment) → IsCanonical fs → is_empty (operations_of fs) ≡ is_empty fs
none-closing [] c = refl
none-closing (f ∷ fs) c = by f.stack (first_fragment f fs c).covered
  where
    by : (stack : List Timestamp) → IsTrue (not (is_empty stack))
        → is_empty (map set_tombstone (map (λ t. record { start = f.start; end = f.end; ts = t }) stack ++ tombstones_of fs)) ≡ false
    by [] h = absurd cc
    by (t ∷ ts) h = refl

-- ---- operations that are kept where they change the fragments

-- the operations, or none
abbrev pub kept_ops : Bool → List RangeOp → List RangeOp
kept_ops b ops = cond b ops []

-- what is left of them gives the same
pub kept-after : (fs : List Fragment) (ops : List RangeOp) (b : Bool) → b ≡ not (are_same_fragments fs (fragments_after fs ops))
    → fragments_after fs (kept_ops b ops) ≡ fragments_after fs ops
kept-after fs ops true is = refl
kept-after fs ops false is = are_same-true fs (fragments_after fs ops) (not_false _ (sym is))

-- there are operations exactly where there were some, or where these change the fragments
pub kept-flag : (fs : List Fragment) (older ops : List RangeOp) (b : Bool) → b ≡ not (are_same_fragments fs (fragments_after fs ops))
    → not (is_empty (older ++ kept_ops b ops)) ≡ (not (is_empty older) || not (are_same_fragments fs (fragments_after fs (kept_ops b ops))))
kept-flag fs (o ∷ older) ops b is = refl
kept-flag fs [] ops false is = are_same-itself fs
kept-flag fs [] (op ∷ ops) true is = is
kept-flag fs [] [] true is = (let no : true ≡ false = is ∙ sym (are_same-itself fs) in absurd cc)
