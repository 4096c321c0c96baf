-- When fragments are the same.
use Rattle.std.specs.Prelude.{◌≡◌, ℕ, ◌≤◌, Bool, true, false, not, List, ◌++◌, take, drop, slice_range, ◌&&◌}
use Rattle.std.specs.Bool.{Decides}
use Rattle.std.proofs.Common.{refl, sym, ◌∙◌, ap, subst}
use Rattle.std.proofs.lemmas.Bool.Decides.{same_from_decides}
use Rattle.std.proofs.lemmas.List.{append_cancel_left, append_cancel_right}
use Rattle.std.proofs.lemmas.Slice.Eq.{slice_eq-Decides}
use Rattle.mvcc_key.specs.Order.{is_same_key}
use Rattle.mvcc_key.specs.Fragments.{Fragment, is_same_stack}
use Rattle.mvcc_key.proofs.FragmentLaws.{same_key, same-stack}
use Rattle.mvcc_key.proofs.StackLaws.{both_true, same_key_is, same-stack_is}
use Rattle.mvcc_key.specs.SameFragments.{is_same_fragment, are_same_fragments}
use Rattle.range_key.proofs.ChangedLaws.{three-ranges}

-- fragments are the same where they are equal
pub is_same_fragment-Decides : (f g : Fragment) → Decides (is_same_fragment f g) (f ≡ g)
is_same_fragment-Decides f g = (λ h. equal h, λ e. subst (λ x. is_same_fragment f x ≡ true) e (itself f))
  where
    itself : (f : Fragment) → is_same_fragment f f ≡ true
    itself f = rw (same_key f.start, same_key f.end, same-stack f.stack) refl

    equal : is_same_fragment f g ≡ true → f ≡ g
    equal h =
        let outer : ((is_same_key f.start g.start && is_same_key f.end g.end) ≡ true) × (is_same_stack f.stack g.stack ≡ true) = both_true _ _ h in
        let inner : (is_same_key f.start g.start ≡ true) × (is_same_key f.end g.end ≡ true) = both_true _ _ outer.0 in
        let start : f.start ≡ g.start = same_key_is f.start g.start inner.0 in
        let end : f.end ≡ g.end = same_key_is f.end g.end inner.1 in
        let stack : f.stack ≡ g.stack = same-stack_is f.stack g.stack outer.1 in
        λ i. record { start = start i; end = end i; stack = stack i }

-- lists of fragments are the same where they are equal
pub are_same-Decides : (fs gs : List Fragment) → Decides (are_same_fragments fs gs) (fs ≡ gs)
are_same-Decides fs gs = slice_eq-Decides is_same_fragment-Decides fs gs (are_same_fragments fs gs) refl

-- a list is the same after other pieces for a stretch exactly where they are the same
pub same-stretch : (low high : ℕ) (fs ps : List Fragment) → low ≤ high
    → are_same_fragments fs (take low fs ++ (ps ++ drop high fs)) ≡ are_same_fragments (slice_range fs low high) ps
same-stretch low high fs ps ordered =
    let parts : fs ≡ take low fs ++ (slice_range fs low high ++ drop high fs) = three-ranges low high fs ordered in
    let whole = are_same-Decides fs (take low fs ++ (ps ++ drop high fs)) in
    let within = are_same-Decides (slice_range fs low high) ps in
    same_from_decides _ _ whole (
      λ h. parts ∙ ap (λ us. take low fs ++ (us ++ drop high fs)) (within.0 h),
      λ e. within.1 (append_cancel_right (slice_range fs low high) ps (drop high fs) (append_cancel_left (take low fs) _ _ (sym parts ∙ e))),
    )

-- lists that are found the same are equal
pub are_same-true : (fs gs : List Fragment) → are_same_fragments fs gs ≡ true → fs ≡ gs
are_same-true fs gs h = (are_same-Decides fs gs).0 h

pub not_false : (b : Bool) → not b ≡ false → b ≡ true
not_false true h = refl
not_false false h = sym h

-- a list does not differ from itself
pub are_same-itself : (fs : List Fragment) → false ≡ not (are_same_fragments fs fs)
are_same-itself fs = ap not (sym ((are_same-Decides fs fs).1 refl))
