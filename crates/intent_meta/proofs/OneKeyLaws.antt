-- The span from a key up to the key with a zero byte behind it has this key alone.
use Rattle.std.proofs.Common.{◌≡◌, ℕ, zero, suc, true, false, List, [], ◌∷◌, ◌++◌, refl, ap, ◌∙◌, length, ltb, arith}
use Rattle.std.specs.Prelude.{◌&&◌, ◌||◌, not}
use Rattle.std.specs.declared.cmp.Ordering.{Ordering}
use Rattle.std.specs.declared.cmp.Ordering.TheVariants.{Less, Equal, Greater}
use Rattle.std.specs.Ordering.{nat_cmp, ordering_reverse, ordering_then, is_le, is_lt, is_eq}
use Rattle.std.proofs.lemmas.Bool.{or_from, not_from_true, le-ltb}
use Rattle.std.proofs.lemmas.Cmp.{nat_cmp_total}
use Rattle.std.proofs.lemmas.List.{length-append}
use Rattle.std.proofs.lemmas.Map.Text.{is_eq-slice_cmp}
use Rattle.mvcc_key.specs.Order.{key_cmp, is_below}
use Rattle.mvcc_key.specs.Limits.{max_bound_length}
use Rattle.mvcc_key.proofs.KeyOrderLaws.{nat_cmp_equal, nat_cmp_greater}
use Rattle.intent_meta.specs.Within.{end_of_key, OneKeyIsSpan, OneKeyIsGood}

-- no key that has a byte is below a zero byte
not_below_zero : (y : ℕ) (ys : List ℕ) → is_lt (key_cmp (y ∷ ys) (0 ∷ [])) ≡ false
not_below_zero zero [] = ap (λ o. is_lt (ordering_then o Equal)) (nat_cmp_equal 0)
not_below_zero zero (z ∷ zs) = ap (λ o. is_lt (ordering_then o Greater)) (nat_cmp_equal 0)
not_below_zero (suc y) ys = ap (λ o. is_lt (ordering_then o (key_cmp ys []))) (nat_cmp_greater (suc y) 0 (omega arith))

-- a key is from another on and below its end where the two tie
ties_with : (key other : List ℕ) → (is_le (key_cmp key other) && is_lt (key_cmp other (key ++ 0 ∷ []))) ≡ is_eq (key_cmp other key)
ties_with [] [] = refl
ties_with [] (y ∷ ys) = not_below_zero y ys
ties_with (x ∷ xs) [] = refl
ties_with (x ∷ xs) (y ∷ ys) = by (nat_cmp x y) (nat_cmp y x) (nat_cmp_total.antisymm y x) (ties_with xs ys)
  where
    by : (o p : Ordering) → p ≡ ordering_reverse o → (is_le (key_cmp xs ys) && is_lt (key_cmp ys (xs ++ 0 ∷ []))) ≡ is_eq (key_cmp ys xs)
        → (is_le (ordering_then o (key_cmp xs ys)) && is_lt (ordering_then p (key_cmp ys (xs ++ 0 ∷ [])))) ≡ is_eq (ordering_then p (key_cmp ys xs))
    by Less p e rest = rw e refl
    by Equal p e rest = rw e rest
    by Greater p e rest = rw e refl

-- no other key is in that span
pub one_key_is_span : OneKeyIsSpan
one_key_is_span key other = ties_with key other ∙ is_eq-slice_cmp other key

-- a key is below its end
below_end : (key : List ℕ) → is_lt (key_cmp key (key ++ 0 ∷ [])) ≡ true
below_end [] = refl
below_end (x ∷ xs) = ap (λ o. is_lt (ordering_then o (key_cmp xs (xs ++ 0 ∷ [])))) (nat_cmp_equal x) ∙ below_end xs

-- the span of a key that may be stored is one of which a command may speak
pub one_key_is_good : OneKeyIsGood
one_key_is_good key short =
    or_from (not (is_below key (end_of_key key)) || ltb max_bound_length (length key)) (ltb max_bound_length (length (end_of_key key)))
    (or_from (not (is_below key (end_of_key key))) (ltb max_bound_length (length key)) (not_from_true _ (below_end key)) (le-ltb max_bound_length (length key) (omega (arith, short))))
    (le-ltb max_bound_length (length (end_of_key key)) (omega (arith, short, length-append key (0 ∷ []))))
