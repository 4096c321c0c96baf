-- Keys that are the same, and keys that differ.
use Rattle.std.specs.Prelude.{◌≡◌, true, false}
use Rattle.std.specs.declared.cmp.Ordering.TheVariants.{Less, Equal, Greater}
use Rattle.std.specs.Ordering.{ordering_reverse}
use Rattle.std.specs.Cmp.{tied_itself}
use Rattle.std.proofs.Common.{sym, ap, subst, ◌∙◌}
use Rattle.std.proofs.lemmas.Bool.{false_from_ne_true}
use Rattle.std.proofs.lemmas.Slice.Eq.{bytes_eq-Decides}
use Rattle.mvcc_key.specs.Order.{Key, key_cmp, is_same_key}
use Rattle.mvcc_key.proofs.OrderLaws.{key_cmp-total}
use Rattle.mvcc_key.proofs.StackLaws.{same_key_is}

-- of two different keys each differs from the other
pub differs_back : (a b : Key) → is_same_key a b ≡ false → is_same_key b a ≡ false
differs_back a b h = false_from_ne_true (is_same_key b a) (λ same. let e : is_same_key a b ≡ true = (bytes_eq-Decides a b).1 (sym (same_key_is b a same)) in absurd cc)

-- a key below another differs from it
pub below_differs : (a b : Key) → key_cmp a b ≡ Less → is_same_key a b ≡ false
below_differs a b h =
    false_from_ne_true (is_same_key a b)
    (λ same. let tie : key_cmp a a ≡ Equal = tied_itself key_cmp-total a in let less : key_cmp a a ≡ Less = subst (λ (k : Key). key_cmp a k ≡ Less) (sym (same_key_is a b same)) h in absurd cc)

-- and one above it
pub above_differs : (a b : Key) → key_cmp a b ≡ Greater → is_same_key b a ≡ false
above_differs a b h = below_differs b a (key_cmp-total.antisymm b a ∙ ap ordering_reverse h)

-- keys that are the same key tie
pub same_keys-tie : (a b key : Key) → is_same_key a key ≡ true → is_same_key b key ≡ true → key_cmp a b ≡ Equal
same_keys-tie a b key is is' = ap (key_cmp a) (same_key_is b key is' ∙ sym (same_key_is a key is)) ∙ tied_itself key_cmp-total a
