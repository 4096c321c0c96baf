-- Ranges that rise, taken one after another.
use Rattle.std.proofs.Common.{◌≡◌, ℕ, ◌+◌, ◌≤◌, Bool, true, false, List, [], ◌∷◌, refl, ap, ◌∙◌, arith}
use Rattle.std.specs.Prelude.{◌&&◌, nat_le, nat_lt}
use Rattle.std.proofs.lemmas.Bool.{and_parts, leb-true, ltb-true, le-leb}
use Rattle.std.proofs.lemmas.Bool.Decides.{nat_tests}
use Rattle.mvcc_key.specs.Limits.{max_count}
use Rattle.mvcc_key.specs.History.{SeqRange}
use Rattle.txn_state.specs.Transaction.{are_ranges}

-- the first begins at this number or above, and they rise
abbrev pub rise_from : ℕ → List SeqRange → Bool
rise_from low [] = true
rise_from low (r ∷ rs) = nat_le low r.first && nat_le r.first r.last && nat_le r.last max_count && rise_from (r.last + 1) rs

-- ranges that rise begin within the limit
first_fits : (r : SeqRange) (rs : List SeqRange) → are_ranges (r ∷ rs) ≡ true → r.first ≤ max_count
first_fits r [] h =
    let p = and_parts (nat_le r.first r.last) (nat_le r.last max_count) h in
    omega (arith, leb-true _ _ p.0, leb-true _ _ p.1)
first_fits r (s ∷ rs) h =
    let p = and_parts (nat_le r.first r.last && nat_lt r.last s.first) (are_ranges (s ∷ rs)) h in
    let q = and_parts (nat_le r.first r.last) (nat_lt r.last s.first) p.0 in
    omega (arith, leb-true _ _ q.0, ltb-true _ _ q.1, first_fits s rs p.1)

-- the limit of a range that others are above need not be tested
one : (low first last next limit : ℕ) (rest : Bool)
    → (rest ≡ true → next ≤ limit)
    → (nat_le low first && nat_le first last && nat_le last limit && (nat_le (last + 1) next && rest)) ≡ (nat_le low first && (nat_le first last && nat_lt last next && rest))
one low first last next limit true h = let fits : next ≤ limit = h refl in grind (arith, nat_tests)
one low first last next limit false h = grind (arith, nat_tests)

pub rise_from-cons : (low : ℕ) (r : SeqRange) (rs : List SeqRange) → rise_from low (r ∷ rs) ≡ (nat_le low r.first && are_ranges (r ∷ rs))
rise_from-cons low r [] = grind (arith, nat_tests)
rise_from-cons low r (s ∷ rs) =
    ap (λ b. nat_le low r.first && nat_le r.first r.last && nat_le r.last max_count && b) (rise_from-cons (r.last + 1) s rs)
    ∙ one low r.first r.last s.first max_count (are_ranges (s ∷ rs)) (first_fits s rs)

-- ranges rise where they do from 0 on
pub rise_from-zero : (rs : List SeqRange) → rise_from 0 rs ≡ are_ranges rs
rise_from-zero [] = refl
rise_from-zero (r ∷ rs) = rise_from-cons 0 r rs ∙ ap (λ b. b && are_ranges (r ∷ rs)) (le-leb 0 r.first (omega arith))
