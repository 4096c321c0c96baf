-- Looks of halving over abbreviated keys alone.
use Rattle.std.proofs.Common.{◌≡◌, ◌≢◌, ℕ, ◌+◌, ◌-◌, ◌/◌, ◌<◌, ◌≤◌, Bool, true, false, cond, nat_lt, List, length, get_or, refl, sym, ap, subst, ◌∙◌, arith, inl, inr}
use Rattle.std.proofs.lemmas.Bool.{ltb-true, ltb-false, cases_lt}
use Rattle.mem_table.specs.views.Halves.{AreNotFalling, IsHalved}

-- an abbreviated key in the middle that is below settles those up to it
step-below : (abbreviated_keys : List ℕ) (abbreviated base count low left half : ℕ) → AreNotFalling abbreviated_keys → base + count ≤ length abbreviated_keys → IsHalved abbreviated_keys abbreviated base count low left → 0 < left
    → half ≡ left - left / 2 → get_or abbreviated_keys (low + half - 1) 0 < abbreviated → IsHalved abbreviated_keys abbreviated base count (low + half) (left - half)
step-below abbreviated_keys abbreviated base count low left half rising within h some is lt = record {
  from = (let from = h.from in omega arith);
  upto = (let upto = h.upto in omega arith);
  fewer = (let fewer = h.fewer in omega arith);
  below = below;
  above = λ k le less. h.above k (omega arith) less;
}
  where
    below : (k : ℕ) → base ≤ k → k < low + half → get_or abbreviated_keys k 0 < abbreviated
    below k from less =
        elim (cases_lt k low) [
          | inl before ↦ h.below k from before
          | inr behind ↦ (let upto = h.upto in let le = rising k (low + half - 1) (omega arith) (omega arith) in omega arith)
        ]

-- one that is above settles those from it on
step-above : (abbreviated_keys : List ℕ) (abbreviated base count low left half : ℕ) → AreNotFalling abbreviated_keys → base + count ≤ length abbreviated_keys → IsHalved abbreviated_keys abbreviated base count low left → 0 < left
    → half ≡ left - left / 2 → abbreviated < get_or abbreviated_keys (low + half - 1) 0 → IsHalved abbreviated_keys abbreviated base count low (left - half)
step-above abbreviated_keys abbreviated base count low left half rising within h some is lt = record {
  from = h.from;
  upto = (let upto = h.upto in omega arith);
  fewer = (let fewer = h.fewer in omega arith);
  below = h.below;
  above = above;
}
  where
    above : (k : ℕ) → low + (left - half) ≤ k → k < base + count → abbreviated < get_or abbreviated_keys k 0
    above k from less =
        elim (cases_lt k (low + left)) [
          | inl before ↦ (let le = rising (low + half - 1) k (omega arith) (omega arith) in omega arith)
          | inr behind ↦ h.above k behind less
        ]

-- one look
pub halved-step : (abbreviated_keys : List ℕ) (abbreviated base count low left half stored more : ℕ) → AreNotFalling abbreviated_keys → base + count ≤ length abbreviated_keys → IsHalved abbreviated_keys abbreviated base count low left → 0 < left
    → half ≡ left - left / 2 → stored ≡ get_or abbreviated_keys (low + half - 1) 0 → stored ≢ abbreviated → more ≡ cond (nat_lt stored abbreviated) half 0 → IsHalved abbreviated_keys abbreviated base count (low + more) (left - half)
halved-step abbreviated_keys abbreviated base count low left half stored more rising within h some is read apart are = by (nat_lt stored abbreviated) refl
  where
    by : (b : Bool) → nat_lt stored abbreviated ≡ b → IsHalved abbreviated_keys abbreviated base count (low + more) (left - half)
    by true lt =
        let all : more ≡ half = are ∙ ap (λ (b : Bool). cond b half 0) lt in
        let less : stored < abbreviated = ltb-true stored abbreviated lt in
        subst (λ (n : ℕ). IsHalved abbreviated_keys abbreviated base count (low + n) (left - half)) (sym all) (step-below abbreviated_keys abbreviated base count low left half rising within h some is (omega arith))
    by false ge =
        let same : low + more ≡ low = (let none : more ≡ 0 = are ∙ ap (λ (b : Bool). cond b half 0) ge in omega arith) in
        let at_least : abbreviated ≤ stored = ltb-false stored abbreviated ge in
        subst (λ (n : ℕ). IsHalved abbreviated_keys abbreviated base count n (left - half)) (sym same) (step-above abbreviated_keys abbreviated base count low left half rising within h some is (omega arith))
