-- How many names a part has and clears.
use Rattle.std.proofs.Common.{◌≡◌, ℕ, zero, suc, ◌+◌, ◌<◌, ◌≤◌, Bool, true, false, cond, List, [], ◌∷◌, length, take, map, refl, sym, ap, ◌∙◌, arith}
use Rattle.std.specs.Borrow.{Bor}
use Rattle.std.specs.Prelude.{slice_get, is_some, not, filter, Some, None}
use Rattle.std.specs.declared.option.Option.{Option}
use Rattle.std.specs.Option.{option_and_then, option_map}
use Rattle.std.proofs.lemmas.List.{take_all, length-map}
use Rattle.mvcc_key.specs.Points.{Point, value_at}
use Rattle.mvcc_key.proofs.PointLaws.{point_at-next}
use Rattle.mvcc_key.specs.Lists.{is_empty}
use Rattle.mvcc_key.specs.Fragments.{Fragment}
use Rattle.run_block.specs.RunFormat.{Run}
use Rattle.lsm_store.specs.Parts as parts
use Rattle.lsm_store.specs.Parts.{NameState, part_shape, layout}
use Rattle.lsm_store.specs.Shown.{state_of_point, part_of, parts_of, fragments_in}

-- the point is cleared
abbrev pub is_clear : Point → Bool
is_clear p = not (is_some p.value)

-- how many of the first are cleared
abbrev pub clears_in : ℕ → List Point → ℕ
clears_in n ps = length (filter is_clear (take n ps))

-- one point more
clears-suc : (ps : List Point) (n : ℕ) → n < length ps
    → clears_in (suc n) ps ≡ clears_in n ps + cond (not (is_some (option_and_then (λ p. p.value) (slice_get ps n)))) 1 0
clears-suc [] n lt = absurd (omega arith)
clears-suc (p ∷ ps) zero lt = by (is_clear p)
  where
    by : (b : Bool) → length (cond b (p ∷ []) []) ≡ 0 + cond b 1 0
    by true = refl
    by false = refl
clears-suc (p ∷ ps) (suc n) lt = by (is_clear p) (clears-suc ps n (omega arith))
  where
    more : ℕ
    more = cond (not (is_some (option_and_then (λ (q : Point). q.value) (slice_get ps n)))) 1 0

    by : (b : Bool) → clears_in (suc n) ps ≡ clears_in n ps + more
        → length (cond b (p ∷ filter is_clear (take (suc n) ps)) (filter is_clear (take (suc n) ps))) ≡ length (cond b (p ∷ filter is_clear (take n ps)) (filter is_clear (take n ps))) + more
    by true rest = omega arith
    by false rest = rest

-- the same, by the value that a cursor shows of it
pub clears-more : (old now : List Point) (place n before after : ℕ) (value : Option (Bor (List ℕ))) (is_none : Bool) → n < length old → now ≡ old → place ≡ n + 1
    → option_map (λ v. v.now) value ≡ value_at now place → is_some value ≡ not is_none → before ≡ clears_in n old → after ≡ before + cond is_none 1 0
    → after ≡ clears_in (n + 1) old
clears-more old now place n before after value is_none lt same at shows none so_far more =
    let here : value_at now place ≡ option_and_then (λ (p : Point). p.value) (slice_get old n) =
    (λ i. value_at (same i) (at i)) ∙ ap (option_and_then (λ (p : Point). p.value)) (point_at-next old n) in
    let clear : is_none ≡ not (is_some (option_and_then (λ (p : Point). p.value) (slice_get old n))) =
    sym (twice is_none) ∙ ap not (sym none ∙ sym (seen value) ∙ ap is_some (shows ∙ here)) in
    let next : suc n ≡ n + 1 = omega arith in
    more ∙ (λ i. so_far i + cond (clear i) 1 0) ∙ sym (clears-suc old n lt) ∙ ap (λ (m : ℕ). clears_in m old) next
  where
    twice : (b : Bool) → not (not b) ≡ b
    twice true = refl
    twice false = refl

    seen : (o : Option (Bor (List ℕ))) → is_some (option_map (λ v. v.now) o) ≡ is_some o
    seen None = refl
    seen (Some v) = refl

-- all points
pub clears-all : (ps : List Point) (n : ℕ) → length ps ≤ n → clears_in n ps ≡ length (filter is_clear ps)
clears-all ps n le = ap (λ (qs : List Point). length (filter is_clear qs)) (take_all n ps le)

-- the names that the part clears
pub clears-states : (ps : List Point) → length (filter (λ (s : NameState). not s.is_set) (map state_of_point ps)) ≡ length (filter is_clear ps)
clears-states [] = refl
clears-states (p ∷ ps) = by (is_clear p) (clears-states ps)
  where
    by : (b : Bool) → length (filter (λ (s : NameState). not s.is_set) (map state_of_point ps)) ≡ length (filter is_clear ps)
        → length (cond b (state_of_point p ∷ filter (λ (s : NameState). not s.is_set) (map state_of_point ps)) (filter (λ (s : NameState). not s.is_set) (map state_of_point ps)))
        ≡ length (cond b (p ∷ filter is_clear ps) (filter is_clear ps))
    by true rest = ap suc rest
    by false rest = rest

-- what is shown of a run
abbrev pub run_shape : Run → parts.PartShape
run_shape r = record { keys = length r.points; clears = length (filter is_clear r.points); ranges = not (is_empty r.ranges) }

-- what is shown of it as a part
shape-run : (r : Run) (closing : List Fragment) → run_shape r ≡ part_shape (part_of r closing)
shape-run r closing =
    λ i. record { keys = sym (length-map r.points state_of_point) i; clears = sym (clears-states r.points) i; ranges = not (is_empty r.ranges) }

-- what is shown of all parts
pub shapes-parts : (runs : List Run) → map run_shape runs ≡ layout (parts_of runs)
unfolding parts_of
shapes-parts [] = refl
shapes-parts (r ∷ rs) = λ i. shape-run r (fragments_in (r ∷ rs)) i ∷ shapes-parts rs i
