-- Points that rise may be put in two parts, the first part first or last.
use Rattle.std.specs.Prelude.{◌≡◌, not, List, [], ◌∷◌, ◌++◌, Option, Some, None}
use Rattle.std.specs.List.{AllByRecursion}
use Rattle.std.specs.List.Sorted.{IsStrictlySortedBy}
use Rattle.std.specs.declared.cmp.Ordering.{Ordering}
use Rattle.std.specs.declared.cmp.Ordering.TheVariants.{Less, Equal, Greater}
use Rattle.std.specs.Ordering.{is_eq, ordering_reverse}
use Rattle.std.specs.Cmp.{IsTotalOrder, on_total, tied_back}
use Rattle.std.proofs.Common.{refl, sym, ap, ◌∙◌}
use Rattle.std.proofs.lemmas.List.Kept.{IsStrictlySortedBy-filter}
use Rattle.mvcc_key.specs.Order.{Name, name_cmp, is_same_name, Pair, pair_cmp}
use Rattle.mvcc_key.specs.Points.{Point, point_cmp}
use Rattle.mvcc_key.proofs.EachLaws.{All-split}
use Rattle.mvcc_key.proofs.FilterLaws.{filter-swap}
use Rattle.mvcc_key.proofs.OrderLaws.{name_cmp-total}
use Rattle.mvcc_key.proofs.PlaceLaws.{put-swap_apart, filter-put}
use Rattle.mvcc_key.proofs.SortedLaws.{put_in_order-sorted}
use Rattle.intent_meta.specs.PairChanges.{with_pair, without_name}
use Rattle.intent_meta.specs.PointPairs.{with_value, with_points}

pair_cmp-total : IsTotalOrder pair_cmp
pair_cmp-total = on_total (λ p. p.name) name_cmp-total

-- ---- one point

-- pairs in order stay in order with what a name is set to
value-sorted : (name : Name) (value : Option (List _)) (ps : List Pair) → IsStrictlySortedBy pair_cmp ps → IsStrictlySortedBy pair_cmp (with_value name value ps)
value-sorted name None ps sorted = IsStrictlySortedBy-filter pair_cmp (λ q. not (is_same_name q.name name)) ps sorted
value-sorted name (Some value) ps sorted = put_in_order-sorted pair_cmp-total (record { name = name; value = value }) ps sorted

-- a pair is put beside one that is taken out
put-without : (p : Pair) (name : Name) (ps : List Pair) → (name_cmp p.name name ≡ Equal → ⊥) → IsStrictlySortedBy pair_cmp ps → without_name name (with_pair p ps) ≡ with_pair p (without_name name ps)
put-without p name ps apart sorted =
    filter-put pair_cmp-total (λ q. not (is_same_name q.name name)) (λ x y tie. ap (λ o. not (is_eq o)) (name_cmp-total.congr x.name y.name name tie)) p ps (passes (name_cmp p.name name) refl) sorted
  where
    passes : (o : Ordering) → name_cmp p.name name ≡ o → not (is_eq o) ≡ not (is_eq Less)
    passes Less e = refl
    passes Greater e = refl
    passes Equal e = absurd (apart e)

-- two names that differ are set in either order
value-swap : (a b : Name) (v w : Option (List _)) (ps : List Pair) → name_cmp a b ≡ Less → IsStrictlySortedBy pair_cmp ps → with_value a v (with_value b w ps) ≡ with_value b w (with_value a v ps)
value-swap a b None None ps less sorted = filter-swap (λ q. not (is_same_name q.name a)) (λ q. not (is_same_name q.name b)) ps
value-swap a b None (Some w) ps less sorted = put-without (record { name = b; value = w }) a ps (λ tie. let back : name_cmp a b ≡ Equal = tied_back name_cmp-total b a tie in absurd cc) sorted
value-swap a b (Some v) None ps less sorted = sym (put-without (record { name = a; value = v }) b ps (λ tie. absurd cc) sorted)
value-swap a b (Some v) (Some w) ps less sorted = put-swap_apart pair_cmp-total (record { name = a; value = v }) (record { name = b; value = w }) ps (λ tie. absurd cc)

-- ---- several points

-- pairs in order stay in order with points
points-sorted : (points : List Point) (ps : List Pair) → IsStrictlySortedBy pair_cmp ps → IsStrictlySortedBy pair_cmp (with_points points ps)
points-sorted [] ps sorted = sorted
points-sorted (p ∷ points) ps sorted = value-sorted p.name p.value (with_points points ps) (points-sorted points ps sorted)

-- a point below others may be put before them
point-first : (p : Point) (points : List Point) (ps : List Pair) → AllByRecursion (λ q. point_cmp p q ≡ Less) points → IsStrictlySortedBy pair_cmp ps
    → with_value p.name p.value (with_points points ps) ≡ with_points points (with_value p.name p.value ps)
point-first p [] ps below sorted = refl
point-first p (q ∷ points) ps below sorted =
    value-swap p.name q.name p.value q.value (with_points points ps) below.0 (points-sorted points ps sorted)
    ∙ ap (with_value q.name q.value) (point-first p points ps below.1 sorted)

-- of points that rise the first part rises
pub first-rises : (xs ys : List Point) → IsStrictlySortedBy point_cmp (xs ++ ys) → IsStrictlySortedBy point_cmp xs
unfolding IsStrictlySortedBy
first-rises [] ys rising = tt
first-rises (x ∷ xs) ys rising = ((All-split (λ q. point_cmp x q ≡ Less) xs ys rising.0).0, first-rises xs ys rising.1)

-- and may be put first
pub points-parts : (xs ys : List Point) (ps : List Pair) → IsStrictlySortedBy point_cmp (xs ++ ys) → IsStrictlySortedBy pair_cmp ps → with_points (xs ++ ys) ps ≡ with_points ys (with_points xs ps)
unfolding IsStrictlySortedBy
points-parts [] ys ps rising sorted = refl
points-parts (x ∷ xs) ys ps rising sorted =
    ap (with_value x.name x.value) (points-parts xs ys ps rising.1 sorted)
    ∙ point-first x ys (with_points xs ps) (All-split (λ q. point_cmp x q ≡ Less) xs ys rising.0).1 (points-sorted xs ps sorted)
