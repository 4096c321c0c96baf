-- The points that a store shows, and the cursors over them.
use Rattle.std.proofs.Common.{◌≡◌, ℕ, zero, suc, ◌+◌, ◌≤◌, Bool, true, false, cond, List, [], ◌∷◌, length, refl, sym, ap, subst, ◌∙◌}
use Rattle.std.specs.Prelude.{Some, is_some, IsSome, slice_get}
use Rattle.mvcc_key.specs.Points.{Point, IsRising}
use Rattle.mvcc_key.proofs.PointLaws.{rising-sorted}
use Rattle.lsm_store.proofs.ApplyLaws.{sorted-shown}
use Rattle.merge_cursor.specs.Merged.{merged}
use Rattle.merge_cursor.specs.Visible.{visible, visible_place-le}
use Rattle.merge_cursor.specs.views.Seen.{shown_points, shown_place}
use Rattle.merge_cursor.specs.declared.visible.VisibleCursor.{VisibleCursor}
use Rattle.run_block.specs.RunFormat.{Run}
use Rattle.lsm_store.specs.Shown.{points_in, shown, visible_points}
use Rattle.lsm_store.specs.views.Cursors.{points_at, place_at}
use Rattle.lsm_store.specs.declared.part.PartCursor.{PartCursor}
use Rattle.mvcc_cursor.specs.views.Short.{AreSet}
use Rattle.mvcc_cursor.specs.views.Under.{IsOver, points_under, place_under}

-- visible points have values
pub visible-set : (points : List Point) → AreSet (visible points)
visible-set [] i p is = cc
visible-set (q ∷ qs) i p is = by (is_some q.value) refl i is (visible-set qs)
  where
    by : (b : Bool) → is_some q.value ≡ b → (i : ℕ) → slice_get (cond b (q ∷ visible qs) (visible qs)) i ≡ Some p → AreSet (visible qs) → IsSome p.value
    by false there i is rest = rest i p is
    by true there zero is rest = (let same : q ≡ p = cc in ap (λ (r : Point). is_some r.value) (sym same) ∙ there)
    by true there (suc i) is rest = rest i p is

-- each point that is shown has a value
pub shown-set : (store : List Run) → AreSet (shown store)
unfolding visible_points
shown-set store = visible-set (merged (points_in store))

-- each point that a store's cursor shows has a value
pub set-under : {B : _} (v : VisibleCursor PartCursor B) → AreSet (points_under v)
set-under v = visible-set (shown_points points_at place_at (λ _. true) v.merged)

-- the points that are shown rise
pub shown-rising : (store : List Run) → IsRising (shown store)
shown-rising store = rising-sorted (shown store) (sorted-shown (points_in store))

-- where a store's cursor stands
pub placed : {B : _} (store : List Run) (v : VisibleCursor PartCursor B) → IsOver store v → place_under v ≤ length (shown store) + 1
placed store v over = subst (λ (ps : List Point). place_under v ≤ length ps + 1) over.0 (visible_place-le (shown_points points_at place_at (λ _. true) v.merged) (shown_place points_at place_at (λ _. true) v.merged))
