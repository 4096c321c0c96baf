use Rattle.std.proofs.Common.{◌∷◌, map}
use Rattle.std.proofs.lemmas.List.Filters.{FiltersInPlace}
use Rattle.mvcc_key.specs.views.SeenPoint.{point_of}
use Rattle.lsm_store.specs.Shown.{visible_points}
use Rattle.lsm_store.specs.views.Changing.{changes_points}
use Rattle.lsm_store.proofs.changing.retain_changes.Given as goal

abbrev pub invariant-loop-i : goal.invariant-loop-i
invariant-loop-i l =
    FiltersInPlace (λ op. changes_points (visible_points (l.table.points ∷ map (λ r. r.points) l.runs)) (point_of op)) l.initial.ops.items l.ops.items l.kept l.i
