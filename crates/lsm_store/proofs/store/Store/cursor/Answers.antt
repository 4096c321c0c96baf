use Rattle.std.proofs.Common.{◌∙◌, ap}
use Rattle.merge_cursor.specs.Merged.{merged}
use Rattle.merge_cursor.specs.Visible.{visible}
use Rattle.lsm_store.specs.Shown.{visible_points}
use Rattle.lsm_store.proofs.store.Store.cursor.Goals as goal

pub returns-clause-points : goal.returns-clause-points
unfolding visible_points
returns-clause-points c = c.over-2.ensures.points ∙ ap visible (c.over.ensures.points ∙ ap merged c.in_ok-cursors.ensures.points)
