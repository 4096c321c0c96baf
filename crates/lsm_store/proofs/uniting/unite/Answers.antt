use Rattle.std.proofs.Common.{All, subst, ap, sym, ◌∙◌}
use Rattle.mvcc_key.specs.Batches.{IsStoredPoint}
use Rattle.merge_cursor.specs.Merged.{merged}
use Rattle.merge_cursor.specs.Visible.{visible}
use Rattle.lsm_store.proofs.CompactLaws.{stored-united}
use Rattle.lsm_store.proofs.uniting.unite.Goals as goal

pub collect-requires-clause-stored : goal.collect-requires-clause-stored
collect-requires-clause-stored c =
    let shows = c.over-cursor.ensures.points ∙ ap visible (c.over.ensures.points ∙ ap merged c.in_ok-cursors_over.ensures.points) in
    subst (All IsStoredPoint) (sym shows) (stored-united c.args.runs.now c.in_ok-cursors_over.ensures.stored)
