-- The store is that of a history.
use Rattle.std.proofs.Common.{◌∙◌}
use Rattle.mvcc_key.specs.views.SeenPoint.{points_of}
use Rattle.mvcc_key.specs.views.SeenRange.{range_ops_of}
use Rattle.range_key.specs.RangeOps.{fragments_after}
use Rattle.lsm_store.specs.Shown.{shown, fragments_in, with_batch}
use Rattle.mvcc_cursor.specs.views.Filled.{cleared_points, second_ranges, third_batch}
use Rattle.mvcc_cursor.proofs.FilledLaws.{filled-well_formed}
use Rattle.mvcc_cursor.proofs.filled.filled.Goals as goal

pub returns : goal.returns
returns c = filled-well_formed c.write-3.new.store
    (c.in_ok-write-3.ensures.shown
    ∙ (λ i. with_batch (points_of (c.in_ok-newest.ensures.same i).points) (c.in_ok-write-2.ensures.shown i))
    ∙ (λ i. with_batch (points_of third_batch.points) (with_batch (points_of (c.in_ok-middle.ensures.points i)) (c.in_ok-write.ensures.shown i)))
    ∙ (λ i. with_batch (points_of third_batch.points) (with_batch (points_of cleared_points) (with_batch (points_of (c.in_ok-oldest.ensures.same i).points) (shown (c.new-store.ensures i))))))
    (c.in_ok-write-3.ensures.fragments
    ∙ (λ i. fragments_after (c.in_ok-write-2.ensures.fragments i) (range_ops_of (c.in_ok-newest.ensures.same i).ranges))
    ∙ (λ i. fragments_after (c.in_ok-write.ensures.fragments i) (c.in_ok-middle.ensures.ranges i))
    ∙ (λ i. fragments_after (fragments_after (fragments_in (c.new-store.ensures i)) (range_ops_of (c.in_ok-oldest.ensures.same i).ranges)) second_ranges))
