-- The store before the first version of the key with many.
use Rattle.std.proofs.Common.{◌∙◌}
use Rattle.mvcc_key.specs.views.SeenPoint.{points_of}
use Rattle.mvcc_key.specs.views.SeenRange.{range_ops_of}
use Rattle.range_key.specs.RangeOps.{fragments_after}
use Rattle.lsm_store.specs.Shown.{shown, fragments_in, with_batch}
use Rattle.mvcc_cursor.proofs.ManyLaws.{shown-first}
use Rattle.mvcc_cursor.proofs.many.store_of_first.Goals as goal

pub returns : goal.returns
returns c = record {
  shows = c.in_ok-apply.ensures.shown ∙ (λ i. with_batch (points_of (c.in_ok-first.ensures.same i).points) (shown (c.new-store.ensures i))) ∙ shown-first;
  none = c.in_ok-apply.ensures.fragments ∙ (λ i. fragments_after (fragments_in (c.new-store.ensures i)) (range_ops_of (c.in_ok-first.ensures.same i).ranges));
}
