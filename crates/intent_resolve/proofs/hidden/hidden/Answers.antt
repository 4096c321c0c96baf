-- The store is that of a history.
use Rattle.std.proofs.Common.{◌∙◌}
use Rattle.mvcc_key.specs.views.SeenPoint.{points_of}
use Rattle.range_key.specs.RangeOps.{fragments_after}
use Rattle.lsm_store.specs.Shown.{shown, fragments_in, with_batch}
use Rattle.intent_resolve.proofs.HiddenLaws.{hidden-by, hidden-well_formed}
use Rattle.intent_resolve.proofs.hidden.hidden.Goals as goal

pub returns-clause-formed : goal.returns-clause-formed
returns-clause-formed c = hidden-well_formed c.apply.new.self
    (c.in_ok-apply.ensures.shown ∙ (λ i. with_batch (points_of (c.in_ok-batch.ensures.points i)) (shown (c.new-store.ensures i))))
    (c.in_ok-apply.ensures.fragments ∙ (λ i. fragments_after (fragments_in (c.new-store.ensures i)) (c.in_ok-batch.ensures.ranges i)))

pub returns-clause-by : goal.returns-clause-by
returns-clause-by c = hidden-by c.apply.new.self
    (c.in_ok-apply.ensures.shown ∙ (λ i. with_batch (points_of (c.in_ok-batch.ensures.points i)) (shown (c.new-store.ensures i))))
    (c.in_ok-apply.ensures.fragments ∙ (λ i. fragments_after (fragments_in (c.new-store.ensures i)) (c.in_ok-batch.ensures.ranges i)))
