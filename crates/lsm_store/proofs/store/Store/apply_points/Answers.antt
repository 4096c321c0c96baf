-- A batch of point operations alone is a batch.
use Rattle.std.proofs.Common.{◌∙◌, sym, subst, arith}
use Rattle.std.specs.Prelude.{All}
use Rattle.mvcc_key.specs.Batches.{AreEntries, IsStorableRange}
use Rattle.lsm_store.proofs.store.Store.apply_points.Goals as goal

pub apply_both-requires : goal.apply_both-requires
apply_both-requires c = record {
  points = subst AreEntries (sym (c.from_vec.ensures ∙ c.into_vec-ops.ensures)) c.requires;
  ranges = subst (All IsStorableRange) (sym c.new.ensures) (λ k d within. absurd (omega (arith, within)));
}
