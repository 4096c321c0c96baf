use Rattle.std.proofs.Common.{◌≡◌, map, take, All}
use Rattle.mvcc_key.specs.Batches.{IsStoredPoint}
use Rattle.lsm_store.specs.views.Cursors.{points_at, place_at}
use Rattle.lsm_store.proofs.uniting.cursors_over.Given as goal

abbrev pub invariant-loop-run : goal.invariant-loop-run
invariant-loop-run l = record {
  points : map points_at l.cursors.items ≡ map (λ r. r.points) (take l.run-index l.runs);
  places : All (λ c. place_at c ≡ 0) l.cursors.items;
  stored : All (λ r. All IsStoredPoint r.points) (take l.run-index l.runs);
}
