use Rattle.std.proofs.Common.{◌≡◌, ◌++◌, map, take, All}
use Rattle.lsm_store.specs.views.Cursors.{points_at, place_at}
use Rattle.lsm_store.proofs.store.Store.cursors.Given as goal

abbrev pub invariant-loop-run : goal.invariant-loop-run
invariant-loop-run l = record {
  points : map points_at l.cursors.items ≡ map points_at l.initial.cursors.items ++ map (λ r. r.points) (take l.run-index l.run-items);
  places : All (λ c. place_at c ≡ 0) l.cursors.items;
}
