use Rattle.std.proofs.Common.{◌≡◌, ◌++◌, map, take}
use Rattle.lsm_store.specs.views.Seen.{seen_shape}
use Rattle.lsm_store.proofs.LayoutLaws.{run_shape}
use Rattle.lsm_store.proofs.store.Store.layout.Given as goal

abbrev pub invariant-loop-run : goal.invariant-loop-run
invariant-loop-run l = map seen_shape l.shapes.items ≡ map seen_shape l.initial.shapes.items ++ map run_shape (take l.run-index l.run-items)
