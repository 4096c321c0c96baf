use Rattle.std.proofs.Common.{sym, subst}
use Rattle.std.specs.Prelude.{All}
use Rattle.mvcc_key.specs.Batches.{IsStoredPoint}
use Rattle.mvcc_key.proofs.BatchLaws.{stored-entries}
use Rattle.run_block.proofs.building.build.Goals as goal

pub run_with-requires-clause-stored : goal.run_with-requires-clause-stored
run_with-requires-clause-stored c =
    subst (All IsStoredPoint) (sym c.in_ok-put_points.ensures.points) (stored-entries c.args.points.now c.requires.points)
