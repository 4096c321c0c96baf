use Rattle.std.proofs.Common.{subst, ap}
use Rattle.std.specs.Prelude.{All}
use Rattle.mvcc_key.specs.Batches.{IsStoredPoint}
use Rattle.mvcc_key.proofs.BatchLaws.{stored-entries}
use Rattle.mem_table.specs.views.Seen.{ops_held}
use Rattle.mem_table.specs.Table.{Table}
use Rattle.mem_table.proofs.table.MemTable.cursor.Goals as goal

pub returns-clause-stored : goal.returns-clause-stored
returns-clause-stored c =
    subst (All IsStoredPoint) (ap (λ (t : Table). t.points) c.self.view_is) (stored-entries (ops_held c.self.inside.points) c.self.inside.points.entries)
