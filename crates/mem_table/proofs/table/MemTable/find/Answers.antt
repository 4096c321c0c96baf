use Rattle.std.proofs.Common.{subst, ap}
use Rattle.mvcc_key.specs.Points.{IsRising}
use Rattle.mem_table.specs.Table.{Table}
use Rattle.mem_table.proofs.table.MemTable.find.Goals as goal

pub returns-clause-rising : goal.returns-clause-rising
returns-clause-rising c = subst IsRising (ap (λ (t : Table). t.points) c.self.view_is) c.self.inside.points.entries.rising
