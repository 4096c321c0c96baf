use Rattle.run_block.proofs.ReadingLaws.{IsReadingPoints}
use Rattle.run_block.proofs.parsing.read_points.Given as goal

abbrev pub invariant-points : goal.invariant-points
invariant-points l = IsReadingPoints l.count l.counter l.fn.reader l.reader l.before l.index
