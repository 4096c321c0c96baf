use Rattle.run_block.proofs.ReadingLaws.{IsReadingRanges}
use Rattle.run_block.proofs.parsing.read_ranges.Given as goal

abbrev pub invariant-operations : goal.invariant-operations
invariant-operations l = IsReadingRanges l.count l.counter l.fn.reader l.reader l.fn.index l.index
