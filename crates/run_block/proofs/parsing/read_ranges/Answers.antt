use Rattle.std.proofs.Common.{◌∙◌}
use Rattle.std.proofs.lemmas.Result.{err_from_is_err_and}
use Rattle.run_block.proofs.ReadingLaws.{IsReadingRanges-first, IsReadingRanges-more, IsReadingRanges-fault, IsReadingRanges-last}
use Rattle.run_block.proofs.parsing.read_ranges.Goals as goal

pub operations-init : goal.operations-init
operations-init c = IsReadingRanges-first c.args.count c.args.reader.now c.args.index.now c.requires.index c.requires.ranges

pub returns-in_err-range-clause-same : goal.returns-in_err-range-clause-same
returns-in_err-range-clause-same c = c.in_err-range.ensures.same ∙ c.operations.invariant.same

-- the fault is that of the range operation
pub returns-in_err-range-clause-fault : goal.returns-in_err-range-clause-fault
returns-in_err-range-clause-fault c =
    let p = err_from_is_err_and c.from_residual.result c.from_residual.ensures.1 in
    rw (p.1, p.2) (IsReadingRanges-fault c.args.count c.operations.counter c.args.reader.now c.operations.reader c.args.index.now c.operations.index _ c.operations.invariant c.operations-test.true c.in_err-range.ensures.reading)

pub returns-in_err-add_range-clause-same : goal.returns-in_err-add_range-clause-same
returns-in_err-add_range-clause-same c = c.in_ok-range.ensures.same ∙ c.operations.invariant.same

pub operations-preserved : goal.operations-preserved
operations-preserved c =
    IsReadingRanges-more c.args.count c.operations.counter c.args.reader.now c.operations.reader _ c.args.index.now c.operations.index _ c.in_ok-range.range
    c.operations.invariant c.operations-test.true c.in_ok-range.ensures.same c.in_ok-range.ensures.reading c.in_ok-range.ensures.placed
    c.in_ok-add_range.ensures.index c.in_ok-add_range.ensures.points c.in_ok-add_range.ensures.ranges

pub returns-clause-same : goal.returns-clause-same
returns-clause-same c = c.operations.invariant.same

pub returns-clause-ranges : goal.returns-clause-ranges
returns-clause-ranges c =
    IsReadingRanges-last c.args.count c.operations.counter c.args.reader.now c.operations.reader c.args.index.now c.operations.index c.operations.invariant c.operations-test.false

pub returns-clause-index : goal.returns-clause-index
returns-clause-index c = c.operations.invariant.index_is

pub returns-clause-points : goal.returns-clause-points
returns-clause-points c = c.operations.invariant.points
