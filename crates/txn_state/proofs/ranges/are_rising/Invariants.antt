use Rattle.std.proofs.Common.{◌≡◌, drop}
use Rattle.txn_state.specs.views.Seen.{ranges_of}
use Rattle.txn_state.specs.Transaction.{are_ranges}
use Rattle.txn_state.proofs.RangeLaws.{rise_from}
use Rattle.txn_state.proofs.ranges.are_rising.Given as goal

abbrev pub invariant-loop-range : goal.invariant-loop-range
invariant-loop-range l = rise_from l.lowest (ranges_of (drop l.range-index l.ranges)) ≡ are_ranges (ranges_of l.ranges)
