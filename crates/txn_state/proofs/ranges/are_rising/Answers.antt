use Rattle.txn_state.specs.views.Seen.{ranges_of}
use Rattle.txn_state.proofs.RangeLaws.{rise_from-zero}
use Rattle.txn_state.proofs.ranges.are_rising.Goals as goal

pub loop-range-init : goal.loop-range-init
loop-range-init c = rise_from-zero (ranges_of c.args.ranges.now)
