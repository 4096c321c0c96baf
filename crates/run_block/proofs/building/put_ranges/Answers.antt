use Rattle.mvcc_key.specs.views.SeenRange.{range_op_of, range_ops_of}
use Rattle.run_block.proofs.AddingLaws.{taken-more, IsAddingRanges-more}
use Rattle.run_block.proofs.building.put_ranges.Goals as goal

pub loop-op-preserved : goal.loop-op-preserved
loop-op-preserved c =
    IsAddingRanges-more (range_ops_of c.args.ranges.now) c.loop-op.op-index c.args.out.now.items c.loop-op.out.items c.add_range.new.out.items c.args.index.now c.loop-op.index c.add_range.new.index
    (range_op_of c.op-item.result) c.loop-op.invariant (taken-more range_op_of c.args.ranges.now c.loop-op.op-index c.op-item.result c.loop-op-test.true c.op-item.is)
    c.in_ok-add_range.ensures.items c.in_ok-add_range.ensures.index c.in_ok-add_range.ensures.points c.in_ok-add_range.ensures.ranges
