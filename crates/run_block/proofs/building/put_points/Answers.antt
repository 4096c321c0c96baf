use Rattle.std.proofs.Common.{◌<◌, ◌^◌, ℕ, List, length, sym, subst}
use Rattle.mvcc_key.specs.views.SeenPoint.{points_of}
use Rattle.mvcc_key.specs.Batches.{IsStorable}
use Rattle.run_block.proofs.AddingLaws.{short-key, points-taken, IsAdding-more}
use Rattle.run_block.proofs.building.put_points.Goals as goal

pub add_point-requires-clause-short : goal.add_point-requires-clause-short
add_point-requires-clause-short c =
    let entry : IsStorable c.op-item.result = subst IsStorable (sym c.op-item.is) (c.requires.entries.storable c.loop-op.op-index c.op-item.result c.loop-op-test.true) in
    subst (λ (v : List ℕ). length v < 2 ^ 32) (sym c.as_slice.ensures) (short-key c.op-item.result entry)

pub loop-op-preserved : goal.loop-op-preserved
loop-op-preserved c =
    IsAdding-more (points_of c.args.points.now) c.loop-op.op-index c.args.out.now.items c.loop-op.out.items c.add_point.new.out.items c.loop-op.index c.add_point.new.index _ c.loop-op.invariant
    (points-taken c.args.points.now c.loop-op.op-index c.op-item.result c.as_slice.result.now _ c.loop-op-test.true c.op-item.is c.as_slice.ensures c.lent.ensures)
    c.in_ok-add_point.ensures.items c.in_ok-add_point.ensures.index c.in_ok-add_point.ensures.points c.in_ok-add_point.ensures.behind c.in_ok-add_point.ensures.ranges
