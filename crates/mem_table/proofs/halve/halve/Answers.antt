use Rattle.std.proofs.Common.{◌+◌, ◌-◌, ◌/◌, ◌≤◌, get_or, refl, arith}
use Rattle.mvcc_key.specs.views.Looks.{bits}
use Rattle.mvcc_key.proofs.LookLaws.{bits-half}
use Rattle.mem_table.proofs.HalveLaws.{halved-step}
use Rattle.mem_table.proofs.halve.halve.Goals as goal

pub loop-left-preserved : goal.loop-left-preserved
loop-left-preserved g c =
    let low = c.loop-left.low in
    let left = c.loop-left.left in
    let half = left - left / 2 in
    let some = c.loop-left-test.true in
    let fewer : bits (left - half) + 1 ≤ bits left = bits-half left (left - half) (omega arith) (omega arith) in
    record {
      halved = halved-step c.args.abbreviated_keys.now c.args.abbreviated c.args.base c.args.count low left half (get_or c.args.abbreviated_keys.now (low + half - 1) 0) c.half_if_below-low.result
          c.requires.rising c.requires.within c.loop-left.invariant.halved (omega arith) refl refl c.if-stored-abbreviated.false c.half_if_below-low.ensures;
      bound = omega arith;
      later = omega arith;
      some = λ less. omega arith;
    }
