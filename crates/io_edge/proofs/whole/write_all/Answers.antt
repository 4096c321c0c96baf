use Rattle.std.proofs.Common.{arith, drop, ◌≡◌, ◌∙◌}
use Rattle.io_edge.proofs.Known.{appends-more, rest-more}
use Rattle.io_edge.proofs.whole.write_all.Goals as goal

pub loop-rest-preserved : goal.loop-rest-preserved
loop-rest-preserved g c =
    let i = c.loop-rest.invariant in
    let w = c.in_ok-count.ensures in
    let back : c.split_at.result.1.now ≡ drop c.in_ok-count.count c.loop-rest.rest.now = c.split_at.ensures.back in
    record {
      short = omega (arith, i.short, c.split_at.ensures.back_len);
      rest = rw back (rest-more c.args.piece.now c.loop-rest.rest.now c.in_ok-count.count i.rest i.short w.bound);
      appended = rw back (appends-more _ _ _ c.args.piece.now c.loop-rest.rest.now c.in_ok-count.count i.rest i.short w.bound i.appended w.bytes);
      told = w.told ∙ i.told;
      sure = w.cause.sure ∙ i.sure;
      later = omega (arith, i.later, w.cause.later);
    }
