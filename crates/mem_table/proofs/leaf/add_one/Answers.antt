use Rattle.std.proofs.Common.{◌≡◌, ℕ, ◌+◌, ◌<◌, ◌^◌, length, get_or, ap, ◌∙◌, arith}
use Rattle.mem_table.proofs.StartLaws.{grown, grown-first, grown-at, grown-next, grown-last, from-at}
use Rattle.mem_table.proofs.leaf.add_one.Goals as goal

pub loop-i-init : goal.loop-i-init
loop-i-init c = record { from_is = omega arith; grown = grown-first c.args.from c.args.starts.now }

pub overflow_add-starts : goal.overflow_add-starts
overflow_add-starts c =
    let starts = c.args.starts.now in
    let same = c.loop-i.auto.starts in
    let fits = from-at (λ n. n + 1 < 2 ^ 32) c.args.from c.loop-i.i starts 0 c.loop-i.invariant.from_is (omega arith) c.requires.fits in
    let at : get_or c.loop-i.starts c.loop-i.i 0 ≡ get_or starts c.loop-i.i 0 =
    ap (λ us. get_or us c.loop-i.i 0) c.loop-i.invariant.grown ∙ grown-at c.args.from c.loop-i.i starts 0 in
    record { fits = omega arith }

pub loop-i-preserved : goal.loop-i-preserved
loop-i-preserved c =
    let same = c.loop-i.auto.starts in
    record {
      from_is = (let from = c.loop-i.invariant.from_is in omega arith);
      grown = grown-next c.args.from c.loop-i.i c.args.starts.now c.loop-i.starts 0 c.loop-i.invariant.from_is (omega arith) c.loop-i.invariant.grown;
    }

pub returns : goal.returns
returns c =
    let done = c.loop-i-test.false in
    let end = c.loop-i.auto.i in
    let all : c.loop-i.i ≡ length c.args.starts.now = omega arith in
    c.loop-i.invariant.grown ∙ ap (λ (n : ℕ). grown c.args.from n c.args.starts.now) all ∙ grown-last c.args.from c.args.starts.now
