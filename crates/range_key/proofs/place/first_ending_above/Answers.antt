use Rattle.std.proofs.Common.{ap, refl, ◌∙◌, sym, ◌+◌, ◌-◌, ◌/◌, ◌≤◌, length, arith}
use Rattle.std.proofs.lemmas.Option.{slice_get_read}
use Rattle.mvcc_key.specs.Order.{is_at_or_below}
use Rattle.mvcc_key.specs.views.Looks.{bits}
use Rattle.mvcc_key.proofs.LookLaws.{bits-half}
use Rattle.mvcc_key.proofs.PieceLaws.{canonical-pieces}
use Rattle.range_key.proofs.PlaceLaws.{ends_by-take, ends_above-drop}
use Rattle.range_key.proofs.place.first_ending_above.Goals as goal

pub loop-low-preserved-then-is_by : goal.loop-low-preserved-then-is_by
loop-low-preserved-then-is_by g c =
    let n = c.loop-low.invariant in
    let at = slice_get_read c.args.fragments.now (length c.args.fragments.now) (c.loop-low.low + (c.loop-low.high - c.loop-low.low) / 2) c.index-fragments-middle.result refl (omega arith) c.index-fragments-middle.is in
    let cost : bits (c.loop-low.high - (c.loop-low.low + (c.loop-low.high - c.loop-low.low) / 2 + 1)) + 1 ≤ bits (c.loop-low.high - c.loop-low.low) = bits-half _ _ (omega arith) (omega arith) in
    record {
      ordered = omega arith;
      within = n.within;
      before = ends_by-take c.args.key.now c.args.fragments.now _ _ (canonical-pieces c.args.fragments.now c.requires) at (ap (λ end. is_at_or_below end c.args.key.now) (sym c.end_bytes.ensures) ∙ sym c.is_by.ensures.answer ∙ c.if-is_by.true);
      from = n.from;
      later = omega arith;
      cost = omega arith;
    }

pub loop-low-preserved : goal.loop-low-preserved
loop-low-preserved g c =
    let n = c.loop-low.invariant in
    let at = slice_get_read c.args.fragments.now (length c.args.fragments.now) (c.loop-low.low + (c.loop-low.high - c.loop-low.low) / 2) c.index-fragments-middle.result refl (omega arith) c.index-fragments-middle.is in
    let cost : bits (c.loop-low.low + (c.loop-low.high - c.loop-low.low) / 2 - c.loop-low.low) + 1 ≤ bits (c.loop-low.high - c.loop-low.low) = bits-half _ _ (omega arith) (omega arith) in
    record {
      ordered = omega arith;
      within = omega arith;
      before = n.before;
      from = ends_above-drop c.args.key.now c.args.fragments.now _ _ at (ap (λ end. is_at_or_below end c.args.key.now) (sym c.end_bytes.ensures) ∙ sym c.is_by.ensures.answer ∙ c.if-is_by.false);
      later = omega arith;
      cost = omega arith;
    }
