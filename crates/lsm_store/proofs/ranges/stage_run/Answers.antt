use Rattle.std.proofs.Common.{◌∙◌, ◌≡◌, ◌++◌, ◌+◌, ◌∷◌, [], List, suc, sym, ap, take, arith}
use Rattle.std.proofs.lemmas.List.Elements.{recursion_from_All}
use Rattle.mvcc_key.specs.Fragments.{Fragment}
use Rattle.mvcc_key.specs.RangeOperations.{RangeOp}
use Rattle.range_key.specs.RangeOps.{fragments_after, fragments_with}
use Rattle.range_key.proofs.OperationLaws.{fragments_after-more}
use Rattle.run_block.specs.Runs.{IsStoredRange}
use Rattle.run_block.specs.views.SeenRange.{lent_range}
use Rattle.lsm_store.proofs.StorableLaws.{stored-below, take-next, none-behind, each-there}
use Rattle.lsm_store.proofs.ranges.stage_run.Goals as goal
use Rattle.lsm_store.proofs.ranges.stage_run.Goals.{in-Some+in_ok-stage_lent, in_default}

pub stage_lent-requires : goal.stage_lent-requires
stage_lent-requires c =
    let ranges = c.args.run.now.ranges in
    let op : RangeOp = lent_range c.in-Some.op in
    stored-below op (each-there IsStoredRange ranges c.loop-index.index op (recursion_from_All IsStoredRange ranges c.range_len-index-end.ensures.run.ranges) (sym c.in-Some.ensures))

pub loop-index-preserved : goal.loop-index-preserved
loop-index-preserved c =
    let ranges = c.args.run.now.ranges in
    let i = c.loop-index.index in
    let base = c.args.fragments.now.next in
    elim c.match-range_op.branch [
      | in-Some+in_ok-stage_lent w ↦ (let op : RangeOp = lent_range w.in-Some.op in
          let next : take (c.loop-index.index + 1) ranges ≡ take i ranges ++ op ∷ [] = ap (λ n. take n ranges) (let on : c.loop-index.index + 1 ≡ suc i = omega arith in on) ∙ take-next ranges i op (sym w.in-Some.ensures) in
          record {
            fragments = ap (λ f. f.fragments) w.fragments-is ∙ w.stage_lent.ensures.fragments ∙ c.loop-index.invariant.fragments;
            next = ap (λ f. f.next) w.fragments-is ∙ w.in_ok-stage_lent.ensures.ok ∙ ap (λ (fs : List Fragment). fragments_with fs op) c.loop-index.invariant.next
                ∙ sym (fragments_after-more base (take i ranges) (op ∷ [])) ∙ ap (fragments_after base) (sym next);
          })
      | in_default w ↦ absurd (let few = none-behind ranges i (sym w.in_default.ensures) in omega (arith, few, c.loop-index-test.true, c.range_len-index-end.ensures.value))
    ]
