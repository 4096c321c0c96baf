use Rattle.std.proofs.Common.{◌∙◌, ◌≡◌, ◌++◌, ◌+◌, ◌∷◌, [], List, sym, ap, subst, take}
use Rattle.std.proofs.lemmas.List.{take_more, map-append}
use Rattle.mvcc_key.specs.Fragments.{Fragment}
use Rattle.mvcc_key.specs.Batches.{IsStorableRange}
use Rattle.mvcc_key.specs.declared.batch.RangeOp.{RangeOp}
use Rattle.mvcc_key.specs.views.SeenRange.{range_op_of, range_ops_of}
use Rattle.range_key.specs.RangeOps.{fragments_after, fragments_with}
use Rattle.range_key.proofs.OperationLaws.{fragments_after-more}
use Rattle.lsm_store.proofs.ranges.stage_ops.Goals as goal

pub stage-requires : goal.stage-requires
stage-requires c = (subst IsStorableRange (sym c.op-item.is) (c.requires c.loop-op.op-index c.op-item.result c.loop-op-test.true)).below

pub loop-op-preserved : goal.loop-op-preserved
loop-op-preserved c =
    let ops = c.args.ops.now in
    let i = c.loop-op.op-index in
    let op = c.op-item.result in
    let base = c.args.fragments.now.next in
    let next : take (c.loop-op.op-index + 1) ops ≡ take i ops ++ op ∷ [] =
    take_more ops i op c.loop-op-test.true ∙ ap (λ (o : RangeOp). take i ops ++ o ∷ []) (sym c.op-item.is) in
    record {
      fragments = c.stage.ensures.fragments ∙ c.loop-op.invariant.fragments;
      next = c.in_ok-stage.ensures.next ∙ ap (λ (fs : List Fragment). fragments_with fs (range_op_of op)) c.loop-op.invariant.next
          ∙ sym (fragments_after-more base (range_ops_of (take i ops)) (range_op_of op ∷ []))
          ∙ ap (fragments_after base) (sym (ap range_ops_of next ∙ map-append range_op_of (take i ops) (op ∷ [])));
    }
