use Rattle.std.proofs.Common.{◌∙◌, ◌≡◌, ◌++◌, ◌+◌, ◌∷◌, [], List, sym, ap, subst, take, true}
use Rattle.std.proofs.lemmas.List.{take_more, map-append}
use Rattle.mvcc_key.specs.Canonical.{IsCanonical}
use Rattle.mvcc_key.specs.Fragments.{fragments}
use Rattle.mvcc_key.specs.Order.{is_below}
use Rattle.mvcc_key.specs.declared.batch.RangeOp.{RangeOp}
use Rattle.mvcc_key.proofs.CanonicalLaws.{fragments-canonical}
use Rattle.range_key.specs.RangeOps.{tombstones_after}
use Rattle.mvcc_key.specs.RangeOperations as words
use Rattle.mvcc_key.specs.views.SeenRange.{range_op_of, range_ops_of}
use Rattle.range_key.proofs.ChangedLaws.{fragments-none}
use Rattle.range_key.proofs.OperationLaws.{one-more}
use Rattle.range_key.proofs.list.FragmentList.of_ops.Goals as goal

pub loop-op-init : goal.loop-op-init
loop-op-init c = c.new-list.ensures ∙ fragments-none

pub loop-op-preserved : goal.loop-op-preserved
loop-op-preserved c =
    let ops = c.args.ops.now in
    let i = c.loop-op.op-index in
    let op = c.op-item.result in
    let span : is_below op.start op.end ≡ true =
    subst (λ (o : RangeOp). is_below o.start o.end ≡ true) (sym c.op-item.is) (c.requires i op c.loop-op-test.true) in
    let next : take (c.loop-op.op-index + 1) ops ≡ take i ops ++ op ∷ [] =
    take_more ops i op c.loop-op-test.true ∙ ap (λ (o : RangeOp). take i ops ++ o ∷ []) (sym c.op-item.is) in
    one-more (range_ops_of (take i ops)) (range_op_of op) c.loop-op.list c.apply.new.self span c.loop-op.invariant c.in_ok-apply.ensures.ok
    ∙ ap (λ (os : List words.RangeOp). fragments (tombstones_after os)) (sym (ap range_ops_of next ∙ map-append range_op_of (take i ops) (op ∷ [])))

pub returns-clause-canonical : goal.returns-clause-canonical
returns-clause-canonical c = subst IsCanonical (sym c.loop-op.invariant) (fragments-canonical (tombstones_after (range_ops_of (take c.loop-op.op-index c.args.ops.now))))
