use Rattle.std.proofs.Common.{◌∙◌, ◌++◌, List, ap, map}
use Rattle.std.proofs.lemmas.List.{take_all}
use Rattle.mvcc_key.specs.Fragments.{Fragment}
use Rattle.mvcc_key.specs.views.Seen.{time_of}
use Rattle.mvcc_key.specs.declared.timestamp.Timestamp.{Timestamp}
use Rattle.mvcc_key.specs.RangeOperations.{RangeOp}
use Rattle.range_key.specs.RangeOps.{setting}
use Rattle.mvcc_key.specs.views.SeenRange.{range_ops_of}
use Rattle.range_key.proofs.OperationLaws.{operations_of-one}
use Rattle.range_key.proofs.ops.push_ops.Goals as goal

pub returns : goal.returns
returns c =
    let fragment = c.args.fragment.now in
    let before = range_ops_of c.args.ops.now.items in
    let all = take_all c.loop-ts.ts-index c.times-ts-items.result.now c.loop-ts-test.false in
    let made = λ (ts : List Timestamp). map (λ t. setting fragment.start fragment.end (time_of t)) ts in
    c.loop-ts.invariant
    ∙ ap (λ ts. before ++ made ts) all
    ∙ ap (λ (os : List RangeOp). before ++ os)
    (operations_of-one time_of fragment c.times-ts-items.result.now (c.times-ts-items.ensures.value ∙ ap (λ (f : Fragment). f.stack) c.fragment.view_is))
