use Rattle.std.proofs.Common.{◌≡◌, List, OnOk, subst}
use Rattle.mvcc_key.specs.Fragments.{Fragment}
use Rattle.mvcc_key.specs.views.Seen.{time_of}
use Rattle.range_key.proofs.OperationLaws.{sets-operation}
use Rattle.range_key.proofs.staged.StagedFragments.stage.Goals as goal

pub returns-in-Some-clause-next : goal.returns-in-Some-clause-next
returns-in-Some-clause-next c =
    let op = c.args.op.now in
    subst (λ (made : List Fragment). OnOk c.stage_add.result (c.stage_add.new.self.next ≡ made))
    (sets-operation op.start op.end c.bytes-start.result.now c.bytes-end.result.now (time_of op.ts) op.set c.in-Some.field-0 c.args.self.now.next c.bytes-start.ensures c.bytes-end.ensures c.in-Some.is)
    c.stage_add.ensures.next
