use Rattle.std.proofs.Common.{◌≡◌, List, OnOk, subst}
use Rattle.mvcc_key.specs.Fragments.{Fragment}
use Rattle.mvcc_key.specs.views.Seen.{time_of}
use Rattle.range_key.proofs.OperationLaws.{sets-operation, removes-operation}
use Rattle.range_key.proofs.list.FragmentList.apply.Goals as goal

pub returns-in-Some-clause-ok : goal.returns-in-Some-clause-ok
returns-in-Some-clause-ok c =
    let op = c.args.op.now in
    subst (λ (made : List Fragment). OnOk c.add.result (c.add.new.self ≡ made))
    (sets-operation op.start op.end c.bytes-start.result.now c.bytes-end.result.now (time_of op.ts) op.set c.in-Some.field-0 c.args.self.now c.bytes-start.ensures c.bytes-end.ensures c.in-Some.is)
    c.add.ensures.op

pub returns-in-None-clause-ok : goal.returns-in-None-clause-ok
returns-in-None-clause-ok c =
    let op = c.args.op.now in
    subst (λ (made : List Fragment). OnOk c.remove_at.result (c.remove_at.new.self ≡ made))
    (removes-operation op.start op.end c.bytes-start.result.now c.bytes-end.result.now (time_of op.ts) op.set c.args.self.now c.bytes-start.ensures c.bytes-end.ensures c.in-None.is)
    c.remove_at.ensures.op
