use Rattle.std.proofs.Common.{◌≡◌, List, OnOk, subst, refl, ap}
use Rattle.std.specs.Option.{option_map}
use Rattle.mvcc_key.specs.Fragments.{Fragment}
use Rattle.mvcc_key.specs.views.Seen.{time_of}
use Rattle.range_key.proofs.OperationLaws.{sets-operation}
use Rattle.lsm_store.proofs.ranges.stage_lent.Goals as goal

pub returns-in-Some-clause-ok : goal.returns-in-Some-clause-ok
returns-in-Some-clause-ok c =
    let op = c.args.op in
    subst (λ (made : List Fragment). OnOk c.stage_add.result (c.stage_add.new.self.next ≡ made))
    (sets-operation op.start.now op.end.now op.start.now op.end.now (time_of op.ts) (option_map (λ v. v.now) op.set) c.in-Some.field-0.now c.args.fragments.now.next refl refl
    (ap (option_map (λ v. v.now)) c.in-Some.is))
    c.stage_add.ensures.next
