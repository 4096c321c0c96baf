-- What is kept of a decision is what it says.
use Rattle.std.proofs.Common.{subst}
use Rattle.mvcc_key.specs.views.Seen.{time_of}
use Rattle.read_rule.specs.views.Decided.{IsDecision, IsFound}
use Rattle.mvcc_scan.specs.views.Kept.{IsReadable}
use Rattle.mvcc_scan.proofs.KeptLaws.{kept-result}
use Rattle.mvcc_scan.proofs.kept.keep.Goals as goal

pub keep_value-requires : goal.keep_value-requires
keep_value-requires c = subst IsReadable c.in-Value.is c.requires

pub returns-in-Value : goal.returns-in-Value
returns-in-Value c = λ r k decided length_is.
    let f : IsFound r k c.in-Value.bytes.now (time_of c.in-Value.ts) = subst (IsDecision r k) c.in-Value.is decided in
    kept-result r k c.args.len c.in-Value.bytes.now c.in-Value.ts c.len_of.result f length_is c.len_of.ensures c.keep_value.result (c.keep_value.ensures f.local ((f.row).found).body f.read)

pub returns-in-Nothing : goal.returns-in-Nothing
returns-in-Nothing c = λ r k decided length_is. subst (IsDecision r k) c.in-Nothing.is decided

pub returns-in-Conflict : goal.returns-in-Conflict
returns-in-Conflict c = λ r k decided length_is. subst (IsDecision r k) c.in-Conflict.is decided

pub returns-in-Uncertain : goal.returns-in-Uncertain
returns-in-Uncertain c = λ r k decided length_is. subst (IsDecision r k) c.in-Uncertain.is decided

pub returns-in-TooOld : goal.returns-in-TooOld
returns-in-TooOld c = λ r k decided length_is. subst (IsDecision r k) c.in-TooOld.is decided

pub returns-in-EpochFault : goal.returns-in-EpochFault
returns-in-EpochFault c = λ r k decided length_is. subst (IsDecision r k) c.in-EpochFault.is decided
