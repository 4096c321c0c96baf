use Rattle.std.proofs.Common.{◌≡◌, true, ◌∙◌, ap, sym, subst}
use Rattle.std.specs.Prelude.{IfSome}
use Rattle.mvcc_key.specs.Order.{is_up_to, is_no_time}
use Rattle.mvcc_key.specs.views.Seen.{time_of}
use Rattle.intent_meta.proofs.FieldLaws.{IsRecordOf-record_in}
use Rattle.write_rule.specs.views.Own.{seen_own}
use Rattle.write_rule.proofs.OpsLaws.{up_to_apart}
use Rattle.write_rule.proofs.record.moved.Goals as goal

pub returns-else-eq-clause-left : goal.returns-else-eq-clause-left
returns-else-eq-clause-left c = λ lower.
    let own = c.in_ok-own.field-0 in
    let rules = (IsRecordOf-record_in own.head.bytes.now own.head.are_bytes own.head.are_read).is_record in
    let up = subst (λ o. IfSome o (λ p. is_up_to (seen_own p).head.ts (time_of c.args.ts) ≡ true)) c.in_ok-own.was lower in
    record {
      some = ap is_no_time c.ts-old.ensures.value ∙ (rules.ts).some;
      before = up_to_apart (time_of c.ts-old.result) (time_of c.args.ts) (ap (λ t. is_up_to t (time_of c.args.ts)) c.ts-old.ensures.value ∙ up) (sym c.eq.ensures ∙ c.if-eq.false);
    }
