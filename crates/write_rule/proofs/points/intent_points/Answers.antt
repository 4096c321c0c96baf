use Rattle.std.proofs.Common.{◌∙◌, length, ap, sym}
use Rattle.mvcc_key.specs.History.{is_deletion}
use Rattle.mvcc_key.specs.views.Seen.{time_of}
use Rattle.mvcc_value.specs.views.Seen.{seen_body}
use Rattle.mvcc_value.specs.Encoding.{is_value_length}
use Rattle.mvcc_value.proofs.LengthLaws.{is_value_length-value_bytes}
use Rattle.txn_state.specs.Transaction.{In}
use Rattle.write_rule.specs.Write.{raised_time, new_intent}
use Rattle.write_rule.proofs.NewRecordLaws.{new-value, put_points}
use Rattle.write_rule.proofs.PlanLaws.{too_long, short_enough}
use Rattle.write_rule.proofs.points.intent_points.Goals as goal

pub new_record-requires-clause-value : goal.new_record-requires-clause-value
new_record-requires-clause-value c =
    let is = ap length c.as_slice.ensures ∙ ap length c.in_ok-value.ensures.value in
    ap (is_value_length (is_deletion (seen_body c.args.body))) is ∙ is_value_length-value_bytes (seen_body c.args.body) (time_of c.args.local) (time_of c.raised-ts.result)

pub returns-then-size-clause-outcome : goal.returns-then-size-clause-outcome
returns-then-size-clause-outcome c = λ i are of_key.
    let key = c.args.key.now in
    let t = c.args.txn.now in
    let local = time_of c.args.local in
    let body = seen_body c.args.body in
    let times = c.raised-ts.ensures.value (In t) i are ∙ ap (λ ts. raised_time ts i) c.write_ts.ensures in
    let len = ap length c.as_slice.ensures ∙ ap length (c.in_ok-value.ensures.value ∙ sym (new-value key t i local body (time_of c.raised-ts.result) times)) in
    too_long (new_intent key t i local body) c.in_ok-record.record c.encoded_len-size.result (c.in_ok-record.ensures key local i are times len) c.encoded_len-size.ensures.value c.if-size.true

pub returns-clause-outcome : goal.returns-clause-outcome
returns-clause-outcome c = λ i are of_key.
    let key = c.args.key.now in
    let t = c.args.txn.now in
    let local = time_of c.args.local in
    let body = seen_body c.args.body in
    let times = c.raised-ts.ensures.value (In t) i are ∙ ap (λ ts. raised_time ts i) c.write_ts.ensures in
    let len = ap length c.as_slice.ensures ∙ ap length (c.in_ok-value.ensures.value ∙ sym (new-value key t i local body (time_of c.raised-ts.result) times)) in
    let records = c.in_ok-record.ensures key local i are times len in
    record {
      points_are = c.in_ok-intent_ops.ensures.points
          ∙ put_points key t i local body c.in_ok-record.record (time_of c.raised-ts.result) c.in_ok-value.value _ records times c.in_ok-value.ensures.value (c.moved.ensures.value (In t) i are) of_key;
      short = short_enough (new_intent key t i local body) c.in_ok-record.record c.encoded_len-size.result records c.encoded_len-size.ensures.value c.if-size.false;
    }
