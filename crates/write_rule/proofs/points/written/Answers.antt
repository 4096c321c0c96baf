use Rattle.std.proofs.Common.{◌∙◌, ap, sym, subst}
use Rattle.mvcc_key.specs.History.{with_version, intent_of}
use Rattle.mvcc_key.specs.views.Seen.{time_of}
use Rattle.mvcc_value.specs.views.Seen.{seen_body}
use Rattle.txn_state.specs.views.Seen.{actor_of}
use Rattle.write_rule.specs.Write.{new_version, written}
use Rattle.write_rule.specs.views.Own.{AreOwn}
use Rattle.write_rule.specs.views.Points.{points_by}
use Rattle.write_rule.specs.views.Seen.{request_of}
use Rattle.write_rule.proofs.PlanLaws.{intent_key, written_inside}
use Rattle.write_rule.proofs.points.written.Goals as goal

pub returns-in_ok-version_points-in-At-clause-outcome : goal.returns-in_ok-version_points-in-At-clause-outcome
returns-in_ok-version_points-in-At-clause-outcome c = λ h are.
    let key = c.args.key.now in
    let local = time_of c.args.request.now.local in
    let body = seen_body c.args.body in
    let who = ap actor_of c.in-At.is in
    record {
      after = with_version (new_version key (time_of c.in-At.ts) local body) h;
      done = ap (λ a. written h key a local body) who;
      points_are = c.in_ok-version_points-in-At.ensures.points ∙ sym (ap (λ a. points_by a (intent_of key h) key local body) who);
    }

pub returns-in-In-clause-outcome : goal.returns-in-In-clause-outcome
returns-in-In-clause-outcome c = λ h are.
    let key = c.args.key.now in
    let who = ap actor_of c.in-In.is in
    written_inside c.intent_points.result h key (request_of c.args.request.now) c.in-In.txn.now (seen_body c.args.body) who
    (c.intent_points.ensures.outcome (intent_of key h) (subst (λ a. AreOwn c.args.own a (intent_of key h)) who are) (intent_key key h))
