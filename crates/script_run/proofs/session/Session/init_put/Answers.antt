-- An initial put is a write by its writer.
use Rattle.std.proofs.Common.{refl}
use Rattle.std.proofs.lemmas.Result.{err_from_is_err_and}
use Rattle.mvcc_key.specs.views.Seen.{time_of}
use Rattle.mvcc_value.specs.views.Seen.{plain_body}
use Rattle.txn_state.specs.views.Seen.{actor_of}
use Rattle.write_rule.specs.Write as rule
use Rattle.mvcc_engine.specs.Step.{Wrote, step}
use Rattle.mvcc_engine.specs.views.Seen.{refusal_of}
use Rattle.script_line.specs.Grammar.{InitPut}
use Rattle.script_text.specs.Text.{Accepted}
use Rattle.script_line.specs.views.SeenLine.{who_of}
use Rattle.script_run.specs.Output.{ScriptState, write_command, wrote}
use Rattle.script_run.specs.views.Told.{told_by}
use Rattle.script_run.proofs.PartLaws.{answers-part}
use Rattle.script_run.proofs.StepLaws.{by_writer, no_writer, refused, taken}
use Rattle.script_run.proofs.session.Session.init_put.Goals as goal

pub returns-in_err-writer : goal.returns-in_err-writer
returns-in_err-writer g c =
    let v : ScriptState = record { engine = c.self.inside.engine; txns = c.self.inside.txns; begun = c.self.inside.begun } in
    let p = err_from_is_err_and c.from_residual.result c.from_residual.ensures.1 in
    rw (p.1, p.2)
    (no_writer c.args.text.now.items c.args.text.now.items v c.args.self.now c.self.view_is (InitPut c.args.key.now (plain_body c.args.value) (who_of c.args.who) (time_of c.args.local)) c.args.key.now (who_of c.args.who) (rule.InitPut (plain_body c.args.value)) (time_of c.args.local) refl
    (told_by c.in_err-writer.field-0.0) c.in_err-writer.ensures refl)

pub returns-in_err-init_put : goal.returns-in_err-init_put
returns-in_err-init_put g c =
    let v : ScriptState = record { engine = c.self.inside.engine; txns = c.self.inside.txns; begun = c.self.inside.begun } in
    let text = c.args.text.now.items in
    let writer = actor_of c.in_ok-writer.writer in
    let p = err_from_is_err_and c.from_residual-in_err-init_put.result c.from_residual-in_err-init_put.ensures.1 in
    rw (p.1, p.2)
    (refused text text v c.args.self.now c.self.view_is (InitPut c.args.key.now (plain_body c.args.value) (who_of c.args.who) (time_of c.args.local)) wrote (step v.engine (write_command c.args.key.now writer (rule.InitPut (plain_body c.args.value)) (time_of c.args.local)))
    (by_writer text text v c.args.self.now c.self.view_is (InitPut c.args.key.now (plain_body c.args.value) (who_of c.args.who) (time_of c.args.local)) c.args.key.now (who_of c.args.who) (rule.InitPut (plain_body c.args.value)) (time_of c.args.local) refl writer c.in_ok-writer.ensures)
    c.init_put.new.self (refusal_of c.in_err-init_put.field-0.0) c.in_err-init_put.ensures.answers.1 c.in_err-init_put.ensures.answers.0 refl)

pub returns : goal.returns
returns g c =
    let v : ScriptState = record { engine = c.self.inside.engine; txns = c.self.inside.txns; begun = c.self.inside.begun } in
    let old = c.args.text.now.items in
    let new = c.show.new.into.items in
    let writer = actor_of c.in_ok-writer.writer in
    taken old new v c.args.self.now c.self.view_is (InitPut c.args.key.now (plain_body c.args.value) (who_of c.args.who) (time_of c.args.local)) wrote (step v.engine (write_command c.args.key.now writer (rule.InitPut (plain_body c.args.value)) (time_of c.args.local)))
    (by_writer old new v c.args.self.now c.self.view_is (InitPut c.args.key.now (plain_body c.args.value) (who_of c.args.who) (time_of c.args.local)) c.args.key.now (who_of c.args.who) (rule.InitPut (plain_body c.args.value)) (time_of c.args.local) refl writer c.in_ok-writer.ensures)
    c.init_put.new.self (Wrote (rule.Done)) (Accepted) c.in_ok-init_put.ensures.answers refl c.in_ok-show.ensures.ok

pub invariant_of-self-in_err-show : goal.invariant_of-self-in_err-show
invariant_of-self-in_err-show g c = answers-part c.self.inside.engine c.init_put.new.self _ c.self.invariant c.init_put.result (λ done. Wrote rule.Done) c.init_put.ensures.answers

pub invariant_of-self-2 : goal.invariant_of-self-2
invariant_of-self-2 g c = answers-part c.self.inside.engine c.init_put.new.self _ c.self.invariant c.init_put.result (λ done. Wrote rule.Done) c.init_put.ensures.answers
