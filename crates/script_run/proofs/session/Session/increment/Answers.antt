-- An increment is a write by its writer.
use Rattle.std.proofs.Common.{◌≡◌, ◌++◌, ◌∙◌, ℤ, SFits, refl, ap, subst, Ok, rules}
use Rattle.std.proofs.lemmas.Int.{to_z-of_z}
use Rattle.std.specs.Int.{w64}
use Rattle.std.proofs.lemmas.Result.{err_from_is_err_and}
use Rattle.mvcc_key.specs.views.Seen.{time_of}
use Rattle.txn_state.specs.views.Seen.{actor_of}
use Rattle.write_rule.specs.Write as rule
use Rattle.write_rule.specs.views.Seen as known
use Rattle.mvcc_engine.specs.Step.{Wrote, step}
use Rattle.mvcc_engine.specs.views.Seen.{refusal_of}
use Rattle.script_line.specs.Grammar.{Increment}
use Rattle.script_text.specs.Text.{Incremented, show}
use Rattle.script_line.specs.views.SeenLine.{who_of}
use Rattle.script_run.specs.Output.{ScriptState, write_command, wrote}
use Rattle.script_run.specs.views.Told.{told_by}
use Rattle.script_run.proofs.PartLaws.{answers-part}
use Rattle.script_run.proofs.StepLaws.{by_writer, no_writer, refused, taken}
use Rattle.script_run.proofs.session.Session.increment.Goals as goal

pub returns-in_err-writer : goal.returns-in_err-writer
returns-in_err-writer g c =
    let v : ScriptState = record { engine = c.self.inside.engine; txns = c.self.inside.txns; begun = c.self.inside.begun } in
    let p = err_from_is_err_and c.from_residual.result c.from_residual.ensures.1 in
    rw (p.1, p.2)
    (no_writer c.args.text.now.items c.args.text.now.items v c.args.self.now c.self.view_is (Increment c.args.key.now (who_of c.args.who) c.args.by (time_of c.args.local)) c.args.key.now (who_of c.args.who) (rule.Increment c.args.by) (time_of c.args.local) refl
    (told_by c.in_err-writer.field-0.0) c.in_err-writer.ensures refl)

pub returns-in_err-number : goal.returns-in_err-number
returns-in_err-number g c =
    let v : ScriptState = record { engine = c.self.inside.engine; txns = c.self.inside.txns; begun = c.self.inside.begun } in
    let text = c.args.text.now.items in
    let writer = actor_of c.in_ok-writer.writer in
    let p = err_from_is_err_and c.from_residual-in_err-number.result c.from_residual-in_err-number.ensures.1 in
    rw (p.1, p.2)
    (refused text text v c.args.self.now c.self.view_is (Increment c.args.key.now (who_of c.args.who) c.args.by (time_of c.args.local)) wrote (step v.engine (write_command c.args.key.now writer (rule.Increment c.args.by) (time_of c.args.local)))
    (by_writer text text v c.args.self.now c.self.view_is (Increment c.args.key.now (who_of c.args.who) c.args.by (time_of c.args.local)) c.args.key.now (who_of c.args.who) (rule.Increment c.args.by) (time_of c.args.local) refl writer c.in_ok-writer.ensures)
    c.increment.new.self (refusal_of c.in_err-number.field-0.0) (subst (λ (by : ℤ). known.Tells (refusal_of c.in_err-number.field-0.0) (step v.engine (write_command c.args.key.now writer (rule.Increment by) (time_of c.args.local)))) (to_z-of_z w64 c.args.by c.ranges.by)
    c.in_err-number.ensures.answers.1) c.in_err-number.ensures.answers.0 refl)

pub returns : goal.returns
returns g c =
    let v : ScriptState = record { engine = c.self.inside.engine; txns = c.self.inside.txns; begun = c.self.inside.begun } in
    let old = c.args.text.now.items in
    let new = c.show.new.into.items in
    let writer = actor_of c.in_ok-writer.writer in
    let number = c.in_ok-number.number in
    let fits : SFits w64 number = search rules in
    taken old new v c.args.self.now c.self.view_is (Increment c.args.key.now (who_of c.args.who) c.args.by (time_of c.args.local)) wrote (step v.engine (write_command c.args.key.now writer (rule.Increment c.args.by) (time_of c.args.local)))
    (by_writer old new v c.args.self.now c.self.view_is (Increment c.args.key.now (who_of c.args.who) c.args.by (time_of c.args.local)) c.args.key.now (who_of c.args.who) (rule.Increment c.args.by) (time_of c.args.local) refl writer c.in_ok-writer.ensures)
    c.increment.new.self (Wrote (rule.Number c.in_ok-number.number)) (Incremented c.in_ok-number.number) (subst (λ (by : ℤ). step v.engine (write_command c.args.key.now writer (rule.Increment by) (time_of c.args.local)) ≡ Ok (record { state = c.increment.new.self; reply = Wrote (rule.Number c.in_ok-number.number) }))
    (to_z-of_z w64 c.args.by c.ranges.by) c.in_ok-number.ensures.answers) refl
    (c.in_ok-show.ensures.ok ∙ ap (λ (n : ℤ). old ++ show (Incremented n)) (to_z-of_z w64 number fits))

pub invariant_of-self-in_err-show : goal.invariant_of-self-in_err-show
invariant_of-self-in_err-show g c = answers-part c.self.inside.engine c.increment.new.self _ c.self.invariant c.increment.result (λ number. Wrote (rule.Number number)) c.increment.ensures.answers

pub invariant_of-self-2 : goal.invariant_of-self-2
invariant_of-self-2 g c = answers-part c.self.inside.engine c.increment.new.self _ c.self.invariant c.increment.result (λ number. Wrote (rule.Number number)) c.increment.ensures.answers
