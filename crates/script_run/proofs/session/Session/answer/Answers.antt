-- A line is carried out as the definitions say.
use Rattle.std.proofs.Common.{◌≡◌, [], ◌∷◌, ◌++◌, sym, ap, ◌∙◌, append-nil}
use Rattle.std.proofs.lemmas.Result.{on_ok_weaker}
use Rattle.script_text.specs.Text.{Refused, BadLine, show}
use Rattle.script_line.specs.views.SeenLine.{line_of}
use Rattle.script_text.proofs.TextLaws.{on_ok}
use Rattle.script_run.specs.Output.{carry_out, performed}
use Rattle.script_run.proofs.StepLaws.{carry_out-bad, carry_out-performed, performed-blank, answered, unanswered}
use Rattle.script_run.proofs.session.Session.answer.Goals as goal

bad : (c : goal.After-show_statistics) → carry_out c.args.self.now c.args.number c.args.line.now ≡ record { state = c.args.self.now; answers = Refused (BadLine c.args.number) ∷ [] }
bad c =
    let none = rw c.in-Err-BadLine.field-0-is at c.in-Err-BadLine.ensures in
    carry_out-bad c.args.self.now c.args.number c.args.line.now c.without_return.result.now c.without_return.ensures none

pub returns-in-Err-BadLine-clause-state : goal.returns-in-Err-BadLine-clause-state
returns-in-Err-BadLine-clause-state c = on_ok c.show_statistics.result (ap (λ k. k.state) (sym (bad c)))

pub returns-in-Err-BadLine-clause-answer : goal.returns-in-Err-BadLine-clause-answer
returns-in-Err-BadLine-clause-answer c =
    on_ok_weaker c.show_statistics.result
    (λ e. answered c.args.options.stats (carry_out c.args.self.now c.args.number c.args.line.now) c.args.self.now (Refused (BadLine c.args.number)) [] c.args.text.now.items c.show.new.into.items
    c.show_statistics.new.text.items (bad c)
    (c.in_ok-show-in-Err-BadLine.ensures.ok ∙ ap (λ t. c.args.text.now.items ++ t) (sym (append-nil (show (Refused (BadLine c.args.number)))))) e)
    c.show_statistics.ensures.ok

blank : (c : goal.Joined-said) → carry_out c.args.self.now c.args.number c.args.line.now ≡ record { state = c.args.self.now; answers = [] }
blank c =
    carry_out-performed c.args.self.now c.args.number c.args.line.now c.without_return.result.now (line_of c.in-Ok.said) c.without_return.ensures c.in-Ok.ensures
    ∙ performed-blank c.args.self.now (line_of c.in-Ok.said) (sym c.is_blank.ensures ∙ c.if-is_blank.true)

pub returns-then-is_blank-clause-state : goal.returns-then-is_blank-clause-state
returns-then-is_blank-clause-state c = ap (λ k. k.state) (sym (blank c))

pub returns-then-is_blank-clause-answer : goal.returns-then-is_blank-clause-answer
returns-then-is_blank-clause-answer c = unanswered c.args.options.stats (carry_out c.args.self.now c.args.number c.args.line.now) c.args.self.now c.args.text.now.items (blank c)

said : (c : goal.Joined-said-41) → carry_out c.args.self.now c.args.number c.args.line.now ≡ performed c.args.self.now (line_of c.in-Ok.said)
said c = carry_out-performed c.args.self.now c.args.number c.args.line.now c.without_return.result.now (line_of c.in-Ok.said) c.without_return.ensures c.in-Ok.ensures

pub returns-clause-state : goal.returns-clause-state
returns-clause-state c = on_ok c.show_statistics-2.result (sym (ap (λ k. k.state) (said c ∙ c.in_ok-command.ensures.ok.carried)))

pub returns-clause-answer : goal.returns-clause-answer
returns-clause-answer c =
    let done = c.in_ok-command.ensures.ok in
    on_ok_weaker c.show_statistics-2.result
    (λ e. answered c.args.options.stats (carry_out c.args.self.now c.args.number c.args.line.now) c.command.new.self done.answer done.more c.args.text.now.items c.command.new.text.items
    c.show_statistics-2.new.text.items (said c ∙ done.carried) done.shown e)
    c.show_statistics-2.ensures.ok
