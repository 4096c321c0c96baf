-- A carriage return at the end is dropped, and no other byte.
use Rattle.std.proofs.Common.{◌≡◌, sym, ap, ◌∙◌, false, true, arith}
use Rattle.std.proofs.lemmas.Bool.Decides.{nat_tests}
use Rattle.std.proofs.lemmas.List.{nil_from_length}
use Rattle.std.specs.Prelude.{◌==◌}
use Rattle.script_run.specs.Output.{without_return}
use Rattle.script_run.proofs.LineLaws.{without_return-return, without_return-other}
use Rattle.script_run.proofs.script.without_return.Goals as goal

pub returns-then-last-eq13 : goal.returns-then-last-eq13
returns-then-last-eq13 c =
    let is : (c.in-Some.last.now == 0x0d) ≡ true = grind (arith, nat_tests) in
    sym (without_return-return c.in-Some.before.now c.in-Some.last.now is) ∙ ap without_return (sym c.in-Some.ensures.cases.0)

pub returns-else-last-eq13 : goal.returns-else-last-eq13
returns-else-last-eq13 c =
    let other : (c.in-Some.last.now == 0x0d) ≡ false = grind (arith, nat_tests) in
    c.in-Some.ensures.cases.0 ∙ sym (without_return-other c.in-Some.before.now c.in-Some.last.now other) ∙ ap without_return (sym c.in-Some.ensures.cases.0)

pub returns-in-None : goal.returns-in-None
unfolding without_return
returns-in-None c =
    let none = nil_from_length c.args.line.now c.in-None.ensures.cases in
    none ∙ ap without_return (sym none)
