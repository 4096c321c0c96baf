-- A byte at the end that is no newline is left out.
use Rattle.std.proofs.Common.{◌≡◌, sym, ap, ◌∙◌, false, true, arith}
use Rattle.std.proofs.lemmas.Bool.Decides.{nat_tests}
use Rattle.std.proofs.lemmas.List.{nil_from_length}
use Rattle.std.specs.Prelude.{◌==◌}
use Rattle.script_run.specs.Output.{whole_part}
use Rattle.script_run.proofs.LineLaws.{whole_part-newline, whole_part-other}
use Rattle.script_run.proofs.script.whole_part.Goals as goal

pub loop-last-preserved : goal.loop-last-preserved
loop-last-preserved c =
    let other : (c.in-Some.last.now == 0x0a) ≡ false = grind (arith, nat_tests) in
    sym (whole_part-other c.in-Some.before.now c.in-Some.last.now other) ∙ ap whole_part (sym c.in-Some.ensures.cases.0) ∙ c.loop-last.invariant

pub returns-then-last-eq10 : goal.returns-then-last-eq10
returns-then-last-eq10 c =
    let newline : (c.in-Some.last.now == 0x0a) ≡ true = grind (arith, nat_tests) in
    c.in-Some.ensures.cases.0 ∙ sym (whole_part-newline c.in-Some.before.now c.in-Some.last.now newline) ∙ ap whole_part (sym c.in-Some.ensures.cases.0) ∙ c.loop-last.invariant

pub returns-in_default : goal.returns-in_default
unfolding whole_part
returns-in_default c =
    let none = nil_from_length c.loop-last.whole.now c.in_default.ensures.cases in
    none ∙ ap whole_part (sym none) ∙ c.loop-last.invariant
