-- The first byte of a text.
use Rattle.std.proofs.Common.{◌≡◌, ap, ◌∙◌, arith, sym, false}
use Rattle.std.specs.Prelude.{◌==◌}
use Rattle.std.proofs.lemmas.Bool.Decides.{nat_tests}
use Rattle.script_words.specs.Forms.{text}
use Rattle.script_words.proofs.EscapeLaws.{text-printed, text-unprinted}
use Rattle.script_words.proofs.unescape.first_byte.Goals as goal

pub returns-then-is_printed-clause-first : goal.returns-then-is_printed-clause-first
returns-then-is_printed-clause-first c =
    let other : (c.in_ok-first.first.now == 0x5c) ≡ false = grind (arith, nat_tests) in
    ap text c.in_ok-first.ensures.cases.0 ∙ text-printed c.in_ok-first.first.now c.in_ok-first.behind.now other (sym c.is_printed.ensures ∙ c.if-is_printed.true)

pub returns-else-is_printed-clause-first : goal.returns-else-is_printed-clause-first
returns-else-is_printed-clause-first c =
    let other : (c.in_ok-first.first.now == 0x5c) ≡ false = grind (arith, nat_tests) in
    ap text c.in_ok-first.ensures.cases.0 ∙ text-unprinted c.in_ok-first.first.now c.in_ok-first.behind.now other (sym c.is_printed.ensures ∙ c.if-is_printed.false)
