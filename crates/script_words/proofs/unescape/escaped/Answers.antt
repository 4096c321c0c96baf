-- What stands behind a backslash.
use Rattle.std.proofs.Common.{◌≡◌, ◌∷◌, ap, ◌∙◌, arith, false}
use Rattle.std.specs.Prelude.{◌==◌}
use Rattle.std.proofs.lemmas.Bool.Decides.{nat_tests}
use Rattle.std.proofs.lemmas.List.{nil_from_length}
use Rattle.script_words.specs.Forms.{text}
use Rattle.script_words.proofs.EscapeLaws.{text-end, text-backslash, text-other}
use Rattle.script_words.proofs.unescape.escaped.Goals as goal

pub returns-in_err-kind-clause-first : goal.returns-in_err-kind-clause-first
returns-in_err-kind-clause-first c = rw c.from_residual.ensures (ap (λ l. text (0x5c ∷ l)) (nil_from_length c.args.bytes.now c.in_err-kind.ensures.cases) ∙ text-end)

pub returns-in-92-clause-first : goal.returns-in-92-clause-first
returns-in-92-clause-first c =
    ap (λ l. text (0x5c ∷ l)) c.in_ok-kind.ensures.cases.0 ∙ ap (λ k. text (0x5c ∷ k ∷ c.in_ok-kind.behind.now)) c.in-92.is ∙ text-backslash c.in_ok-kind.behind.now

pub returns-in_default-clause-first : goal.returns-in_default-clause-first
returns-in_default-clause-first c =
    let plain : (c.in_ok-kind.kind.now == 0x5c) ≡ false = grind (arith, nat_tests) in
    let other : (c.in_ok-kind.kind.now == 0x78) ≡ false = grind (arith, nat_tests) in
    ap (λ l. text (0x5c ∷ l)) c.in_ok-kind.ensures.cases.0 ∙ text-other c.in_ok-kind.kind.now c.in_ok-kind.behind.now plain other
