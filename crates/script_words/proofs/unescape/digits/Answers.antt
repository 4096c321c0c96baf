-- Two digits, and what stands behind them.
use Rattle.std.proofs.Common.{◌∷◌, sym, ap, ◌∙◌}
use Rattle.std.proofs.lemmas.List.{nil_from_length}
use Rattle.script_words.specs.Forms.{text}
use Rattle.script_words.proofs.EscapeLaws.{text-no_digits, text-one_digit, text-no_hex, text-hex}
use Rattle.script_words.proofs.unescape.digits.Goals as goal

pub returns-in_err-high-clause-first : goal.returns-in_err-high-clause-first
returns-in_err-high-clause-first c =
    rw c.from_residual.ensures (ap (λ l. text (0x5c ∷ 0x78 ∷ l)) (nil_from_length c.args.bytes.now c.in_err-high.ensures.cases) ∙ text-no_digits)

pub returns-in_err-low-clause-first : goal.returns-in_err-low-clause-first
returns-in_err-low-clause-first c =
    let one = c.in_ok-high.ensures.cases.0 ∙ ap (λ l. c.in_ok-high.high.now ∷ l) (nil_from_length c.in_ok-high.behind.now c.in_err-low.ensures.cases) in
    rw c.from_residual-in_err-low.ensures (ap (λ l. text (0x5c ∷ 0x78 ∷ l)) one ∙ text-one_digit c.in_ok-high.high.now)

pub returns-in_err-byte-clause-first : goal.returns-in_err-byte-clause-first
returns-in_err-byte-clause-first c =
    let two = c.in_ok-high.ensures.cases.0 ∙ ap (λ l. c.in_ok-high.high.now ∷ l) c.in_ok-low.ensures.cases.0 in
    rw c.from_residual-in_err-byte.ensures
    (ap (λ l. text (0x5c ∷ 0x78 ∷ l)) two ∙ text-no_hex c.in_ok-high.high.now c.in_ok-low.low.now c.in_ok-low.behind.now (sym c.byte_of.ensures ∙ c.in_err-byte.was))

pub returns-clause-first : goal.returns-clause-first
returns-clause-first c =
    let two = c.in_ok-high.ensures.cases.0 ∙ ap (λ l. c.in_ok-high.high.now ∷ l) c.in_ok-low.ensures.cases.0 in
    ap (λ l. text (0x5c ∷ 0x78 ∷ l)) two ∙ text-hex c.in_ok-high.high.now c.in_ok-low.low.now c.in_ok-low.behind.now _ (sym c.byte_of.ensures ∙ c.in_ok-byte.was)
