-- Each word in its form.
use Rattle.std.proofs.Common.{refl, ◌∙◌}
use Rattle.std.proofs.lemmas.Result.{err_from_is_err_and}
use Rattle.script_line.proofs.LineLaws.{cput_but_last, fails_at_last}
use Rattle.script_line.proofs.grammar.cput.Goals as goal

pub returns-in_err-optional_time : goal.returns-in_err-optional_time
returns-in_err-optional_time c =
    let p = err_from_is_err_and c.from_residual-in_err-optional_time.result c.from_residual-in_err-optional_time.ensures.1 in
    rw (p.1, p.2)
    (fails_at_last c.in_err-optional_time.field-0.0 _ _ _ c.in_err-optional_time.ensures
    (cput_but_last _ c.read_values.new.values _ _ _ _ c.in_ok-read_values.ensures.only c.in_ok-read_values.ensures.values c.in_ok-required_text.ensures c.in_ok-value.ensures c.in_ok-who.ensures c.in_ok-expected.ensures))

pub returns : goal.returns
returns c =
    cput_but_last _ c.read_values.new.values _ _ _ _ c.in_ok-read_values.ensures.only c.in_ok-read_values.ensures.values c.in_ok-required_text.ensures c.in_ok-value.ensures c.in_ok-who.ensures c.in_ok-expected.ensures
    ∙ rw (c.in_ok-optional_time.ensures) refl
