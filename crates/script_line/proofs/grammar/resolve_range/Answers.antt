-- Each word in its form.
use Rattle.std.proofs.Common.{refl, ◌∙◌}
use Rattle.std.proofs.lemmas.Result.{err_from_is_err_and}
use Rattle.script_line.proofs.LineLaws.{fails_at_last, range_but_last}
use Rattle.script_line.proofs.grammar.resolve_range.Goals as goal

pub returns-in_err-perhaps_limit : goal.returns-in_err-perhaps_limit
returns-in_err-perhaps_limit c =
    let p = err_from_is_err_and c.from_residual-in_err-perhaps_limit.result c.from_residual-in_err-perhaps_limit.ensures.1 in
    rw (p.1, p.2)
    (fails_at_last c.in_err-perhaps_limit.field-0.0 _ _ _ c.in_err-perhaps_limit.ensures
    (range_but_last _ c.read_values.new.values _ _ _ _ _ c.in_ok-read_values.ensures.only c.in_ok-read_values.ensures.values c.in_ok-required_name.ensures c.in_ok-required_text.ensures c.in_ok-required_text-2.ensures
    c.in_ok-required_status.ensures c.in_ok-perhaps_time.ensures))

pub returns : goal.returns
returns c =
    range_but_last _ c.read_values.new.values _ _ _ _ _ c.in_ok-read_values.ensures.only c.in_ok-read_values.ensures.values c.in_ok-required_name.ensures c.in_ok-required_text.ensures c.in_ok-required_text-2.ensures
    c.in_ok-required_status.ensures c.in_ok-perhaps_time.ensures
    ∙ rw (c.in_ok-perhaps_limit.ensures) refl
