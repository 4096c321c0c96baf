-- What is left where memory is wanting.
use Rattle.script_text.proofs.TextLaws.{Extends-behind, on_err}
use Rattle.script_text.proofs.text.append_next_ranges.Goals as goal

pub returns-in_err-append_next_range-clause-err : goal.returns-in_err-append_next_range-clause-err
returns-in_err-append_next_range-clause-err c = on_err c.from_residual.result (Extends-behind _ _ _ _ c.loop-other.invariant c.in_err-append_next_range.ensures.err)
