-- What is left where memory is wanting.
use Rattle.script_text.proofs.TextLaws.{Extends-behind, on_err}
use Rattle.script_text.proofs.statistics.append_fields.Goals as goal

pub returns-in_err-append_field-clause-err : goal.returns-in_err-append_field-clause-err
returns-in_err-append_field-clause-err c = on_err c.from_residual.result (Extends-behind _ _ _ _ c.loop-field.invariant c.in_err-append_field.ensures.err)
