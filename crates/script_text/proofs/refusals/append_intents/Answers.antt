-- What is left where memory is wanting.
use Rattle.script_text.proofs.TextLaws.{Extends-behind, on_err}
use Rattle.script_text.proofs.refusals.append_intents.Goals as goal

pub returns-in_err-append_intent-clause-err : goal.returns-in_err-append_intent-clause-err
returns-in_err-append_intent-clause-err c = on_err c.from_residual.result (Extends-behind _ _ _ _ c.loop-intent.invariant c.in_err-append_intent.ensures.err)
