-- What is left where memory is wanting.
use Rattle.std.proofs.lemmas.Result.{on_err_weaker}
use Rattle.script_text.proofs.TextLaws.{Extends-same, on_err}
use Rattle.script_text.proofs.text.append_answer.Goals as goal

pub returns-in_err-append-in-Refused-clause-err : goal.returns-in_err-append-in-Refused-clause-err
returns-in_err-append-in-Refused-clause-err c = on_err c.from_residual.result (Extends-same _ _ c.in_err-append-in-Refused.ensures.err)

pub returns-in-Accepted-clause-err : goal.returns-in-Accepted-clause-err
returns-in-Accepted-clause-err c = on_err_weaker c.append.result (Extends-same _ _) c.append.ensures.err

pub returns-in-Deleted-true-clause-err : goal.returns-in-Deleted-true-clause-err
returns-in-Deleted-true-clause-err c = on_err_weaker c.append-in-Deleted-true.result (Extends-same _ _) c.append-in-Deleted-true.ensures.err

pub returns-in-Deleted-false-clause-err : goal.returns-in-Deleted-false-clause-err
returns-in-Deleted-false-clause-err c = on_err_weaker c.append-in-Deleted-false.result (Extends-same _ _) c.append-in-Deleted-false.ensures.err

pub returns-in-Resolved-true-clause-err : goal.returns-in-Resolved-true-clause-err
returns-in-Resolved-true-clause-err c = on_err_weaker c.append-in-Resolved-true.result (Extends-same _ _) c.append-in-Resolved-true.ensures.err

pub returns-in-Resolved-false-clause-err : goal.returns-in-Resolved-false-clause-err
returns-in-Resolved-false-clause-err c = on_err_weaker c.append-in-Resolved-false.result (Extends-same _ _) c.append-in-Resolved-false.ensures.err
