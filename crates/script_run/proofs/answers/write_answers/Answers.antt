-- What is gathered is written at the end.
use Rattle.std.proofs.Common.{subst}
use Rattle.std.specs.Io.KnownBytes.{Appends}
use Rattle.io_edge.specs.Writing.{AppendsBeginning}
use Rattle.script_text.proofs.TextLaws.{on_err}
use Rattle.script_run.proofs.GatherLaws.{written_part, written_beginning, written_beginning_part}
use Rattle.script_run.proofs.answers.write_answers.Goals as goal

pub returns-in_err-write_all-in-Ok-clause-err : goal.returns-in_err-write_all-in-Ok-clause-err
returns-in_err-write_all-in-Ok-clause-err g c =
    on_err c.from_residual.result
    (written_part _ _ _ _ _ c.in-Ok.ensures.ok (subst (AppendsBeginning _ _) c.as_slice.ensures.value c.in_err-write_all-in-Ok.ensures.err))

pub returns-in_err-write_all-in-Err-OutOfMemory-clause-err : goal.returns-in_err-write_all-in-Err-OutOfMemory-clause-err
returns-in_err-write_all-in-Err-OutOfMemory-clause-err g c =
    let gathered = rw c.in-Err-OutOfMemory.field-0-is at c.in-Err-OutOfMemory.ensures.err in
    on_err c.from_residual-in_err-write_all-in-Err-OutOfMemory.result
    (written_beginning_part _ _ _ _ _ gathered (subst (AppendsBeginning _ _) c.as_slice-in-Err-OutOfMemory.ensures.value c.in_err-write_all-in-Err-OutOfMemory.ensures.err))

pub returns-clause-err : goal.returns-clause-err
returns-clause-err g c =
    let gathered = rw c.in-Err-OutOfMemory.field-0-is at c.in-Err-OutOfMemory.ensures.err in
    written_beginning _ _ _ _ _ gathered (subst (Appends _ _) c.as_slice-in-Err-OutOfMemory.ensures.value c.in_ok-write_all-in-Err-OutOfMemory.ensures.ok)
