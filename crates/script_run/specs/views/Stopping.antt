-- What is left where the answers of a script end early.
use Rattle.std.specs.Prelude.{ℕ, List, Option}
use Rattle.io_edge.specs.Writing.{AppendsBeginning}
use Rattle.script_run.specs.views.Gathering.{GathersBeginning}
use Rattle.script_run.specs.declared.answers.WriteStop.{WriteStop}
use Rattle.script_run.specs.declared.answers.WriteStop.TheVariants as stop

-- where memory is wanting a beginning of the text is written or gathered, and where a write fails one is written
abbrev pub StopsAt : WriteStop → Option (List ℕ) → Option (List ℕ) → List ℕ → List ℕ → Type 0
StopsAt stop.OutOfMemory held held' gathered all = GathersBeginning held held' gathered all
StopsAt stop.WriteFault held held' gathered all = AppendsBeginning held held' all
