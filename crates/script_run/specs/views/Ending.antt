-- What each status says of a run.
use Rattle.std.specs.Prelude.{ℕ, ◌<◌, ◌≤◌, List, length, take, Option, Result, Ok, Err}
use Rattle.std.specs.Io.KnownBytes.{Appends}
use Rattle.io_edge.specs.Writing.{AppendsBeginning}
use Rattle.script_run.specs.Output.{whole_part}
use Rattle.script_run.specs.Promise.{WritesAll, WritesWholeLines, WritesBeginning, script_max}
use Rattle.script_run.specs.declared.answers.WriteStop.{WriteStop}
use Rattle.script_run.specs.declared.answers.WriteStop.TheVariants as stop
use Rattle.script_run.specs.declared.program.Status.{Status}
use Rattle.script_run.specs.declared.program.Status.TheVariants as status

-- the exit status
abbrev pub number_of : Status → ℕ
number_of status.Done = 0
number_of status.Usage = 2
number_of status.ReadFault = 3
number_of status.WriteFault = 4
number_of status.ScriptTooLong = 5
number_of status.OutOfMemory = 6

-- the status of a run whose answers were written so
abbrev pub status_after : {A : Type 0} → Result A WriteStop → Status → Status
status_after (Ok done) otherwise = otherwise
status_after (Err stop.WriteFault) otherwise = status.WriteFault
status_after (Err stop.OutOfMemory) otherwise = status.OutOfMemory

-- what a run of a script that ends so did
abbrev pub EndsAs : Status → (List ℕ → List ℕ) → Option (List ℕ) → Option (List ℕ) → Option (List ℕ) → Option (List ℕ) → Type 0
EndsAs status.Done text left left' held held' = WritesAll text left left' held held'
EndsAs status.Usage text left left' held held' = ⊥
EndsAs status.ReadFault text left left' held held' = WritesBeginning text left left' held held'
EndsAs status.WriteFault text left left' held held' = WritesBeginning text left left' held held'
EndsAs status.ScriptTooLong text left left' held held' = WritesWholeLines text left left' held held'
EndsAs status.OutOfMemory text left left' held held' = WritesBeginning text left left' held held'

-- what a script that was read got as answers, by the text that is defined for each script
abbrev pub AnswersAs : Status → (List ℕ → List ℕ) → List ℕ → Option (List ℕ) → Option (List ℕ) → Type 0
AnswersAs status.Done text script held held' = (length script ≤ script_max) × Appends held held' (text script)
AnswersAs status.Usage text script held held' = ⊥
AnswersAs status.ReadFault text script held held' = ⊥
AnswersAs status.WriteFault text script held held' = AppendsBeginning held held' (text script)
AnswersAs status.ScriptTooLong text script held held' = (script_max < length script) × Appends held held' (text (whole_part (take script_max script)))
AnswersAs status.OutOfMemory text script held held' = AppendsBeginning held held' (text script)
