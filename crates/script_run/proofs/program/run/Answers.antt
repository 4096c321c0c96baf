-- What a run promises, by how its script ends.
use Rattle.std.proofs.Common.{sym, ap, ◌∙◌}
use Rattle.std.specs.Option.{option_map}
use Rattle.script_line.specs.CommandLine.{Run}
use Rattle.script_run.specs.Output.{script_output}
use Rattle.script_run.proofs.RunLaws.{all_said, whole_lines_said, beginning_said, stopped_by_fault, runs_through}
use Rattle.script_run.proofs.program.run.Goals as goal

pub returns-in-Ok-Some-clause-done : goal.returns-in-Ok-Some-clause-done
returns-in-Ok-Some-clause-done g c = λ ends. all_said _ _ _ _ _ _ (sym c.in-Ok-Some.ensures ∙ ap (option_map Run) c.in-Ok-Some.field-0-is) (rw ends at c.run_script.ensures.ends)

pub returns-in-Ok-Some-clause-too_long : goal.returns-in-Ok-Some-clause-too_long
returns-in-Ok-Some-clause-too_long g c = λ ends. whole_lines_said _ _ _ _ _ _ (sym c.in-Ok-Some.ensures ∙ ap (option_map Run) c.in-Ok-Some.field-0-is) (rw ends at c.run_script.ensures.ends)

pub returns-in-Ok-Some-clause-part : goal.returns-in-Ok-Some-clause-part
returns-in-Ok-Some-clause-part g c = λ ends.
    beginning_said _ _ _ _ _ _ (sym c.in-Ok-Some.ensures ∙ ap (option_map Run) c.in-Ok-Some.field-0-is) (stopped_by_fault c.run_script.result (script_output c.in-Ok-Some.options) _ _ _ _ c.run_script.ensures.ends ends)

pub returns-in-Ok-Some-clause-complete : goal.returns-in-Ok-Some-clause-complete
returns-in-Ok-Some-clause-complete g c = runs_through c.run_script.result (script_output c.in-Ok-Some.options) _ _ _ _ _ _ _ c.run_script.ensures.ends c.run_script.ensures.read c.run_script.ensures.write
