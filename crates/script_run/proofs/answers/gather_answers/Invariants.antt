-- What is written, gathered and still to come is all of the text.
use Rattle.std.proofs.Common.{◌≡◌, ◌≤◌, ◌+◌, length}
use Rattle.script_run.specs.Output.{lines, output_from, script_output}
use Rattle.script_run.proofs.GatherLaws.{IsUnderWay}
use Rattle.script_run.proofs.answers.gather_answers.Given as goal

abbrev pub invariant-loop-rest : goal.invariant-loop-rest
invariant-loop-rest g l = record {
  under_way : IsUnderWay (g.K.Sink.held l.initial.sink) (g.K.Sink.held l.sink) l.text.items (output_from l.options.stats l.session (l.number + 1) (lines l.rest)) (script_output l.options l.script);
  counted : l.number + length l.rest ≤ length l.script;
  begun : l.session.begun ≤ l.number;
  sure : g.K.Sink.faults l.sink ≡ g.K.Sink.faults l.initial.sink;
  later : g.K.Sink.faults l.initial.sink ≤ g.K.Sink.faults l.sink;
}

abbrev pub decreases-loop-rest : goal.decreases-loop-rest
decreases-loop-rest g l = length l.rest
