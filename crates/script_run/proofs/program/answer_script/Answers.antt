-- The answers of the whole lines of a script that is too long.
use Rattle.std.proofs.Common.{◌∙◌, ap}
use Rattle.script_run.specs.Output.{whole_part}
use Rattle.script_run.proofs.RunLaws.{answered_whole_lines}
use Rattle.script_run.proofs.program.answer_script.Goals as goal

pub returns-then-script-gt-SCRIPT_MAX-clause-answered : goal.returns-then-script-gt-SCRIPT_MAX-clause-answered
returns-then-script-gt-SCRIPT_MAX-clause-answered g c =
    answered_whole_lines c.args.options c.write_answers.result c.status_after.result c.args.script.now _ _ _ c.status_after.ensures c.if-script-gt-SCRIPT_MAX.true
    (c.whole_part-whole.ensures ∙ ap whole_part c.split_at.ensures.front) c.write_answers.ensures.ok c.write_answers.ensures.err
