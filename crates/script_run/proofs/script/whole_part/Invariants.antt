-- What is left has the same whole lines.
use Rattle.std.proofs.Common.{◌≡◌, length}
use Rattle.script_run.specs.Output.{whole_part}
use Rattle.script_run.proofs.script.whole_part.Given as goal

abbrev pub invariant-loop-last : goal.invariant-loop-last
invariant-loop-last l = whole_part l.whole ≡ whole_part l.script

abbrev pub decreases-loop-last : goal.decreases-loop-last
decreases-loop-last l = length l.whole
