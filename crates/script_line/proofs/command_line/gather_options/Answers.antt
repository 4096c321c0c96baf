-- No word is left.
use Rattle.std.proofs.Common.{arith}
use Rattle.std.proofs.lemmas.List.{nil_from_length}
use Rattle.std.proofs.lemmas.Bool.Decides.{nat_tests}
use Rattle.script_line.proofs.OptionLaws.{all_gathered}
use Rattle.script_line.proofs.command_line.gather_options.Goals as goal

pub returns : goal.returns
returns c = all_gathered _ _ c.loop-rest.rest.now _ c.loop-rest.invariant (nil_from_length c.loop-rest.rest.now (grind (arith, nat_tests)))
