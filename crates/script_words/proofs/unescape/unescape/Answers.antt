-- No byte is left.
use Rattle.std.proofs.lemmas.List.{nil_from_length}
use Rattle.std.proofs.Common.{arith}
use Rattle.std.proofs.lemmas.Bool.Decides.{nat_tests}
use Rattle.script_words.proofs.EscapeLaws.{all_read}
use Rattle.script_words.proofs.unescape.unescape.Goals as goal

pub returns : goal.returns
returns c = all_read c.args.bytes.now c.loop-rest.rest.now c.loop-rest.text.items c.loop-rest.invariant (nil_from_length c.loop-rest.rest.now (grind (arith, nat_tests)))
