-- What is read and what is left are the text.
use Rattle.std.proofs.Common.{◌≡◌, ◌++◌, length, option_map}
use Rattle.script_words.specs.Forms.{text}
use Rattle.script_words.proofs.unescape.unescape.Given as goal

abbrev pub invariant-loop-rest : goal.invariant-loop-rest
invariant-loop-rest l = text l.bytes ≡ option_map (λ more. l.text.items ++ more) (text l.rest)

abbrev pub decreases-loop-rest : goal.decreases-loop-rest
decreases-loop-rest l = length l.rest
