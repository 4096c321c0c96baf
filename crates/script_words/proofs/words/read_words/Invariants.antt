-- The words so far and those behind them are the words of the line.
use Rattle.std.proofs.Common.{◌≡◌, ◌++◌, map, length}
use Rattle.script_words.specs.Words as spec
use Rattle.script_words.specs.Words.{words}
use Rattle.script_words.specs.views.SeenWord.{word_of}
use Rattle.script_words.proofs.words.read_words.Given as goal

abbrev pub invariant-loop-word : goal.invariant-loop-word
invariant-loop-word l = map word_of l.words.items ++ map spec.word_of (words l.rest) ≡ map spec.word_of (words l.line)

abbrev pub decreases-loop-word : goal.decreases-loop-word
decreases-loop-word l = length l.rest
