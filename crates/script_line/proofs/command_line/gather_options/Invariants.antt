-- The options so far and those of the words behind them are all options.
use Rattle.std.proofs.Common.{◌≡◌, ◌++◌, codes, length, map, option_map}
use Rattle.std.specs.Prelude.{string_bytes}
use Rattle.script_line.specs.CommandLine.{given_options}
use Rattle.script_words.specs.views.SeenWord.{word_of}
use Rattle.script_line.proofs.command_line.gather_options.Given as goal

abbrev pub invariant-loop-rest : goal.invariant-loop-rest
invariant-loop-rest l =
    given_options (codes "--stats") (map string_bytes l.words)
    ≡ option_map (λ ws. map word_of l.options.items ++ ws) (given_options (codes "--stats") (map string_bytes l.rest))

abbrev pub decreases-loop-rest : goal.decreases-loop-rest
decreases-loop-rest l = length l.rest
