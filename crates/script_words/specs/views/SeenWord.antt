-- How contracts see a word.
use Rattle.std.specs.Option.{option_map}
use Rattle.script_words.specs.Words as words
use Rattle.script_words.specs.declared.words.Word.{Word}

-- a word of a line
abbrev pub word_of : Word → words.Word
word_of w = record { name = w.name.now; value = option_map (λ v. v.now) w.value }
