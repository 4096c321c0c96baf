-- The words so far are read by their names.
use Rattle.std.proofs.Common.{◌≡◌, take, map, length, option_map}
use Rattle.script_words.specs.views.Named.{IsNamed}
use Rattle.script_words.specs.views.SeenWord.{word_of}
use Rattle.script_words.proofs.words.read_named.Given as goal

abbrev pub invariant-loop-word : goal.invariant-loop-word
invariant-loop-word l = record {
  named : IsNamed (map (λ n. n.now) l.names) (map (λ n. n.now) l.flags) (map word_of (take l.word-index l.words)) (map (option_map (λ v. v.now)) l.values) l.given;
  values : length l.values ≡ length l.names;
  flags : length l.given ≡ length l.flags;
}
