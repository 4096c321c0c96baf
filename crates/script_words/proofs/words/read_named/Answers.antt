-- The words so far are read by their names.
use Rattle.std.proofs.Common.{◌∙◌, sym, ap, map, option_map, length}
use Rattle.std.proofs.lemmas.List.{length-map, take_all}
use Rattle.script_words.specs.views.Named.{IsNamed}
use Rattle.script_words.specs.views.SeenWord.{word_of}
use Rattle.script_words.proofs.NamedLaws.{named-none, named-values, named-flags, not-taken}
use Rattle.script_words.proofs.words.read_named.Goals as goal

pub loop-word-init : goal.loop-word-init
loop-word-init c = record {
  named = named-none c.args.names.now c.args.flags.now (map (option_map (λ v. v.now)) c.args.values.now) c.args.given.now c.requires.no_value c.requires.no_flag;
  values = sym (length-map c.args.values.now (option_map (λ v. v.now))) ∙ ap length c.requires.no_value ∙ length-map c.args.names.now _;
  flags = ap length c.requires.no_flag ∙ length-map c.args.flags.now _;
}

pub returns-then-not-take-clause-only : goal.returns-then-not-take-clause-only
returns-then-not-take-clause-only c =
    sym (not-taken _ _ c.args.words.now c.loop-word.word-index _ c.loop-word-test.true (rw c.if-not-take.true at (c.take.ensures _ c.loop-word.invariant.named)))

whole : (c : goal.After-loop-word) → IsNamed (map (λ n. n.now) c.args.names.now) (map (λ n. n.now) c.args.flags.now) (map word_of c.args.words.now) (map (option_map (λ v. v.now)) c.loop-word.values) c.loop-word.given
whole c = rw (take_all c.loop-word.word-index c.args.words.now c.loop-word-test.false) at c.loop-word.invariant.named

pub returns-clause-only : goal.returns-clause-only
returns-clause-only c = sym (whole c).only

pub returns-clause-values : goal.returns-clause-values
returns-clause-values c = λ _. named-values c.args.names.now (map (λ n. n.now) c.args.flags.now) (map word_of c.args.words.now) (map (option_map (λ v. v.now)) c.loop-word.values) c.loop-word.given (whole c)

pub returns-clause-flags : goal.returns-clause-flags
returns-clause-flags c = λ _. named-flags (map (λ n. n.now) c.args.names.now) c.args.flags.now (map word_of c.args.words.now) (map (option_map (λ v. v.now)) c.loop-word.values) c.loop-word.given (whole c)
