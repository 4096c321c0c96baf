-- The first word, and the words behind it.
use Rattle.std.proofs.Common.{◌≡◌, ◌∷◌, sym, ap, ap₂, subst, ◌∙◌, position, not, Some}
use Rattle.std.proofs.Math.Seq.{drop-length}
use Rattle.script_words.specs.Words.{words, is_blank}
use Rattle.script_words.proofs.WordLaws.{BeginsWord, begins-word, words-blanks, words-none, words-cut, words-uncut}
use Rattle.script_words.proofs.words.next_word.Goals as goal

pub returns-in_err-start-clause-words : goal.returns-in_err-start-clause-words
returns-in_err-start-clause-words c =
    rw c.from_residual.ensures (words-none c.args.line.now (sym c.place_of_word.ensures.value ∙ c.in_err-start.was))

pub returns-in-Some-clause-words : goal.returns-in-Some-clause-words
returns-in-Some-clause-words c =
    let at : position (λ b. not (is_blank b)) c.args.line.now ≡ Some c.in_ok-start.start = sym c.place_of_word.ensures.value ∙ c.in_ok-start.was in
    let word : BeginsWord c.split_at.result.1.now = subst BeginsWord (sym c.split_at.ensures.back) (begins-word c.args.line.now c.in_ok-start.start at) in
    words-blanks c.args.line.now c.in_ok-start.start at
    ∙ ap words (sym c.split_at.ensures.back)
    ∙ words-cut c.split_at.result.1.now c.in-Some.end word (sym c.place_of_blank.ensures.value ∙ c.in-Some.is)
    ∙ ap₂ (λ w rest. w ∷ words rest) (sym c.split_at-in-Some.ensures.front) (sym c.split_at-in-Some-2.ensures.back)

pub returns-in-None-clause-words : goal.returns-in-None-clause-words
returns-in-None-clause-words c =
    let at : position (λ b. not (is_blank b)) c.args.line.now ≡ Some c.in_ok-start.start = sym c.place_of_word.ensures.value ∙ c.in_ok-start.was in
    let word : BeginsWord c.split_at.result.1.now = subst BeginsWord (sym c.split_at.ensures.back) (begins-word c.args.line.now c.in_ok-start.start at) in
    words-blanks c.args.line.now c.in_ok-start.start at
    ∙ ap words (sym c.split_at.ensures.back)
    ∙ words-uncut c.split_at.result.1.now c.split_at-in-None.result.1.now word (sym c.place_of_blank.ensures.value ∙ c.in-None.is) (c.split_at-in-None.ensures.back ∙ drop-length c.split_at.result.1.now)
