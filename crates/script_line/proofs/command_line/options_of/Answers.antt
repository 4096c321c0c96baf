-- The options are those that are read by their names.
use Rattle.std.proofs.Common.{◌∙◌, sym, ap, map, None, Some}
use Rattle.script_line.specs.CommandLine.{max_count_max}
use Rattle.script_words.specs.Forms.{number_in}
use Rattle.script_words.specs.Words.{read_or}
use Rattle.script_words.specs.views.SeenWord.{word_of}
use Rattle.script_line.proofs.OptionLaws.{options_of-read, first_value, first_flag}
use Rattle.script_line.proofs.command_line.options_of.Goals as goal

pub returns-in_err-count_max : goal.returns-in_err-count_max
returns-in_err-count_max c =
    let only = sym c.read_named.ensures.only ∙ c.if-not-read_named.false in
    let said = first_value c.read_named.new.values _ (c.read_named.ensures.values c.if-not-read_named.false) in
    rw c.from_residual.ensures
    (sym (options_of-read (map word_of c.args.given.now) None only (sym c.in_err-count_max.was ∙ c.bound.ensures.value ∙ ap (read_or (number_in 20 1 max_count_max) max_count_max) said)))

pub returns : goal.returns
returns c =
    let only = sym c.read_named.ensures.only ∙ c.if-not-read_named.false in
    let said = first_value c.read_named.new.values _ (c.read_named.ensures.values c.if-not-read_named.false) in
    let stands = first_flag c.read_named.new.given _ (c.read_named.ensures.flags c.if-not-read_named.false) in
    sym
    (options_of-read (map word_of c.args.given.now) (Some c.in_ok-count_max.count_max) only
    (sym c.in_ok-count_max.was ∙ c.bound.ensures.value ∙ ap (read_or (number_in 20 1 max_count_max) max_count_max) said)
    ∙ ap (λ b. Some (record { stats = b; count_max = c.in_ok-count_max.count_max })) (sym stands))
