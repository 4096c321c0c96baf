-- The first line, and the lines behind it.
use Rattle.std.proofs.Common.{sym, ap₂, ◌∙◌, ◌∷◌}
use Rattle.std.proofs.Math.Seq.{drop-length}
use Rattle.script_run.specs.Output.{lines}
use Rattle.script_run.proofs.LineLaws.{lines-cut, lines-uncut}
use Rattle.script_run.proofs.script.first_line.Goals as goal

pub returns-in-Some-clause-lines : goal.returns-in-Some-clause-lines
returns-in-Some-clause-lines c =
    lines-cut c.args.script.now c.in-Some.place (sym c.place_of_newline.ensures.value ∙ c.in-Some.is)
    ∙ ap₂ (λ line rest. line ∷ lines rest) (sym c.split_at.ensures.front) (sym c.split_at-in-Some.ensures.back)

pub returns-in-None-clause-lines : goal.returns-in-None-clause-lines
returns-in-None-clause-lines c =
    lines-uncut c.args.script.now _ (sym c.place_of_newline.ensures.value ∙ c.in-None.is) c.requires (c.split_at-in-None.ensures.back ∙ drop-length c.args.script.now)
