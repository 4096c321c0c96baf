-- What stands behind the first such byte.
use Rattle.std.proofs.Common.{sym, ap, ◌∙◌, Some}
use Rattle.script_words.proofs.CutLaws.{cut_at-Some, cut_at-None}
use Rattle.script_words.proofs.cutting.cut.Goals as goal

pub returns-in-Some-clause-after : goal.returns-in-Some-clause-after
returns-in-Some-clause-after c =
    ap Some c.split_at-in-Some.ensures.back ∙ sym (cut_at-Some c.args.at c.args.bytes.now c.in-Some.place (sym c.place_of.ensures.value ∙ c.in-Some.is))

pub returns-in-None-clause-after : goal.returns-in-None-clause-after
returns-in-None-clause-after c = sym (cut_at-None c.args.at c.args.bytes.now (sym c.place_of.ensures.value ∙ c.in-None.is))
