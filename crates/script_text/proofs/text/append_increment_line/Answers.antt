-- A number behind its words, and the end of the line.
use Rattle.std.proofs.Common.{◌++◌, ◌∙◌, ap, codes}
use Rattle.std.proofs.lemmas.Int.{to_z-of_z}
use Rattle.std.specs.Fmt.{signed_decimal}
use Rattle.std.specs.Int.{w64}
use Rattle.script_text.specs.Text.{increment_line}
use Rattle.script_text.proofs.TextLaws.{two_pieces}
use Rattle.script_text.proofs.text.append_increment_line.Goals as goal

pub returns-clause-ok : goal.returns-clause-ok
unfolding increment_line
returns-clause-ok c =
    let same = to_z-of_z w64 c.args.number c.ranges.number in
    let one = c.in_ok-append_integer.ensures.ok ∙ ap (λ n. c.args.into.now.items ++ (codes "increment: " ++ signed_decimal n)) same in
    two_pieces c.args.into.now.items c.append_integer.new.into.items c.append.new.into.items (codes "increment: " ++ signed_decimal c.args.number) (codes "\n") one c.in_ok-append.ensures.ok
