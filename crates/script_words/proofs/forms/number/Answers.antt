use Rattle.std.proofs.Common.{arith, ◌<◌, ◌+◌, ◌*◌, ◌-◌}
use Rattle.std.proofs.lemmas.List.Sums.{fold_more}
use Rattle.script_words.specs.Forms.{digits_value}
use Rattle.script_words.proofs.NumberLaws.{value-take-le, none-above}
use Rattle.script_words.proofs.forms.number.Goals as goal

pub returns-then-next-from-clause-value : goal.returns-then-next-from-clause-value
returns-then-next-from-clause-value c =
    let digits = c.args.digits.now in
    let i = c.loop-digit.digit-index in
    let more = fold_more (λ v d. 10 * v + (d - 48)) 0 digits i 0 c.loop-digit-test.true in
    let big : c.args.limit < digits_value digits = omega (arith, more, value-take-le digits (i + 1), c.loop-digit.invariant.value) in
    none-above c.args.limit digits big
