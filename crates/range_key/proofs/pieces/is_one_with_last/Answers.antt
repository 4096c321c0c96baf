use Rattle.std.proofs.Common.{◌+◌, ◌-◌, ◌∙◌, length, arith, ◌≡◌}
use Rattle.range_key.proofs.JoiningLaws.{is_one_with_last-at}
use Rattle.range_key.proofs.pieces.is_one_with_last.Goals as goal

pub returns-in-Some : goal.returns-in-Some
returns-in-Some c =
    let item = c.in-Some.ensures.item in
    let some : length c.args.pieces.now - 1 + 1 ≡ length c.args.pieces.now = omega (arith, item.3.0) in
    c.is_joined_by.ensures
    ∙ is_one_with_last-at c.args.pieces.now (length c.args.pieces.now - 1) c.in-Some.last.now c.args.start.now c.args.stack.now some item.1
