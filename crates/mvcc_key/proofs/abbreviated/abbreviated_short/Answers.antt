use Rattle.std.proofs.Common.{◌∙◌}
use Rattle.mvcc_key.proofs.AbbreviatedKeyLaws.{abbreviated-padded}
use Rattle.mvcc_key.proofs.abbreviated.abbreviated_short.Goals as goal

pub returns : goal.returns
returns c =
    let split = c.split_at_mut-front.ensures in
    c.read_u64.ensures
    ∙ abbreviated-padded c.args.key.now c.copy_from_slice.new.self c.split_at_mut-front.result.1.now c.copy_from_slice.ensures.after split.back c.requires split.back_len
