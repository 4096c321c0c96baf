use Rattle.std.proofs.Common.{sym, ◌∙◌}
use Rattle.mvcc_key.specs.Encoded.{name_in}
use Rattle.mvcc_key.proofs.AbbreviatedKeyLaws.{names-apart}
use Rattle.mvcc_key.proofs.encoded.cmp_encoded.Goals as goal

pub returns-in_default : goal.returns-in_default
returns-in_default c =
    c.cmp.ensures
    ∙ sym (names-apart (name_in c.args.a.now) (name_in c.args.b.now) c.abbreviated_key.result c.abbreviated_key-2.result c.abbreviated_key.ensures c.abbreviated_key-2.ensures (λ same. c.in_default.not-Equal (c.cmp.ensures ∙ same)))
