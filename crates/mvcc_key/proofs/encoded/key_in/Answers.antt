use Rattle.std.proofs.Common.{ℕ, ◌+◌, ap, ◌∙◌}
use Rattle.mvcc_key.specs.KeyFormat.{without_last}
use Rattle.mvcc_key.proofs.NamedLaws.{IsName-HasKey}
use Rattle.mvcc_key.proofs.encoded.key_in.Goals as goal

pub returns : goal.returns
returns c =
    c.split_at.ensures.front ∙ ap (λ (b : ℕ). without_last (b + 1) c.args.bytes.now) (c.from-behind.ensures ∙ c.last_byte.ensures.value)
    ∙ (IsName-HasKey c.args.bytes.now c.requires).key
