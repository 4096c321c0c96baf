use Rattle.std.proofs.Common.{ℕ, List, ◌+◌, ◌≤◌, length, take, ap, ◌∙◌, subst, sym}
use Rattle.mvcc_key.specs.KeyFormat.{name_of}
use Rattle.mvcc_key.specs.Encoded.{IsName}
use Rattle.mvcc_key.proofs.NamedLaws.{record-front, record-named, record-within}
use Rattle.mvcc_key.proofs.encoded.record_key.Goals as goal

pub split_at-requires : goal.split_at-requires
split_at-requires c = subst (λ (key : List ℕ). length key + 1 ≤ length c.args.bytes.now) (sym c.key_in.ensures) (record-within c.args.bytes.now c.requires)

pub returns-clause-record_of : goal.returns-clause-record_of
returns-clause-record_of c =
    ap name_of (c.split_at.ensures.front ∙ ap (λ (key : List ℕ). take (length key + 1) c.args.bytes.now) c.key_in.ensures)
    ∙ record-front c.args.bytes.now c.requires

pub returns-clause-named : goal.returns-clause-named
returns-clause-named c =
    subst IsName (sym (c.split_at.ensures.front ∙ ap (λ (key : List ℕ). take (length key + 1) c.args.bytes.now) c.key_in.ensures)) (record-named c.args.bytes.now c.requires)
