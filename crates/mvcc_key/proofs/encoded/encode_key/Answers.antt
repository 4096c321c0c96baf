use Rattle.std.proofs.Common.{ℕ, List, ◌++◌, sym, ap, subst, ◌∙◌}
use Rattle.mvcc_key.specs.Order.{Name}
use Rattle.mvcc_key.specs.KeyFormat.{encoded_name, name_of}
use Rattle.mvcc_key.specs.Encoded.{IsName}
use Rattle.mvcc_key.specs.views.Seen.{time_of}
use Rattle.mvcc_key.proofs.ClockLaws.{range_from}
use Rattle.mvcc_key.proofs.KeyFormatLaws.{name_of-encoded_name}
use Rattle.mvcc_key.proofs.NamedLaws.{named-encoded}
use Rattle.mvcc_key.proofs.encoded.encode_key.Goals as goal

pub returns-clause-read : goal.returns-clause-read
returns-clause-read c =
    let ts = c.args.ts in
    let name : Name = record { key = c.args.key.now; ts = time_of ts } in
    ap name_of (c.put_name.ensures ∙ ap (λ (old : List ℕ). old ++ encoded_name name) c.in_ok-bytes.ensures.items)
    ∙ name_of-encoded_name name (range_from ts.wall ts.logical ts.wall_range ts.logical_range)

pub returns-clause-name : goal.returns-clause-name
returns-clause-name c =
    let ts = c.args.ts in
    let name : Name = record { key = c.args.key.now; ts = time_of ts } in
    subst IsName (sym (c.put_name.ensures ∙ ap (λ (old : List ℕ). old ++ encoded_name name) c.in_ok-bytes.ensures.items))
    (named-encoded name (range_from ts.wall ts.logical ts.wall_range ts.logical_range))
