use Rattle.std.proofs.Common.{◌≡◌, ℕ, List, ◌++◌, ap, ◌∙◌}
use Rattle.mvcc_key.specs.Order.{Timestamp}
use Rattle.mvcc_key.specs.views.Seen.{time_of}
use Rattle.mvcc_key.proofs.ClockLaws.{range_from}
use Rattle.mvcc_value.specs.Encoding.{plain_bytes, header_of, value_bytes, value_of}
use Rattle.mvcc_value.specs.views.Seen.{seen_body}
use Rattle.mvcc_value.proofs.ValueLaws.{value_of-value_bytes}
use Rattle.mvcc_value.proofs.encoding.encode.Goals as goal

pub returns-clause-read : goal.returns-clause-read
unfolding value_bytes
returns-clause-read c =
    let t = c.args.local in
    let plain : List ℕ = plain_bytes (seen_body c.args.body) in
    let bytes : c.put_plain.new.out.items ≡ value_bytes (seen_body c.args.body) (time_of t) (time_of c.args.ts) =
    c.put_plain.ensures.items
    ∙ ap (λ (out : List ℕ). out ++ plain) (c.put_header.ensures.items ∙ ap (λ (out : List ℕ). out ++ header_of (time_of c.kept_local.result)) c.in_ok-out.ensures.items)
    ∙ ap (λ (kept : Timestamp). header_of kept ++ plain) c.kept_local.ensures in
    ap (value_of (time_of c.args.ts)) bytes
    ∙ value_of-value_bytes (seen_body c.args.body) (time_of t) (time_of c.args.ts) c.put_plain.ensures.encodable (range_from t.wall t.logical t.wall_range t.logical_range)
