use Rattle.std.proofs.Common.{List, ℕ, Bor, ap, ◌∙◌}
use Rattle.mvcc_key.specs.views.Seen.{time_of}
use Rattle.mvcc_value.specs.Encoding.{value_of}
use Rattle.mvcc_value.specs.views.Seen.{seen_value}
use Rattle.intent_meta.specs.views.Lent.{seen_item}
use Rattle.write_rule.proofs.ReadingLaws.{read-is, lent_bytes, lent_reads}
use Rattle.write_rule.proofs.newest.body_of.Goals as goal

pub returns : goal.returns
returns c = λ i whole lent.
    let bytes = ap (λ (r : Bor (List ℕ)). r.now) c.unwrap_or-bytes.ensures ∙ lent_bytes c.args.item.value _ in
    let reads = ap (value_of (time_of c.args.item.ts)) bytes ∙ lent_reads (seen_item c.args.item) i lent whole in
    ap (λ v. v.body) (read-is c.unwrap.result c.decode.result (value_of (time_of c.args.item.ts) c.unwrap_or-bytes.result.now) seen_value (record { local = i.local; body = i.body }) c.decode.ensures c.unwrap.ensures reads)
