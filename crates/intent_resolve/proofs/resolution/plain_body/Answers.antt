use Rattle.std.proofs.Common.{◌≡◌, ap, ◌∙◌, Ok}
use Rattle.mvcc_key.specs.Order.{no_time}
use Rattle.mvcc_value.specs.Encoding.{value_of}
use Rattle.mvcc_value.specs.views.Seen.{seen_value}
use Rattle.intent_meta.proofs.KeyHistoryLaws.{plain_value-read}
use Rattle.intent_meta.proofs.EntryValueLaws.{is_ok-value_of, is_ok-alike}
use Rattle.write_rule.proofs.ReadingLaws.{read-is}
use Rattle.intent_resolve.proofs.resolution.plain_body.Goals as goal

pub unwrap-requires : goal.unwrap-requires
unwrap-requires c =
    is_ok-alike c.decode.result (value_of no_time c.args.bytes.now) seen_value c.decode.ensures
    ∙ is_ok-value_of c.args.bytes.now ∙ c.requires

pub returns : goal.returns
returns c = λ body coded is.
    let reads : value_of no_time c.args.bytes.now ≡ Ok (record { local = no_time; body = body }) = ap (value_of no_time) is ∙ plain_value-read body no_time coded in
    ap (λ v. v.body) (read-is c.unwrap.result c.decode.result (value_of no_time c.args.bytes.now) seen_value (record { local = no_time; body = body }) c.decode.ensures c.unwrap.ensures reads)
