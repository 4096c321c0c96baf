use Rattle.std.proofs.Common.{sym, ap, ◌∙◌}
use Rattle.std.proofs.lemmas.Result.{err_from_is_err_and}
use Rattle.mvcc_key.specs.Order.{no_time}
use Rattle.mvcc_key.specs.views.Seen.{time_of}
use Rattle.mvcc_value.specs.Encoding.{with_local}
use Rattle.mvcc_value.proofs.DecodingLaws.{value_of-headed, value_of-plain}
use Rattle.mvcc_value.proofs.decoding.decode.Goals as goal

pub returns-then-is_headed : goal.returns-then-is_headed
returns-then-is_headed c = rw (value_of-headed (time_of c.args.ts) c.args.bytes.now (sym c.is_headed.ensures ∙ c.if-is_headed.true)) c.decode_headed.ensures

-- the fault is that of the plain value
pub returns-in_err-body : goal.returns-in_err-body
returns-in_err-body c =
    let p = err_from_is_err_and c.from_residual.result c.from_residual.ensures.1 in
    rw (p.1, p.2)
    (value_of-plain (time_of c.args.ts) c.args.bytes.now (sym c.is_headed.ensures ∙ c.if-is_headed.false) ∙ ap (with_local no_time) c.in_err-body.ensures)

pub returns : goal.returns
returns c =
    value_of-plain (time_of c.args.ts) c.args.bytes.now (sym c.is_headed.ensures ∙ c.if-is_headed.false) ∙ ap (with_local no_time) c.in_ok-body.ensures
