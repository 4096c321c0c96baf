use Rattle.std.proofs.Common.{sym, ◌∙◌, arith}
use Rattle.mvcc_value.proofs.PlainLaws.{HasPlain, value_bytes-plain}
use Rattle.mvcc_value.proofs.decoding.plain_value.Goals as goal
use Rattle.mvcc_value.proofs.decoding.plain_value.Goals.{else-is_headed-via-then-is_headed+else-bytes-ge-HEADER_LEN, else-is_headed-via-else-is_headed}

pub returns-then-bytes-ge-HEADER_LEN : goal.returns-then-bytes-ge-HEADER_LEN
returns-then-bytes-ge-HEADER_LEN c body local ts is =
    let plain : HasPlain c.args.bytes.now body = rw is (value_bytes-plain body local ts) in
    c.split_at.ensures.back ∙ plain.behind (sym c.is_headed.ensures ∙ c.if-is_headed.true)

pub returns-else-is_headed : goal.returns-else-is_headed
returns-else-is_headed c body local ts is =
    let plain : HasPlain c.args.bytes.now body = rw is (value_bytes-plain body local ts) in
    elim c.else-is_headed.branch [
      | else-is_headed-via-then-is_headed+else-bytes-ge-HEADER_LEN w ↦
          let long = plain.long (sym c.is_headed.ensures ∙ w.if-is_headed.true) in absurd (omega (arith, w.if-bytes-ge-HEADER_LEN.false))
      | else-is_headed-via-else-is_headed w ↦ plain.whole (sym c.is_headed.ensures ∙ w.if-is_headed.false)
    ]
