use Rattle.std.proofs.Common.{ℕ, length, ap, ◌∙◌, arith}
use Rattle.mvcc_key.specs.Encoded.{name_in}
use Rattle.mvcc_key.specs.views.AbbreviatedKey.{abbreviated_key}
use Rattle.mvcc_key.proofs.AbbreviatedKeyLaws.{abbreviated-long, abbreviated-front, key-in-front}
use Rattle.mvcc_key.proofs.abbreviated.abbreviated_key.Goals as goal

pub returns-then-key-ge-ABBREVIATED_LEN : goal.returns-then-key-ge-ABBREVIATED_LEN
returns-then-key-ge-ABBREVIATED_LEN c =
    let front = key-in-front c.args.bytes.now c.requires (λ i. (c.type_inv.bytes i).fits) in
    record {
      is = c.read_u64.ensures ∙ abbreviated-long c.key_in-key.result.now (omega arith) ∙ ap abbreviated_key c.key_in-key.ensures;
      bytes = front.bytes_are;
    }

pub returns-then-bytes-lt-ABBREVIATED_LEN : goal.returns-then-bytes-lt-ABBREVIATED_LEN
returns-then-bytes-lt-ABBREVIATED_LEN c =
    let front = key-in-front c.args.bytes.now c.requires (λ i. (c.type_inv.bytes i).fits) in
    record { is = c.abbreviated_short.ensures ∙ ap abbreviated_key c.key_in-key.ensures; bytes = front.bytes_are }

pub returns-else-bytes-lt-ABBREVIATED_LEN : goal.returns-else-bytes-lt-ABBREVIATED_LEN
returns-else-bytes-lt-ABBREVIATED_LEN c =
    let front = key-in-front c.args.bytes.now c.requires (λ i. (c.type_inv.bytes i).fits) in
    let key = (name_in c.args.bytes.now).key in
    let is = c.key_in-key.ensures in
    let n = c.if-key-ge-ABBREVIATED_LEN.false in
    record {
      is = ap (λ (x : ℕ). x) c.upper_bytes.ensures ∙ (rw (c.read_u64-else-bytes-lt-ABBREVIATED_LEN.ensures, is) (abbreviated-front key front.rest c.args.bytes.now front.parts front.rest_are (omega (arith, ap length is)) (omega arith)));
      bytes = front.bytes_are;
    }
