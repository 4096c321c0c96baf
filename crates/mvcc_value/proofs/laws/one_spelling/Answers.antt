use Rattle.std.proofs.Common.{arith}
use Rattle.mvcc_key.specs.views.Seen.{time_of}
use Rattle.mvcc_value.proofs.ValueLaws.{value_of-value_bytes, IsValueOf-value_of}
use Rattle.mvcc_value.proofs.laws.one_spelling.Goals as goal

pub returns : goal.returns
returns c = record {
  again = λ body local encodable range. value_of-value_bytes body local (time_of c.args.ts) encodable range;
  back = λ v e. IsValueOf-value_of (time_of c.args.ts) c.args.bytes.now v (λ i. omega (arith, c.type_inv.bytes i)) e;
}
