use Rattle.std.proofs.Common.{arith}
use Rattle.mvcc_key.proofs.NamedLaws.{IsName-HasKey}
use Rattle.mvcc_key.proofs.encoded.last_byte.Goals as goal

pub overflow_sub-result : goal.overflow_sub-result
overflow_sub-result c = let key = IsName-HasKey c.args.bytes.now c.requires in omega (arith, key.within)

pub bounds-bytes-bytes : goal.bounds-bytes-bytes
bounds-bytes-bytes c = let key = IsName-HasKey c.args.bytes.now c.requires in omega (arith, key.within)

pub returns-clause-within : goal.returns-clause-within
returns-clause-within c = (IsName-HasKey c.args.bytes.now c.requires).within
