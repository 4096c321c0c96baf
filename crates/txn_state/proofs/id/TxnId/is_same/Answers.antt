use Rattle.std.proofs.Common.{arith}
use Rattle.txn_state.proofs.IdLaws.{nat_eq-bits}
use Rattle.txn_state.proofs.id.TxnId.is_same.Goals as goal

pub returns : goal.returns
returns c = nat_eq-bits c.args.self c.args.other (omega arith) (omega arith)
