-- How contracts see the id of a transaction.
use Rattle.std.specs.Prelude.{ℕ, List}
use Rattle.std.specs.Int.{w128, to_be_bytes}
use Rattle.txn_state.specs.declared.id.TxnId.{TxnId}

-- its sixteen bytes, the highest first
unfoldable pub id_of : TxnId → List ℕ
id_of id = to_be_bytes w128 id.bits
