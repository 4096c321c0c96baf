use Rattle.txn_state.specs.views.SeenId.{id_of}
use Rattle.txn_state.proofs.id.UuidFromTxnId.from.Goals as goal

pub returns : goal.returns
unfolding id_of
returns c = c.from_u128.ensures
