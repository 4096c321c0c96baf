use Rattle.txn_state.proofs.IdLaws.{id_of-bytes}
use Rattle.txn_state.proofs.id.of_bytes.Goals as goal

pub returns : goal.returns
returns c = id_of-bytes c.args.bytes.now (record { bits = c.from_be_bytes.result }) c.told-bytes c.fits-bytes c.from_be_bytes.ensures
