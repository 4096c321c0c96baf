use Rattle.mem_table.proofs.OpLaws.{key-read}
use Rattle.mem_table.proofs.ops.OpsEntries.key.Goals as goal

pub returns : goal.returns
returns c = key-read c.args.self.now.ops.items c.args.number c.index.result.now c.as_slice.result.now c.args.self.now.named c.requires c.index.ensures c.as_slice.ensures
