use Rattle.std.proofs.Common.{set}
use Rattle.mvcc_key.specs.views.SeenPoint.{AreNamed}
use Rattle.mvcc_key.proofs.SeenPointLaws.{encodable-named}
use Rattle.mem_table.proofs.OpLaws.{stored-set, named-set, bytes-set}
use Rattle.mem_table.proofs.ops.Ops.set.Goals as goal

pub invariant_of-self : goal.invariant_of-self
invariant_of-self c =
    let old = c.args.self.now in
    let named : AreNamed (set old.ops.items c.args.number c.args.op) = named-set old.ops.items c.args.number c.args.op old.named c.requires.name in
    record {
      named = named;
      encodable = encodable-named (set old.ops.items c.args.number c.args.op) named;
      bytes = bytes-set old.ops.items c.args.number c.args.op old.bytes c.requires.bytes;
    }

pub returns-clause-stored : goal.returns-clause-stored
returns-clause-stored c = stored-set c.args.self.now.ops.items c.args.number c.args.op c.requires.within
