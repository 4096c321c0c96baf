use Rattle.std.proofs.Common.{sym, subst}
use Rattle.mvcc_key.specs.views.SeenPoint.{points_of, AreNamed}
use Rattle.mvcc_key.specs.declared.batch.PointOp.{PointOp}
use Rattle.mvcc_key.proofs.SeenPointLaws.{encodable-named}
use Rattle.std.proofs.Common.{List, ℕ}
use Rattle.mem_table.specs.views.Entries.{AreBytes}
use Rattle.mem_table.proofs.OpLaws.{named-pushed, bytes-pushed}
use Rattle.mvcc_key.specs.Encoded.{name_in, IsBytes}
use Rattle.mem_table.proofs.ops.Ops.push.Goals as goal

pub invariant_of-self : goal.invariant_of-self
invariant_of-self c =
    let old = c.args.self.now in
    let named : AreNamed c.push_reserved.new.self.items = subst AreNamed (sym c.push_reserved.ensures.items) (named-pushed old.ops.items c.args.op old.named c.requires.name) in
    let bytes : IsBytes (name_in c.args.op.key).key = subst (λ (k : List ℕ). IsBytes (name_in k).key) c.as_slice.ensures c.abbreviated_key-abbreviated.ensures.bytes in
    record {
      named = named;
      encodable = encodable-named c.push_reserved.new.self.items named;
      bytes = subst (λ (ops : List PointOp). AreBytes (points_of ops)) (sym c.push_reserved.ensures.items) (bytes-pushed old.ops.items c.args.op old.bytes bytes);
    }
