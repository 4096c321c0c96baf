use Rattle.std.proofs.Common.{List, sym, subst}
use Rattle.mvcc_key.specs.Points.{AreEncodable}
use Rattle.mvcc_key.specs.views.SeenPoint.{points_of, AreNamed}
use Rattle.mvcc_key.specs.declared.batch.PointOp.{PointOp}
use Rattle.mem_table.specs.views.Entries.{AreBytes}
use Rattle.mem_table.proofs.ops.Ops.reserve.Goals as goal

pub invariant_of-self : goal.invariant_of-self
invariant_of-self c =
    let old = c.args.self.now in
    record {
      named = subst AreNamed (sym c.reserve.ensures.items) old.named;
      encodable = subst (λ (ops : List PointOp). AreEncodable (points_of ops)) (sym c.reserve.ensures.items) old.encodable;
      bytes = subst (λ (ops : List PointOp). AreBytes (points_of ops)) (sym c.reserve.ensures.items) old.bytes;
    }
