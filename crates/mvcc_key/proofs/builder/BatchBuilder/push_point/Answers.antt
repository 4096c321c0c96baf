use Rattle.std.proofs.Common.{◌≡◌, List, [], ◌∷◌, ◌++◌, subst, sym}
use Rattle.std.specs.Prelude.{Result, Ok, Err, OnOk, OnErr}
use Rattle.mvcc_key.specs.Batches.{IsStorable, AreEntries}
use Rattle.mvcc_key.specs.views.SeenPoint.{IsAboveLast}
use Rattle.mvcc_key.specs.declared.batch.PointOp.{PointOp}
use Rattle.mvcc_key.proofs.BatchLaws.{entries-push}
use Rattle.mvcc_key.proofs.builder.BatchBuilder.push_point.Goals as goal

-- the points stay, or there is one more above the last
grown : {T E : Type 0} (r : Result T E) (ops new : List PointOp) (op : PointOp) → OnOk r (new ≡ ops ++ op ∷ []) → OnErr r (new ≡ ops)
    → AreEntries ops → IsStorable op → IsAboveLast ops op.key → AreEntries new
grown (Ok x) ops new op ok err e storable last = subst AreEntries (sym ok) (entries-push ops op e storable last)
grown (Err x) ops new op ok err e storable last = subst AreEntries (sym err) e

pub invariant_of-self-2 : goal.invariant_of-self-2
invariant_of-self-2 c =
    let ops = c.self.inside.held.points in
    let op = c.args.op in
    let above : IsAboveLast ops op.key =
    subst (λ (held : List PointOp). IsAboveLast held op.key) c.as_slice.ensures
    (subst (IsAboveLast c.as_slice.result.now) c.as_slice-else-not-is_storable.ensures (c.is_above_last.ensures.0 c.if-not-is_above_last.false)) in
    record { points = grown c.push.result ops c.push.new.self op c.push.ensures.ok c.push.ensures.err c.self.invariant.points (c.is_storable.ensures.0 c.if-not-is_storable.false) above; ranges = c.self.invariant.ranges }
