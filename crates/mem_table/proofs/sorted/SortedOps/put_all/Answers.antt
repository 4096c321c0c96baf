use Rattle.std.proofs.Common.{◌≡◌, ◌+◌, List, [], ◌∷◌, ◌++◌, length, refl, sym, ap, subst, ◌∙◌, arith}
use Rattle.std.proofs.lemmas.List.{nil_from_length, length-append}
use Rattle.mvcc_key.specs.declared.batch.PointOp.{PointOp}
use Rattle.mvcc_key.specs.Batches.{AreEntries}
use Rattle.mem_table.specs.views.Places.{newest_ops}
use Rattle.mem_table.specs.views.Seen.{ops_held}
use Rattle.mem_table.proofs.EntryLaws.{entries-front}
use Rattle.mem_table.proofs.HeldLaws.{newest-fold, newest-none, storable-last}
use Rattle.mem_table.proofs.RoomLaws.{room-less}
use Rattle.mem_table.proofs.sorted.SortedOps.put_all.Goals as goal

pub loop-op-init : goal.loop-op-init
loop-op-init c = record { entries = c.requires.newer; room = c.requires.room; merged = refl }

pub put-requires-clause-op : goal.put-requires-clause-op
put-requires-clause-op c = storable-last c.pop.new.self.items c.in-Some.op (subst AreEntries c.in-Some.ensures.items c.loop-op.invariant.entries)

pub put-requires-clause-room : goal.put-requires-clause-room
put-requires-clause-room c =
    let long = ap length c.in-Some.ensures.items in
    let one = length-append c.pop.new.self.items (c.in-Some.op ∷ []) in
    room-less c.loop-op.self (length c.loop-op.newer.items) 1 (omega arith) c.loop-op.invariant.room

pub loop-op-preserved : goal.loop-op-preserved
loop-op-preserved c =
    let op = c.in-Some.op in
    let before = c.pop.new.self.items in
    let held : List PointOp = ops_held c.loop-op.self in
    let parts : c.loop-op.newer.items ≡ before ++ op ∷ [] = c.in-Some.ensures.items in
    let long = ap length parts in
    let one = length-append before (op ∷ []) in
    record {
      entries = entries-front before (op ∷ []) (subst AreEntries parts c.loop-op.invariant.entries);
      room = c.put.ensures.room (length before) (room-less c.loop-op.self (length c.loop-op.newer.items) (length before + 1) (omega arith) c.loop-op.invariant.room);
      merged = ap (newest_ops before) c.put.ensures.held ∙ sym (newest-fold before op held) ∙ ap (λ (us : List PointOp). newest_ops us held) (sym parts) ∙ c.loop-op.invariant.merged;
    }

pub returns : goal.returns
returns c =
    let held : List PointOp = ops_held c.loop-op.self in
    let none : c.loop-op.newer.items ≡ [] = nil_from_length c.loop-op.newer.items (let n = c.in_default.ensures.cases.0 in let long = c.loop-op.newer.ok.0 in omega arith) in
    sym (newest-none held c.loop-op.self.entries) ∙ ap (λ (us : List PointOp). newest_ops us held) (sym none) ∙ c.loop-op.invariant.merged
