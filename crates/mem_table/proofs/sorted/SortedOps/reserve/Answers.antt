use Rattle.std.proofs.Common.{List, sym, subst}
use Rattle.mvcc_key.specs.declared.batch.PointOp.{PointOp}
use Rattle.mvcc_key.proofs.BatchLaws.{encodable-entries}
use Rattle.mem_table.specs.views.Places.{listed}
use Rattle.mem_table.specs.views.Slots.{numbers_in}
use Rattle.mem_table.proofs.HeldLaws.{IsHeld}
use Rattle.mem_table.proofs.sorted.SortedOps.reserve.Goals as goal

pub invariant_of-self : goal.invariant_of-self
invariant_of-self c =
    let s = c.args.self.now in
    let leaves = s.leaves.leaves.items in
    let new = c.reserve.new.self.ops.items in
    let all : IsHeld new leaves = subst (λ (ops : List PointOp). IsHeld ops leaves) (sym c.reserve.ensures.items)
    (record { count = s.count; numbers = s.numbers; abbreviated_keys = s.abbreviated_keys; entries = s.entries }) in
    record {
      count = all.count;
      numbers = all.numbers;
      abbreviated_keys = all.abbreviated_keys;
      entries = all.entries;
      encodable = encodable-entries (listed new (numbers_in leaves)) all.entries;
    }

pub invariant_of-self-2 : goal.invariant_of-self-2
invariant_of-self-2 c =
    let s = c.args.self.now in
    let new = c.reserve.new.self.ops.items in
    let more = c.reserve-2.new.self.leaves.items in
    let all : IsHeld new more = subst (IsHeld new) (sym c.reserve-2.ensures.held) (subst (λ (ops : List PointOp). IsHeld ops s.leaves.leaves.items) (sym c.reserve.ensures.items)
    (record { count = s.count; numbers = s.numbers; abbreviated_keys = s.abbreviated_keys; entries = s.entries })) in
    record {
      count = all.count;
      numbers = all.numbers;
      abbreviated_keys = all.abbreviated_keys;
      entries = all.entries;
      encodable = encodable-entries (listed new (numbers_in more)) all.entries;
    }
