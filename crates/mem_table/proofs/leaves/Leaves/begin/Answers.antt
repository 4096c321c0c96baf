use Rattle.std.proofs.Common.{length, sym, ap, subst, arith}
use Rattle.mem_table.specs.views.Slots.{IsLeaf, AreLeaves}
use Rattle.mem_table.proofs.EditLaws.{leaf-one, begin-leaves, begin-firsts}
use Rattle.mem_table.proofs.StartLaws.{begin-starts, count-begin, length-starts}
use Rattle.mem_table.proofs.leaves.Leaves.begin.Goals as goal

pub invariant_of-self : goal.invariant_of-self
invariant_of-self c =
    let old = c.args.self.now in
    let fresh = c.insert.new.self in
    let one : IsLeaf 1 fresh = subst (IsLeaf 1) (sym c.insert.ensures) (leaf-one c.take_spare-fresh.result c.args.abbreviated c.args.number c.take_spare-fresh.ensures.leaf) in
    let count = c.take_spare-fresh.ensures.count in
    let room = old.room in
    let firsts_room = old.firsts_room in
    let leaves = c.push_reserved.ensures in
    let firsts = c.push_reserved-2.ensures in
    record {
      sized = subst AreLeaves (sym c.push_reserved.ensures.items) (begin-leaves old.leaves.items fresh old.sized c.requires.enough one);
      firsts_are = begin-firsts old.leaves.items c.push_reserved.new.self.items old.firsts.items c.push_reserved-2.new.self.items c.take_spare-fresh.result fresh c.args.abbreviated c.args.number
          old.firsts_are c.insert.ensures c.push_reserved.ensures.items c.push_reserved-2.ensures.items;
      starts_are = begin-starts old.leaves.items c.push_reserved.new.self.items old.starts.items c.push_reserved-3.new.self.items fresh c.args.start old.starts_are c.requires.start
          c.push_reserved.ensures.items c.push_reserved-3.ensures.items;
      few = (let one_more = count-begin old.leaves.items c.push_reserved.new.self.items c.take_spare-fresh.result fresh c.args.abbreviated c.args.number c.take_spare-fresh.ensures.leaf
          c.insert.ensures c.push_reserved.ensures.items in let start = c.requires.start in let fits = c.ranges.start.fits in omega arith);
      empty = c.take_spare-fresh.ensures.empty;
      room = omega (arith, leaves.len, leaves.capacity);
      firsts_room = omega (arith, leaves.len, firsts.capacity);
      starts_room = (let starts_room = old.starts_room in let starts = c.push_reserved-3.ensures in omega (arith, leaves.len, starts.capacity));
    }

pub push_reserved-requires-3 : goal.push_reserved-requires-3
push_reserved-requires-3 c =
    let old = c.args.self.now in
    let same = ap length old.starts_are in
    let held = old.starts.ok.0 in
    let leaves = old.leaves.ok.0 in
    let spare = old.spare.ok.0 in
    let some = c.requires.spare in
    let room = old.starts_room in
    omega (arith, length-starts 0 old.leaves.items)
