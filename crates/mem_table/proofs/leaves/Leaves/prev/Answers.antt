use Rattle.std.proofs.Common.{◌-◌, length, ap, arith}
use Rattle.mem_table.proofs.LeafLaws.{leaf-there}
use Rattle.mem_table.proofs.GapLaws.{slot-before}
use Rattle.mem_table.proofs.leaves.Leaves.prev.Goals as goal

pub overflow_sub-result-then-leaf-gt0-2 : goal.overflow_sub-result-then-leaf-gt0-2
overflow_sub-result-then-leaf-gt0-2 c =
    let some = c.if-leaf-gt0.true in
    let within = c.requires.leaf_within in
    let one = leaf-there c.args.self.now.leaves.items (c.args.leaf - 1) c.index.result.now c.args.self.now.sized (omega arith) c.index.ensures in
    omega (arith, one.enough, ap length c.numbers.ensures)

pub returns-then-leaf-gt0 : goal.returns-then-leaf-gt0
returns-then-leaf-gt0 c =
    let none = c.if-slot-gt0.false in
    slot-before c.args.self.now.leaves.items c.args.leaf c.args.slot c.index.result.now c.numbers.result.now c.args.self.now.sized c.requires.leaf_within c.if-leaf-gt0.true (omega arith)
    c.index.ensures c.numbers.ensures
