use Rattle.std.proofs.Common.{arith}
use Rattle.mem_table.proofs.GapLaws.{slot-next}
use Rattle.mem_table.proofs.leaves.Leaves.slot_at.Goals as goal

pub returns-then-leaf-len : goal.returns-then-leaf-len
returns-then-leaf-len c =
    let more = c.if-leaf-len.true in
    let count = c.args.self.now.leaves.ok.0 in
    slot-next c.args.self.now.leaves.items c.args.leaf c.args.slot c.index.result.now c.numbers.result.now c.args.self.now.sized (omega arith) c.requires.slot_within
    c.if-slot-numbers.false c.index.ensures c.numbers.ensures
