use Rattle.std.proofs.Common.{arith}
use Rattle.mem_table.specs.views.Slots.{numbers_in}
use Rattle.mem_table.proofs.HeldLaws.{gap-within, length-points}
use Rattle.mem_table.proofs.sorted.SortedOps.place.Goals as goal

pub returns-clause-within : goal.returns-clause-within
returns-clause-within c =
    let s = c.args.self.now in
    let within = gap-within s.leaves.leaves.items c.args.leaf c.args.slot c.requires in
    let is = c.place.ensures in
    omega (arith, length-points s.ops.ops.items (numbers_in s.leaves.leaves.items))

pub returns-clause-small : goal.returns-clause-small
returns-clause-small c =
    let s = c.args.self.now in
    let within = gap-within s.leaves.leaves.items c.args.leaf c.args.slot c.requires in
    let is = c.place.ensures in
    let few = s.leaves.few in
    omega arith
