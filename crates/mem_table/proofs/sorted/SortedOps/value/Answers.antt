use Rattle.std.proofs.Common.{◌∙◌}
use Rattle.mem_table.specs.views.Slots.{numbers_in}
use Rattle.mem_table.specs.views.Gaps.{place_of}
use Rattle.mem_table.proofs.HeldLaws.{value-listed}
use Rattle.mem_table.proofs.sorted.SortedOps.value.Goals as goal

pub returns : goal.returns
returns c =
    let s = c.args.self.now in
    c.value.ensures
    ∙ value-listed s.ops.ops.items (numbers_in s.leaves.leaves.items) (place_of s.leaves.leaves.items c.args.leaf c.args.slot) c.number.result s.numbers c.number.ensures
