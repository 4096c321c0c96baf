use Rattle.mem_table.proofs.GapLaws.{number-there}
use Rattle.mem_table.proofs.leaves.Leaves.number.Goals as goal

pub returns : goal.returns
returns c =
    number-there c.args.self.now.leaves.items c.args.leaf c.args.slot c.index.result.now c.numbers.result.now c.requires.leaf_within c.requires.slot_within c.index.ensures c.numbers.ensures
