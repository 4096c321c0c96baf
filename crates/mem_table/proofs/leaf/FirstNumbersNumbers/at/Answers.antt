use Rattle.std.proofs.Common.{length, ap, arith}
use Rattle.std.proofs.lemmas.List.{length-map}
use Rattle.mem_table.specs.views.Slots.{first_number}
use Rattle.mem_table.proofs.LeafLaws.{leaf-at}
use Rattle.mem_table.proofs.leaf.FirstNumbersNumbers.at.Goals as goal

pub bounds-numbers-0 : goal.bounds-numbers-0
bounds-numbers-0 c =
    let leaves = c.args.self.now.leaves.now in
    let one = leaf-at leaves c.args.index c.index-self-index.result c.args.self.now.sized (omega (arith, length-map leaves first_number)) in
    omega (arith, one.enough, ap length c.numbers.ensures)
