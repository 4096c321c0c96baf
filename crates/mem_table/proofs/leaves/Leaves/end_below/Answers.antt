use Rattle.std.proofs.Common.{◌-◌, ◌<◌, length, sym, ap, ◌∙◌, arith}
use Rattle.std.specs.Prelude.{vec_len}
use Rattle.std.proofs.lemmas.Bool.Decides.{nat_tests}
use Rattle.mvcc_key.specs.Encoded.{name_in}
use Rattle.mem_table.proofs.LeafLaws.{leaf-there}
use Rattle.mem_table.proofs.GapLaws.{numbers-read}
use Rattle.mem_table.proofs.EndLaws.{end-count, known-at}
use Rattle.mem_table.proofs.leaves.Leaves.end_below.Goals as goal

pub overflow_sub-slot : goal.overflow_sub-slot
overflow_sub-slot g c =
    let leaves = c.args.self.now.leaves.items in
    let count = c.args.self.now.leaves.ok.0 in
    let filled : 0 < vec_len c.args.self.now.leaves = grind (arith, nat_tests) in
    let one = leaf-there leaves (c.len-leaf.result - 1) c.index.result.now c.args.self.now.sized (omega arith) c.index.ensures in
    let same = ap length c.numbers-slot.ensures in
    (let enough = one.enough in omega arith)

pub number-requires : goal.number-requires
number-requires g c =
    let leaves = c.args.self.now.leaves.items in
    let leaf = c.len-leaf.result - 1 in
    let count = c.args.self.now.leaves.ok.0 in
    let filled : 0 < vec_len c.args.self.now.leaves = grind (arith, nat_tests) in
    let some = overflow_sub-slot g c in
    let same = ap length (numbers-read leaves leaf c.index.result.now c.numbers-slot.result.now (omega arith) c.index.ensures c.numbers-slot.ensures) in
    record { leaf_within = omega arith; slot_within = omega arith }

pub is_entry_below-requires-clause-within : goal.is_entry_below-requires-clause-within
is_entry_below-requires-clause-within g c = known-at (g.E.Entries.points c.args.entries.now) c.args.self.now.leaves.items _ c.number.result c.requires.index c.number.ensures

pub returns-then-is_entry_below-clause-place : goal.returns-then-is_entry_below-clause-place
returns-then-is_entry_below-clause-place g c =
    let leaves = c.args.self.now.leaves.items in
    let leaf = c.len-leaf.result - 1 in
    let count = c.args.self.now.leaves.ok.0 in
    let filled : 0 < vec_len c.args.self.now.leaves = grind (arith, nat_tests) in
    let one = leaf-there leaves leaf c.index.result.now c.args.self.now.sized (omega arith) c.index.ensures in
    let enough = one.enough in
    let long = ap length c.numbers-slot.ensures in
    let same = ap length (numbers-read leaves leaf c.index.result.now c.numbers-slot.result.now (omega arith) c.index.ensures c.numbers-slot.ensures) in
    end-count (name_in c.args.sought.now) (g.E.Entries.points c.args.entries.now) leaves leaf (length c.numbers-slot.result.now) c.number.result c.requires.index (omega arith) same (omega arith)
    c.number.ensures (sym c.is_entry_below.ensures ∙ c.if-is_entry_below.true)
