use Rattle.std.proofs.Common.{◌<◌, length, ap, arith}
use Rattle.std.specs.Prelude.{vec_len}
use Rattle.std.proofs.lemmas.Bool.Decides.{nat_tests}
use Rattle.mem_table.proofs.StartLaws.{length-starts, start-read, place-le}
use Rattle.mem_table.proofs.leaves.Leaves.place.Goals as goal

pub index-requires : goal.index-requires
index-requires c =
    let old = c.args.self.now in
    let count = old.leaves.ok.0 in
    let filled : 0 < vec_len old.leaves = grind (arith, nat_tests) in
    let leaf = c.requires.leaf_within in
    let same = ap length old.starts_are in
    omega (arith, length-starts 0 old.leaves.items)

pub overflow_add-result : goal.overflow_add-result
overflow_add-result c =
    let old = c.args.self.now in
    let leaves = old.leaves.items in
    let count = old.leaves.ok.0 in
    let filled : 0 < vec_len old.leaves = grind (arith, nat_tests) in
    let leaf = c.requires.leaf_within in
    let within : c.args.leaf < length leaves = omega arith in
    let at = start-read leaves old.starts.items c.args.leaf c.index.result.now old.starts_are within c.index.ensures in
    let le = place-le leaves c.args.leaf within in
    let slot = c.requires.slot_within in
    let few = old.few in
    record { fits = omega arith }

pub returns-else-is_empty : goal.returns-else-is_empty
returns-else-is_empty c =
    let old = c.args.self.now in
    let leaves = old.leaves.items in
    let count = old.leaves.ok.0 in
    let filled : 0 < vec_len old.leaves = grind (arith, nat_tests) in
    let leaf = c.requires.leaf_within in
    let within : c.args.leaf < length leaves = omega arith in
    let at = start-read leaves old.starts.items c.args.leaf c.index.result.now old.starts_are within c.index.ensures in
    omega arith
