use Rattle.std.proofs.Common.{◌≡◌, ◌+◌, length, ap, arith}
use Rattle.std.proofs.lemmas.Bool.Decides.{nat_tests}
use Rattle.mem_table.proofs.GapLaws.{numbers-read}
use Rattle.mem_table.proofs.StartLaws.{length-starts, start-read}
use Rattle.mem_table.proofs.leaves.Leaves.is_gap.Goals as goal

pub index-requires-2 : goal.index-requires-2
index-requires-2 c =
    let old = c.args.self.now in
    let leaves = old.leaves.ok.0 in
    let starts = old.starts.ok.0 in
    let leaf = c.if-leaf-len.false in
    let same = ap length old.starts_are in
    omega (arith, length-starts 0 old.leaves.items)

pub returns : goal.returns
returns c holds =
    let old = c.args.self.now in
    let leaves = old.leaves.items in
    let count = old.leaves.ok.0 in
    let leaf = c.if-leaf-len.false in
    let start = c.index-2.result.now in
    let at = start-read leaves old.starts.items c.args.leaf start old.starts_are (omega arith) c.index-2.ensures in
    let same = ap length (numbers-read leaves c.args.leaf c.index.result.now c.numbers.result.now (omega arith) c.index.ensures c.numbers.ensures) in
    let slot = c.if-slot-numbers.false in
    let place : start + c.args.slot ≡ c.args.place = grind (arith, nat_tests) in
    (record { leaf_within = omega arith; slot_within = omega arith }, omega arith)
