use Rattle.std.proofs.Common.{◌≡◌, ◌<◌, length, ap, ◌∙◌, arith}
use Rattle.std.specs.Prelude.{vec_len}
use Rattle.std.proofs.lemmas.Bool.Decides.{nat_tests}
use Rattle.mem_table.specs.views.Slots.{no_slots, most}
use Rattle.mem_table.proofs.LeafLaws.{leaf-at}
use Rattle.mem_table.proofs.GapLaws.{numbers-read}
use Rattle.mem_table.proofs.EditLaws.{end-numbers, place-end}
use Rattle.mem_table.proofs.StartLaws.{length-starts, start-read, place-le}
use Rattle.mem_table.proofs.leaves.Leaves.insert.Goals as goal

pub put_split-requires-clause-full : goal.put_split-requires-clause-full
put_split-requires-clause-full c =
    let leaves = c.args.self.now.leaves.items in
    let count = c.args.self.now.leaves.ok.0 in
    let filled : 0 < vec_len c.args.self.now.leaves = grind (arith, nat_tests) in
    let leaf = c.requires.gap.leaf_within in
    let few = (leaf-at leaves c.args.leaf no_slots c.args.self.now.sized (omega arith)).few in
    let same = ap length (numbers-read leaves c.args.leaf c.index.result.now c.numbers.result.now (omega arith) c.index.ensures c.numbers.ensures) in
    let more = c.if-numbers-lt-MOST.false in
    omega arith

pub put_split-requires-clause-slot : goal.put_split-requires-clause-slot
put_split-requires-clause-slot c =
    let count = c.args.self.now.leaves.ok.0 in
    let filled : 0 < vec_len c.args.self.now.leaves = grind (arith, nat_tests) in
    let leaf = c.requires.gap.leaf_within in
    let few = (leaf-at c.args.self.now.leaves.items c.args.leaf no_slots c.args.self.now.sized (omega arith)).few in
    let slot = c.requires.gap.slot_within in
    omega arith

pub returns-then-leaf-len-clause-numbers : goal.returns-then-leaf-len-clause-numbers
returns-then-leaf-len-clause-numbers c =
    let leaves = c.args.self.now.leaves.items in
    let count = c.args.self.now.leaves.ok.0 in
    let filled : 0 < vec_len c.args.self.now.leaves = grind (arith, nat_tests) in
    let leaf = c.requires.gap.leaf_within in
    let few = (leaf-at leaves c.args.leaf no_slots c.args.self.now.sized (omega arith)).few in
    let slot = c.requires.gap.slot_within in
    let full : c.args.slot ≡ most = c.if-slot-eq-MOST.true in
    c.begin-then-leaf-len.ensures.numbers ∙ end-numbers leaves c.args.leaf c.args.slot c.args.number (omega arith) (omega arith)

pub index-requires-then-leaf-len : goal.index-requires-then-leaf-len
index-requires-then-leaf-len c =
    let old = c.args.self.now in
    let count = old.leaves.ok.0 in
    let starts = old.starts.ok.0 in
    let filled : 0 < vec_len old.leaves = grind (arith, nat_tests) in
    let leaf = c.requires.gap.leaf_within in
    let same = ap length old.starts_are in
    omega (arith, length-starts 0 old.leaves.items)

pub overflow_add-start : goal.overflow_add-start
overflow_add-start c =
    let old = c.args.self.now in
    let leaves = old.leaves.items in
    let count = old.leaves.ok.0 in
    let filled : 0 < vec_len old.leaves = grind (arith, nat_tests) in
    let leaf = c.requires.gap.leaf_within in
    let within : c.args.leaf < length leaves = omega arith in
    let at = start-read leaves old.starts.items c.args.leaf c.index-then-leaf-len.result.now old.starts_are within c.index-then-leaf-len.ensures in
    let full : c.args.slot ≡ most = c.if-slot-eq-MOST.true in
    let slot = c.requires.gap.slot_within in
    let le = place-le leaves c.args.leaf within in
    let few = c.requires.few in
    record { fits = omega arith }

pub begin-requires-then-leaf-len-clause-start : goal.begin-requires-then-leaf-len-clause-start
begin-requires-then-leaf-len-clause-start c =
    let old = c.args.self.now in
    let leaves = old.leaves.items in
    let count = old.leaves.ok.0 in
    let filled : 0 < vec_len old.leaves = grind (arith, nat_tests) in
    let leaf = c.requires.gap.leaf_within in
    let within : c.args.leaf < length leaves = omega arith in
    let at = start-read leaves old.starts.items c.args.leaf c.index-then-leaf-len.result.now old.starts_are within c.index-then-leaf-len.ensures in
    let full : c.args.slot ≡ most = c.if-slot-eq-MOST.true in
    let slot = c.requires.gap.slot_within in
    let few = (leaf-at leaves c.args.leaf no_slots old.sized within).few in
    let end = place-end leaves c.args.leaf (omega arith) in
    omega arith
