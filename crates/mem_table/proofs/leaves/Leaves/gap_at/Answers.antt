use Rattle.std.proofs.Common.{◌≡◌, ◌+◌, ◌-◌, ◌/◌, ℕ, ◌<◌, length, take, ap, arith}
use Rattle.mem_table.specs.views.Slots.{numbers_in}
use Rattle.mem_table.proofs.StartLaws.{length-starts, start-read, place-step}
use Rattle.mem_table.proofs.leaves.Leaves.gap_at.Goals as goal

pub index-requires : goal.index-requires
index-requires c =
    let old = c.args.self.now in
    let starts = old.starts.ok.0 in
    let within = c.loop-leaf.invariant.within in
    let some = c.loop-leaf-test.true in
    let same = ap length old.starts_are in
    omega (arith, length-starts 0 old.leaves.items)

pub loop-leaf-preserved-then-index-place : goal.loop-leaf-preserved-then-index-place
loop-leaf-preserved-then-index-place c =
    let old = c.args.self.now in
    let leaves = old.leaves.items in
    let inv = c.loop-leaf.invariant in
    let some = c.loop-leaf-test.true in
    let middle = c.loop-leaf.leaf + (c.loop-leaf.behind - c.loop-leaf.leaf) / 2 in
    let lt : middle < length leaves = (let within = inv.within in omega arith) in
    let at = start-read leaves old.starts.items middle c.index.result.now old.starts_are lt c.index.ensures in
    let le = c.if-index-place.true in
    record { ordered = omega arith; within = inv.within; below = omega arith; above = inv.above }

pub loop-leaf-preserved : goal.loop-leaf-preserved
loop-leaf-preserved c =
    let old = c.args.self.now in
    let leaves = old.leaves.items in
    let inv = c.loop-leaf.invariant in
    let some = c.loop-leaf-test.true in
    let middle = c.loop-leaf.leaf + (c.loop-leaf.behind - c.loop-leaf.leaf) / 2 in
    let lt : middle < length leaves = (let within = inv.within in omega arith) in
    let at = start-read leaves old.starts.items middle c.index.result.now old.starts_are lt c.index.ensures in
    let above = c.if-index-place.false in
    record { ordered = omega arith; within = (let within = inv.within in omega arith); below = inv.below; above = omega arith }

pub index-requires-2 : goal.index-requires-2
index-requires-2 c =
    let old = c.args.self.now in
    let starts = old.starts.ok.0 in
    let ordered = c.loop-leaf.invariant.ordered in
    let within = c.loop-leaf.invariant.within in
    let same = ap length old.starts_are in
    omega (arith, length-starts 0 old.leaves.items)

pub overflow_sub-result : goal.overflow_sub-result
overflow_sub-result c =
    let old = c.args.self.now in
    let leaves = old.leaves.items in
    let inv = c.loop-leaf.invariant in
    let ordered = inv.ordered in
    let within = inv.within in
    let at = start-read leaves old.starts.items c.loop-leaf.leaf c.index-2.result.now old.starts_are (omega arith) c.index-2.ensures in
    let below = inv.below in
    omega arith

pub returns-clause-gap : goal.returns-clause-gap
returns-clause-gap c =
    let old = c.args.self.now in
    let leaves = old.leaves.items in
    let inv = c.loop-leaf.invariant in
    let ordered = inv.ordered in
    let within = inv.within in
    let leaf = c.loop-leaf.leaf in
    let lt : leaf < length leaves = omega arith in
    let at = start-read leaves old.starts.items leaf c.index-2.result.now old.starts_are lt c.index-2.ensures in
    let done = c.loop-leaf-test.false in
    let last : c.loop-leaf.behind ≡ leaf + 1 = omega arith in
    let step = place-step leaves leaf lt in
    let above = inv.above in
    let same = ap (λ (n : ℕ). length (numbers_in (take n leaves))) last in
    record { leaf_within = omega arith; slot_within = omega arith }

pub returns-clause-place : goal.returns-clause-place
returns-clause-place c =
    let old = c.args.self.now in
    let leaves = old.leaves.items in
    let inv = c.loop-leaf.invariant in
    let ordered = inv.ordered in
    let within = inv.within in
    let leaf = c.loop-leaf.leaf in
    let lt : leaf < length leaves = omega arith in
    let at = start-read leaves old.starts.items leaf c.index-2.result.now old.starts_are lt c.index-2.ensures in
    let below = inv.below in
    omega arith
