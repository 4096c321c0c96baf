use Rattle.std.proofs.Common.{length, sym, ap, subst, ◌∙◌, arith}
use Rattle.mem_table.specs.views.Slots.{numbers_in, HaveAbbreviatedKeys}
use Rattle.mem_table.proofs.EditLaws.{split-count, split-numbers, split-abbreviated_keys, lower-long, upper-long, lower-numbers, upper-numbers}
use Rattle.mem_table.proofs.leaves.Leaves.put_split.Goals as goal

pub put_slot-requires-clause-leaf : goal.put_slot-requires-clause-leaf
put_slot-requires-clause-leaf c =
    let leaves = c.args.self.now.leaves.items in
    omega (arith, ap length c.split.ensures.held, split-count leaves c.args.leaf c.requires.leaf)

pub put_slot-requires-clause-room : goal.put_slot-requires-clause-room
put_slot-requires-clause-room c =
    let long = lower-long c.args.self.now.leaves.items c.split.new.self.leaves.items c.args.leaf c.requires.leaf c.requires.full c.split.ensures.held in
    omega arith

pub put_slot-requires-clause-slot : goal.put_slot-requires-clause-slot
put_slot-requires-clause-slot c =
    let long = lower-long c.args.self.now.leaves.items c.split.new.self.leaves.items c.args.leaf c.requires.leaf c.requires.full c.split.ensures.held in
    omega arith

pub put_slot-requires-else-slot-le-HALF-clause-leaf : goal.put_slot-requires-else-slot-le-HALF-clause-leaf
put_slot-requires-else-slot-le-HALF-clause-leaf c =
    let leaves = c.args.self.now.leaves.items in
    omega (arith, ap length c.split.ensures.held, split-count leaves c.args.leaf c.requires.leaf)

pub put_slot-requires-else-slot-le-HALF-clause-room : goal.put_slot-requires-else-slot-le-HALF-clause-room
put_slot-requires-else-slot-le-HALF-clause-room c =
    let long = upper-long c.args.self.now.leaves.items c.split.new.self.leaves.items c.args.leaf c.requires.leaf c.requires.full c.split.ensures.held in
    omega arith

pub put_slot-requires-else-slot-le-HALF-clause-slot : goal.put_slot-requires-else-slot-le-HALF-clause-slot
put_slot-requires-else-slot-le-HALF-clause-slot c =
    let long = upper-long c.args.self.now.leaves.items c.split.new.self.leaves.items c.args.leaf c.requires.leaf c.requires.full c.split.ensures.held in
    omega arith

pub returns-then-slot-le-HALF-clause-numbers : goal.returns-then-slot-le-HALF-clause-numbers
returns-then-slot-le-HALF-clause-numbers c =
    lower-numbers c.args.self.now.leaves.items c.split.new.self.leaves.items c.args.leaf c.args.slot c.args.number _ c.requires.leaf c.split.ensures.held c.put_slot.ensures.numbers

pub returns-then-slot-le-HALF-clause-abbreviated_keys : goal.returns-then-slot-le-HALF-clause-abbreviated_keys
returns-then-slot-le-HALF-clause-abbreviated_keys c points is h =
    c.put_slot.ensures.abbreviated_keys points is (subst (HaveAbbreviatedKeys points) (sym c.split.ensures.held) (split-abbreviated_keys points c.args.self.now.leaves.items c.args.leaf h))

pub returns-else-slot-le-HALF-clause-numbers : goal.returns-else-slot-le-HALF-clause-numbers
returns-else-slot-le-HALF-clause-numbers c =
    let more = c.if-slot-le-HALF.false in
    upper-numbers c.args.self.now.leaves.items c.split.new.self.leaves.items c.args.leaf c.args.slot c.args.number _ c.requires.leaf c.requires.full (omega arith)
    c.split.ensures.held c.put_slot-else-slot-le-HALF.ensures.numbers

pub returns-else-slot-le-HALF-clause-abbreviated_keys : goal.returns-else-slot-le-HALF-clause-abbreviated_keys
returns-else-slot-le-HALF-clause-abbreviated_keys c points is h =
    c.put_slot-else-slot-le-HALF.ensures.abbreviated_keys points is (subst (HaveAbbreviatedKeys points) (sym c.split.ensures.held) (split-abbreviated_keys points c.args.self.now.leaves.items c.args.leaf h))

pub put_slot-requires-clause-few : goal.put_slot-requires-clause-few
put_slot-requires-clause-few c =
    let few = c.requires.few in
    omega (arith, ap length (ap numbers_in c.split.ensures.held ∙ split-numbers c.args.self.now.leaves.items c.args.leaf))

pub put_slot-requires-else-slot-le-HALF-clause-few : goal.put_slot-requires-else-slot-le-HALF-clause-few
put_slot-requires-else-slot-le-HALF-clause-few c =
    let few = c.requires.few in
    omega (arith, ap length (ap numbers_in c.split.ensures.held ∙ split-numbers c.args.self.now.leaves.items c.args.leaf))
