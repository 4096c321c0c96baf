use Rattle.std.proofs.Common.{[], ◌∷◌, length, ap, arith}
use Rattle.std.proofs.lemmas.List.{length-append}
use Rattle.mvcc_key.proofs.BatchLaws.{encodable-entries}
use Rattle.mem_table.specs.views.Places.{listed}
use Rattle.mem_table.specs.views.Slots.{numbers_in}
use Rattle.mem_table.specs.views.Gaps.{place_of}
use Rattle.mem_table.proofs.HeldLaws.{IsHeld, length-points, held-new}
use Rattle.mem_table.proofs.sorted.SortedOps.add.Goals as goal

pub gap_from-leaf-requires : goal.gap_from-leaf-requires
gap_from-leaf-requires c =
    let s = c.args.self.now in
    let within = c.requires.place.within in
    let ordered = c.requires.place.ordered in
    omega (arith, length-points s.ops.ops.items (numbers_in s.leaves.leaves.items))

pub push-number-requires-clause-name : goal.push-number-requires-clause-name
push-number-requires-clause-name c = c.requires.op.name

pub push-number-requires-clause-room : goal.push-number-requires-clause-room
push-number-requires-clause-room c = (let room = c.requires.room.ops in omega arith)

pub push-number-requires-clause-few : goal.push-number-requires-clause-few
push-number-requires-clause-few c = (let few = c.requires.room.few in omega arith)

pub insert-requires-clause-spare : goal.insert-requires-clause-spare
insert-requires-clause-spare c = (let leaves = c.requires.room.leaves in omega arith)

pub insert-requires-clause-few : goal.insert-requires-clause-few
insert-requires-clause-few c =
    let s = c.args.self.now in
    let few = c.requires.room.few in
    let count = s.count in
    let held = s.ops.ops.ok.0 in
    omega arith

pub invariant_of-self : goal.invariant_of-self
invariant_of-self c =
    let s = c.args.self.now in
    let leaves = s.leaves.leaves.items in
    let new = c.push-number.new.self.ops.items in
    let more = c.insert.new.self.leaves.items in
    let all : IsHeld new more =
    (held-new c.args.op c.push-number.result.0 c.push-number.result.1 s.ops.ops.items new leaves more c.args.place.low c.args.place.behind
    (place_of leaves c.gap_from-leaf.result.0 c.gap_from-leaf.result.1)
    (record { count = s.count; numbers = s.numbers; abbreviated_keys = s.abbreviated_keys; entries = s.entries }) c.requires.op c.requires.place c.requires.new
    c.gap_from-leaf.ensures.place c.push-number.ensures.items c.push-number.ensures.number c.push-number.ensures.abbreviated c.insert.ensures.numbers c.insert.ensures.abbreviated_keys).0 in
    record {
      count = all.count;
      numbers = all.numbers;
      abbreviated_keys = all.abbreviated_keys;
      entries = all.entries;
      encodable = encodable-entries (listed new (numbers_in more)) all.entries;
    }

pub returns-clause-held : goal.returns-clause-held
returns-clause-held c =
    let s = c.args.self.now in
    let leaves = s.leaves.leaves.items in
    (held-new c.args.op c.push-number.result.0 c.push-number.result.1 s.ops.ops.items c.push-number.new.self.ops.items leaves c.insert.new.self.leaves.items
    c.args.place.low c.args.place.behind (place_of leaves c.gap_from-leaf.result.0 c.gap_from-leaf.result.1)
    (record { count = s.count; numbers = s.numbers; abbreviated_keys = s.abbreviated_keys; entries = s.entries }) c.requires.op c.requires.place c.requires.new
    c.gap_from-leaf.ensures.place c.push-number.ensures.items c.push-number.ensures.number c.push-number.ensures.abbreviated c.insert.ensures.numbers c.insert.ensures.abbreviated_keys).1

pub returns-clause-room : goal.returns-clause-room
returns-clause-room c more h =
    let old = c.args.self.now.ops.ops.ok.0 in
    let new = c.push-number.new.self.ops.ok.0 in
    let long = ap length c.push-number.ensures.items in
    let one = length-append c.args.self.now.ops.ops.items (c.args.op ∷ []) in
    let capacity = c.push-number.ensures.capacity in
    let spares = c.insert.ensures.spares in
    let ops = h.ops in
    let few = h.few in
    let leaves = h.leaves in
    record { leaves = omega arith; ops = omega arith; few = omega arith }
