use Rattle.std.proofs.Common.{◌≡◌, ℕ, List, sym, ap, ◌∙◌, arith}
use Rattle.std.specs.Prelude.{slice_get, Some}
use Rattle.mvcc_key.specs.Encoded.{name_in}
use Rattle.mvcc_key.proofs.BatchLaws.{encodable-entries}
use Rattle.mem_table.specs.views.Places.{listed}
use Rattle.mem_table.specs.views.Slots.{numbers_in}
use Rattle.mem_table.proofs.HeldLaws.{IsHeld, length-points, number-known, tied-entry, bytes-tied, held-known}
use Rattle.mem_table.proofs.sorted.SortedOps.replace.Goals as goal

pub gap_from-leaf-requires : goal.gap_from-leaf-requires
gap_from-leaf-requires c =
    let s = c.args.self.now in
    let within = c.requires.place.within in
    let some = c.requires.known in
    omega (arith, length-points s.ops.ops.items (numbers_in s.leaves.leaves.items))

pub number-number-requires-clause-within : goal.number-number-requires-clause-within
number-number-requires-clause-within c =
    let within = c.requires.place.within in
    let some = c.requires.known in
    let at = c.gap_from-leaf.ensures.place in
    omega arith

pub set-requires-clause-name : goal.set-requires-clause-name
set-requires-clause-name c = c.requires.op.name

pub set-requires-clause-within : goal.set-requires-clause-within
set-requires-clause-within c =
    let s = c.args.self.now in
    let is : slice_get (numbers_in s.leaves.leaves.items) c.args.place.low ≡ Some c.number-number.result =
    ap (slice_get (numbers_in s.leaves.leaves.items)) (sym c.gap_from-leaf.ensures.place) ∙ c.number-number.ensures in
    number-known s.ops.ops.items (numbers_in s.leaves.leaves.items) c.args.place.low c.number-number.result s.numbers is

pub set-requires-clause-bytes : goal.set-requires-clause-bytes
set-requires-clause-bytes c =
    let s = c.args.self.now in
    let ns : List ℕ = numbers_in s.leaves.leaves.items in
    let is : slice_get ns c.args.place.low ≡ Some c.number-number.result = ap (slice_get ns) (sym c.gap_from-leaf.ensures.place) ∙ c.number-number.ensures in
    bytes-tied s.ops.ops.items c.args.op.key c.number-number.result s.ops.bytes (number-known s.ops.ops.items ns c.args.place.low c.number-number.result s.numbers is)
    (tied-entry s.ops.ops.items ns c.args.place.low c.args.place.behind c.number-number.result (name_in c.args.op.key) s.numbers is c.requires.known c.requires.place)

pub invariant_of-self : goal.invariant_of-self
invariant_of-self c =
    let s = c.args.self.now in
    let leaves = s.leaves.leaves.items in
    let new = c.set.new.self.ops.items in
    let is : slice_get (numbers_in leaves) c.args.place.low ≡ Some c.number-number.result =
    ap (slice_get (numbers_in leaves)) (sym c.gap_from-leaf.ensures.place) ∙ c.number-number.ensures in
    let all : IsHeld new leaves =
    (held-known c.args.op c.number-number.result s.ops.ops.items new leaves c.args.place.low c.args.place.behind
    (record { count = s.count; numbers = s.numbers; abbreviated_keys = s.abbreviated_keys; entries = s.entries }) c.requires.op c.requires.place c.requires.known is
    c.set.ensures.stored c.set.ensures.count).0 in
    record {
      count = all.count;
      numbers = all.numbers;
      abbreviated_keys = all.abbreviated_keys;
      entries = all.entries;
      encodable = encodable-entries (listed new (numbers_in leaves)) all.entries;
    }

pub returns-clause-held : goal.returns-clause-held
returns-clause-held c =
    let s = c.args.self.now in
    let leaves = s.leaves.leaves.items in
    let is : slice_get (numbers_in leaves) c.args.place.low ≡ Some c.number-number.result =
    ap (slice_get (numbers_in leaves)) (sym c.gap_from-leaf.ensures.place) ∙ c.number-number.ensures in
    (held-known c.args.op c.number-number.result s.ops.ops.items c.set.new.self.ops.items leaves c.args.place.low c.args.place.behind
    (record { count = s.count; numbers = s.numbers; abbreviated_keys = s.abbreviated_keys; entries = s.entries }) c.requires.op c.requires.place c.requires.known is
    c.set.ensures.stored c.set.ensures.count).1

pub returns-clause-room : goal.returns-clause-room
returns-clause-room c more h =
    let old = c.args.self.now.ops.ops.ok.0 in
    let new = c.set.new.self.ops.ok.0 in
    let count = c.set.ensures.count in
    let capacity = c.set.ensures.capacity in
    let ops = h.ops in
    let few = h.few in
    let leaves = h.leaves in
    record { leaves = omega arith; ops = omega arith; few = omega arith }
