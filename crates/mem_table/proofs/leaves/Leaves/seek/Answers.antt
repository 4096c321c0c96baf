use Rattle.std.proofs.Common.{◌≡◌, ℕ, ◌<◌, List, [], length, drop, get_or, sym, subst, ap, ◌∙◌, arith}
use Rattle.std.specs.Prelude.{vec_len}
use Rattle.std.proofs.lemmas.Bool.Decides.{nat_tests}
use Rattle.std.proofs.lemmas.List.{nil_from_length, get_or_default, length-map}
use Rattle.mvcc_key.specs.Encoded.{name_in}
use Rattle.mvcc_key.specs.views.Looks.{bits}
use Rattle.mvcc_key.specs.Points.{count_below}
use Rattle.mem_table.specs.views.Entries.{numbered, IsIndex}
use Rattle.mem_table.specs.views.Slots.{Slots, no_slots, first_abbreviated, numbers_in}
use Rattle.mem_table.specs.views.Gaps.{leaf_at}
use Rattle.mem_table.proofs.LeafLaws.{leaf-there}
use Rattle.mem_table.proofs.CountLaws.{count-nil}
use Rattle.mem_table.proofs.SeekLaws.{seek-index, leaf-index, seek-place, seek-bound}
use Rattle.mem_table.proofs.leaves.Leaves.seek.Goals as goal

pub returns-then-is_empty-clause-place : goal.returns-then-is_empty-clause-place
returns-then-is_empty-clause-place g c =
    let name = name_in c.args.sought.now in
    let points = g.E.Entries.points c.args.entries.now in
    let zero_len : vec_len c.args.self.now.leaves ≡ 0 = grind (arith, nat_tests) in
    let count = c.args.self.now.leaves.ok.0 in
    let none : c.args.self.now.leaves.items ≡ [] = nil_from_length c.args.self.now.leaves.items (omega arith) in
    sym (ap (λ (ls : List Slots). count_below name (numbered points (numbers_in ls))) none ∙ count-nil name)

pub count_below_name-leaf-requires-clause-index : goal.count_below_name-leaf-requires-clause-index
count_below_name-leaf-requires-clause-index g c =
    let points = g.E.Entries.points c.args.entries.now in
    seek-index points c.args.self.now.leaves.items c.split_at-2.result.1.now c.split_at.result.1.now c.args.self.now.sized c.requires.index
    (c.split_at.ensures.back ∙ ap (drop 1) (c.as_slice.ensures.value ∙ c.args.self.now.firsts_are)) (c.split_at-2.ensures.back ∙ ap (drop 1) c.as_slice-2.ensures.value)

-- the leaf that was found, read with its default
found-at : (leaves : List Slots) (leaf : ℕ) (found : Slots) → leaf < length leaves → found ≡ get_or leaves leaf found → found ≡ leaf_at leaves leaf
found-at leaves leaf found within is = is ∙ get_or_default leaves leaf found no_slots within

pub count_below_name-slot-requires-clause-index : goal.count_below_name-slot-requires-clause-index
count_below_name-slot-requires-clause-index g c =
    let points = g.E.Entries.points c.args.entries.now in
    let leaves = c.args.self.now.leaves.items in
    let leaf = c.count_below_name-leaf.result in
    let found = c.index-found.result.now in
    let count = c.args.self.now.leaves.ok.0 in
    let filled : 0 < vec_len c.args.self.now.leaves = grind (arith, nat_tests) in
    let within : leaf < length leaves = (let le = c.count_below_name-leaf.ensures.within in let back = c.split_at.ensures.back_len in let all = c.as_slice.ensures.len in let firsts = c.args.self.now.firsts.ok.0 in omega (arith, ap length c.args.self.now.firsts_are, length-map leaves first_abbreviated)) in
    rw (c.abbreviated_keys.ensures, c.numbers-numbers.ensures) (subst (λ (s : Slots). IsIndex points s.abbreviated_keys s.numbers) (sym c.index-found.ensures) (leaf-index points leaves leaf found within c.requires.index))

pub returns-clause-place : goal.returns-clause-place
returns-clause-place g c =
    let name = name_in c.args.sought.now in
    let points = g.E.Entries.points c.args.entries.now in
    let leaves = c.args.self.now.leaves.items in
    let leaf = c.count_below_name-leaf.result in
    let count = c.args.self.now.leaves.ok.0 in
    let filled : 0 < vec_len c.args.self.now.leaves = grind (arith, nat_tests) in
    let within : leaf < length leaves = (let le = c.count_below_name-leaf.ensures.within in let back = c.split_at.ensures.back_len in let all = c.as_slice.ensures.len in let firsts = c.args.self.now.firsts.ok.0 in omega (arith, ap length c.args.self.now.firsts_are, length-map leaves first_abbreviated)) in
    seek-place name points leaves c.split_at-2.result.1.now leaf c.count_below_name-slot.result (omega arith) c.args.self.now.sized c.requires.index
    (c.split_at-2.ensures.back ∙ ap (drop 1) c.as_slice-2.ensures.value) c.count_below_name-leaf.ensures.count
    (c.count_below_name-slot.ensures.count ∙ ap (λ (ns : List ℕ). count_below name (numbered points ns))
    (c.numbers-numbers.ensures ∙ ap (λ (s : Slots). s.numbers) (found-at leaves leaf c.index-found.result.now within c.index-found.ensures)))

pub returns-clause-some : goal.returns-clause-some
returns-clause-some g c some =
    let leaves = c.args.self.now.leaves.items in
    let leaf = c.count_below_name-leaf.result in
    let count = c.args.self.now.leaves.ok.0 in
    let filled : 0 < vec_len c.args.self.now.leaves = grind (arith, nat_tests) in
    let within : leaf < length leaves = (let le = c.count_below_name-leaf.ensures.within in let back = c.split_at.ensures.back_len in let all = c.as_slice.ensures.len in let firsts = c.args.self.now.firsts.ok.0 in omega (arith, ap length c.args.self.now.firsts_are, length-map leaves first_abbreviated)) in
    let one = leaf-there leaves leaf c.index-found.result.now c.args.self.now.sized within c.index-found.ensures in
    let enough = one.enough in
    let beside = one.beside in
    let abbreviated_keys = ap length c.abbreviated_keys.ensures in
    let later = c.count_below_name-leaf.ensures.later in
    let looked = c.count_below_name-slot.ensures.some (omega arith) in
    omega arith

pub returns-clause-bound : goal.returns-clause-bound
returns-clause-bound g c =
    let leaves = c.args.self.now.leaves.items in
    let leaf = c.count_below_name-leaf.result in
    let found = c.index-found.result.now in
    let count = c.args.self.now.leaves.ok.0 in
    let filled : 0 < vec_len c.args.self.now.leaves = grind (arith, nat_tests) in
    let within : leaf < length leaves = (let le = c.count_below_name-leaf.ensures.within in let back = c.split_at.ensures.back_len in let all = c.as_slice.ensures.len in let firsts = c.args.self.now.firsts.ok.0 in omega (arith, ap length c.args.self.now.firsts_are, length-map leaves first_abbreviated)) in
    let level : length c.split_at.result.1.now ≡ length c.split_at-2.result.1.now =
    (let back = c.split_at.ensures.back_len in let all = c.as_slice.ensures.len in let firsts = c.args.self.now.firsts.ok.0 in let back-2 = c.split_at-2.ensures.back_len in let all-2 = c.as_slice-2.ensures.len in
    omega (arith, ap length c.args.self.now.firsts_are, length-map leaves first_abbreviated)) in
    let few = seek-bound leaves c.split_at-2.result.1.now leaf (omega arith) c.args.self.now.sized (c.split_at-2.ensures.back ∙ ap (drop 1) c.as_slice-2.ensures.value)
    (let le = c.count_below_name-leaf.ensures.within in omega arith) in
    let beside : length found.abbreviated_keys ≡ length found.numbers = (leaf-there leaves leaf found c.args.self.now.sized within c.index-found.ensures).beside in
    let slots : length c.abbreviated_keys.result.now ≡ length (leaf_at leaves leaf).numbers =
    ap length c.abbreviated_keys.ensures ∙ beside ∙ ap (λ (s : Slots). length s.numbers) (found-at leaves leaf found within c.index-found.ensures) in
    let first = c.count_below_name-leaf.ensures.bound in
    let second = c.count_below_name-slot.ensures.bound in
    omega (arith, ap bits level, ap bits slots)
