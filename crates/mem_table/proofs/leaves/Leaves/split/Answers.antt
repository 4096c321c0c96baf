use Rattle.std.proofs.Common.{◌≡◌, ◌+◌, length, map, refl, sym, ap, ◌∙◌, subst, arith}
use Rattle.std.specs.Prelude.{insert}
use Rattle.std.proofs.lemmas.List.{length-drop, get_or_default}
use Rattle.mem_table.specs.views.Slots.{Slots, no_slots, half, most, first_abbreviated, AreLeaves, split_leaf, numbers_in, starts_from}
use Rattle.mem_table.specs.views.Gaps.{place_of}
use Rattle.mem_table.proofs.LeafLaws.{leaf-there}
use Rattle.mem_table.proofs.EditLaws.{split-leaves, split-firsts, split-set, split-numbers}
use Rattle.mem_table.proofs.StartLaws.{split-starts, length-starts, start-read, place-le}
use Rattle.mem_table.proofs.leaves.Leaves.split.Goals as goal

pub split-requires-clause-beside : goal.split-requires-clause-beside
split-requires-clause-beside c = (leaf-there c.args.self.now.leaves.items c.args.leaf c.index_mut.result.now c.args.self.now.sized c.requires.leaf c.index_mut.ensures.value).beside

pub first_abbreviated-requires : goal.first_abbreviated-requires
first_abbreviated-requires c =
    let leaves = c.args.self.now.leaves.items in
    let leaf = c.index_mut.result.now in
    let beside = (leaf-there leaves c.args.leaf leaf c.args.self.now.sized c.requires.leaf c.index_mut.ensures.value).beside in
    let full : length leaf.numbers ≡ most = ap (λ (s : Slots). length s.numbers) (c.index_mut.ensures.value ∙ get_or_default leaves c.args.leaf leaf no_slots c.requires.leaf) ∙ c.requires.full in
    let upper = ap (λ (s : Slots). length s.abbreviated_keys) c.split.ensures.upper in
    omega (arith, length-drop half leaf.abbreviated_keys)

pub invariant_of-self : goal.invariant_of-self
invariant_of-self c =
    let old = c.args.self.now in
    let leaves = old.leaves.items in
    let leaf = c.args.leaf in
    let is : c.insert_reserved-2.new.items.items ≡ split_leaf leaves leaf =
    split-set leaves c.insert_reserved-2.new.items.items leaf c.index_mut.result.now c.split.new.self c.split.new.upper c.requires.leaf c.index_mut.ensures.value
    c.split.ensures.lower c.split.ensures.upper c.insert_reserved-2.ensures.items in
    let count = c.take_spare-upper.ensures.count in
    let room = old.room in
    let firsts_room = old.firsts_room in
    let first = c.insert_reserved.ensures in
    let second = c.insert_reserved-2.ensures in
    record {
      sized = subst AreLeaves (sym is) (split-leaves leaves leaf old.sized c.requires.leaf c.requires.full);
      firsts_are = split-firsts leaves old.firsts.items c.insert_reserved.new.items.items leaf c.index_mut.result.now c.split.new.upper c.requires.leaf c.index_mut.ensures.value
          c.split.ensures.upper old.firsts_are (c.insert_reserved.ensures.items ∙ ap (insert old.firsts.items (leaf + 1)) c.first_abbreviated.ensures) ∙ ap (map first_abbreviated) (sym is);
      starts_are = split-starts leaves old.starts.items c.insert_reserved-3.new.items.items leaf c.index.result.now c.requires.leaf c.requires.full old.starts_are
          c.index.ensures (c.insert_reserved-3.ensures.items ∙ ap (insert old.starts.items (leaf + 1)) refl) ∙ ap (starts_from 0) (sym is);
      few = (let few = old.few in let same = ap length (ap numbers_in is ∙ split-numbers leaves leaf) in omega arith);
      empty = c.take_spare-upper.ensures.empty;
      room = omega (arith, second.count, second.capacity);
      firsts_room = omega (arith, second.count, first.capacity);
      starts_room = (let starts_room = old.starts_room in let third = c.insert_reserved-3.ensures in omega (arith, second.count, third.capacity));
    }

pub returns-clause-held : goal.returns-clause-held
returns-clause-held c =
    let leaves = c.args.self.now.leaves.items in
    split-set leaves c.insert_reserved-2.new.items.items c.args.leaf c.index_mut.result.now c.split.new.self c.split.new.upper c.requires.leaf c.index_mut.ensures.value
    c.split.ensures.lower c.split.ensures.upper c.insert_reserved-2.ensures.items

pub index-requires : goal.index-requires
index-requires c =
    let old = c.args.self.now in
    let leaf = c.requires.leaf in
    let same = ap length old.starts_are in
    omega (arith, length-starts 0 old.leaves.items)

pub overflow_add-start : goal.overflow_add-start
overflow_add-start c =
    let old = c.args.self.now in
    let leaves = old.leaves.items in
    let at : c.index.result.now ≡ place_of leaves c.args.leaf 0 = start-read leaves old.starts.items c.args.leaf c.index.result.now old.starts_are c.requires.leaf c.index.ensures in
    let le = place-le leaves c.args.leaf c.requires.leaf in
    let full = c.requires.full in
    let few = old.few in
    record { fits = omega arith }

pub insert_reserved-requires-3-clause-within : goal.insert_reserved-requires-3-clause-within
insert_reserved-requires-3-clause-within c =
    let old = c.args.self.now in
    let leaf = c.requires.leaf in
    let same = ap length old.starts_are in
    let held = old.starts.ok.0 in
    omega (arith, length-starts 0 old.leaves.items)

pub insert_reserved-requires-3-clause-room : goal.insert_reserved-requires-3-clause-room
insert_reserved-requires-3-clause-room c =
    let old = c.args.self.now in
    let same = ap length old.starts_are in
    let held = old.starts.ok.0 in
    let leaves = old.leaves.ok.0 in
    let spare = old.spare.ok.0 in
    let some = c.requires.spare in
    let room = old.starts_room in
    omega (arith, length-starts 0 old.leaves.items)
