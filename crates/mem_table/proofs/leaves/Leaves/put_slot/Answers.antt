use Rattle.std.proofs.Common.{ℕ, ◌+◌, ◌<◌, ◌^◌, List, ◌++◌, length, map, take, drop, set, refl, sym, ap, subst, ◌∙◌, arith}
use Rattle.std.specs.List.{AllByRecursion}
use Rattle.mem_table.specs.views.Slots.{Slots, numbers_in}
use Rattle.mem_table.specs.views.Gaps.{place_of}
use Rattle.mem_table.proofs.LeafLaws.{leaf-there}
use Rattle.mem_table.proofs.EditLaws.{put-leaves, put-firsts, put-numbers, put-abbreviated_keys}
use Rattle.mem_table.proofs.StartLaws.{written-back, length-starts, starts-fit, put-starts, count-put}
use Rattle.mem_table.proofs.leaves.Leaves.put_slot.Goals as goal

pub insert-requires-clause-beside : goal.insert-requires-clause-beside
insert-requires-clause-beside c = (leaf-there c.args.self.now.leaves.items c.args.leaf c.index_mut.result.now c.args.self.now.sized c.requires.leaf c.index_mut.ensures.value).beside

pub invariant_of-self : goal.invariant_of-self
invariant_of-self c =
    let old = c.args.self.now in
    let leaves = old.leaves.items in
    let new : List Slots = set leaves c.args.leaf c.insert.new.self in
    record {
      sized = put-leaves leaves new c.args.leaf c.args.slot c.args.abbreviated c.args.number c.index_mut.result.now old.sized c.requires.leaf c.requires.room c.requires.slot
          c.index_mut.ensures.value (ap (set leaves c.args.leaf) c.insert.ensures);
      firsts_are = ap (set old.firsts.items c.args.leaf) c.first_abbreviated.ensures
          ∙ put-firsts leaves new old.firsts.items c.args.leaf c.insert.new.self c.index.result.now c.requires.leaf old.firsts_are refl c.index.ensures;
      starts_are = written-back c.add_one.new.starts old.starts.items old.starts.len old.starts.ok.0 (let same = c.add_one.auto.starts in let value = ap length c.as_mut_slice.ensures.value in omega arith)
          ∙ put-starts leaves new old.starts.items c.add_one.new.starts c.args.leaf c.args.slot c.args.abbreviated c.args.number c.index_mut.result.now c.requires.leaf c.requires.slot
          c.index_mut.ensures.value (ap (set leaves c.args.leaf) c.insert.ensures) old.starts_are
          (c.add_one.ensures ∙ ap (λ (us : List ℕ). take (c.args.leaf + 1) us ++ map (λ m. m + 1) (drop (c.args.leaf + 1) us)) c.as_mut_slice.ensures.value);
      few = (let few = c.requires.few in
          let one_more = count-put (numbers_in leaves) (numbers_in new) (place_of leaves c.args.leaf c.args.slot) c.args.number (put-numbers leaves new c.args.leaf c.args.slot c.args.abbreviated
          c.args.number c.index_mut.result.now c.requires.leaf c.requires.slot c.index_mut.ensures.value (ap (set leaves c.args.leaf) c.insert.ensures)) in omega arith);
      empty = old.empty;
      room = old.room;
      firsts_room = old.firsts_room;
      starts_room = old.starts_room;
    }

pub returns-clause-numbers : goal.returns-clause-numbers
returns-clause-numbers c =
    let leaves = c.args.self.now.leaves.items in
    put-numbers leaves (set leaves c.args.leaf c.insert.new.self) c.args.leaf c.args.slot c.args.abbreviated c.args.number c.index_mut.result.now c.requires.leaf c.requires.slot
    c.index_mut.ensures.value (ap (set leaves c.args.leaf) c.insert.ensures)

pub returns-clause-abbreviated_keys : goal.returns-clause-abbreviated_keys
returns-clause-abbreviated_keys c points is h =
    let leaves = c.args.self.now.leaves.items in
    put-abbreviated_keys points leaves (set leaves c.args.leaf c.insert.new.self) c.args.leaf c.args.slot c.args.abbreviated c.args.number c.index_mut.result.now c.requires.leaf
    c.index_mut.ensures.value (ap (set leaves c.args.leaf) c.insert.ensures) is h

pub add_one-requires-clause-within : goal.add_one-requires-clause-within
add_one-requires-clause-within c =
    let old = c.args.self.now in
    let leaf = c.requires.leaf in
    let same = ap length (c.as_mut_slice.ensures.value ∙ old.starts_are) in
    omega (arith, length-starts 0 old.leaves.items)

pub add_one-requires-clause-fits : goal.add_one-requires-clause-fits
add_one-requires-clause-fits c =
    let old = c.args.self.now in
    subst (λ (us : List ℕ). AllByRecursion (λ n. n + 1 < 2 ^ 32) (drop (c.args.leaf + 1) us)) (sym c.as_mut_slice.ensures.value)
    (starts-fit old.leaves.items old.starts.items (c.args.leaf + 1) old.sized old.starts_are c.requires.few)
