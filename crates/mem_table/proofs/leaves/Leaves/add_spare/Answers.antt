use Rattle.std.proofs.Common.{◌≤◌, ◌^◌, List, [], ◌∷◌, ◌++◌, length, map, sym, ap, subst, ◌∙◌, arith}
use Rattle.std.specs.Prelude.{All}
use Rattle.std.proofs.lemmas.List.Elements.{All-push}
use Rattle.mem_table.specs.views.Slots.{Slots, IsEmptyLeaf, first_abbreviated, numbers_in, starts_from}
use Rattle.mem_table.proofs.StartLaws.{length-starts}
use Rattle.mem_table.proofs.leaves.Leaves.add_spare.Goals as goal

pub invariant_of-self-2-clause-firsts_are : goal.invariant_of-self-2-clause-firsts_are
invariant_of-self-2-clause-firsts_are c = c.reserve-2.ensures.items ∙ c.args.self.now.firsts_are ∙ ap (map first_abbreviated) (sym c.reserve.ensures.items)

pub invariant_of-self-2-clause-starts_are : goal.invariant_of-self-2-clause-starts_are
invariant_of-self-2-clause-starts_are c = c.reserve-3.ensures.items ∙ c.args.self.now.starts_are ∙ ap (starts_from 0) (sym c.reserve.ensures.items)

pub invariant_of-self-2-clause-few : goal.invariant_of-self-2-clause-few
invariant_of-self-2-clause-few c = subst (λ (ls : List Slots). length (numbers_in ls) ≤ 2 ^ 32) (sym c.reserve.ensures.items) c.args.self.now.few

pub invariant_of-self-2-clause-empty : goal.invariant_of-self-2-clause-empty
invariant_of-self-2-clause-empty c =
    let old = c.args.self.now in
    let leaf = c.in_ok-leaf.leaf in
    subst (All IsEmptyLeaf) (sym (c.push_reserved.ensures.items ∙ ap (λ (ls : List Slots). ls ++ leaf ∷ []) c.reserve-4.ensures.items))
    (All-push IsEmptyLeaf old.spare.items leaf old.empty c.in_ok-leaf.ensures)

pub invariant_of-self-2-clause-starts_room : goal.invariant_of-self-2-clause-starts_room
invariant_of-self-2-clause-starts_room c =
    let old = c.args.self.now in
    let starts = old.starts.ok.0 in
    let leaves = old.leaves.ok.0 in
    let same = ap length old.starts_are in
    let count = length-starts 0 old.leaves.items in
    omega (arith, c.reserve.ensures.len, c.reserve-4.ensures.len, c.push_reserved.ensures.len, c.in_ok-reserve-3.ensures.ok, c.reserve-3.ensures.len, c.len-count.ensures)
