use Rattle.std.proofs.Common.{ℕ, ap, ◌∙◌, arith}
use Rattle.std.specs.Prelude.{slice_get}
use Rattle.std.specs.Option.{option_map, option_and_then}
use Rattle.mem_table.specs.views.Slots.{numbers_in}
use Rattle.mem_table.specs.views.Seen.{points_held}
use Rattle.mem_table.proofs.PlaceLaws.{shown-at, shown-none}
use Rattle.mem_table.proofs.HeldLaws.{length-points}
use Rattle.mem_table.proofs.sorted.SortedOps.value_at.Goals as goal

pub gap_from-leaf-requires : goal.gap_from-leaf-requires
gap_from-leaf-requires c =
    let s = c.args.self.now in
    let within = c.requires.1.within in
    let some = c.if-place.true in
    omega (arith, length-points s.ops.ops.items (numbers_in s.leaves.leaves.items))

pub value-requires-clause-within : goal.value-requires-clause-within
value-requires-clause-within c =
    let within = c.requires.1.within in
    let some = c.if-place.true in
    let at = c.gap_from-leaf.ensures.place in
    omega arith

pub returns-then-place : goal.returns-then-place
returns-then-place c name is =
    let points = points_held c.args.self.now in
    shown-at name points c.args.place.low c.args.place.behind (option_map (λ v. v.now) c.value.result) is c.if-place.true
    (c.value.ensures ∙ ap (λ (n : ℕ). option_and_then (λ p. p.value) (slice_get points n)) c.gap_from-leaf.ensures.place)

pub returns-else-place : goal.returns-else-place
returns-else-place c name is =
    shown-none name (points_held c.args.self.now) c.args.place.low c.args.place.behind is c.if-place.false
