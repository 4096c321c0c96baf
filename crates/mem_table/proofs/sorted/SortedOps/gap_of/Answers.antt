use Rattle.std.proofs.Common.{sym, ap, ◌∙◌}
use Rattle.mvcc_key.specs.Encoded.{name_in}
use Rattle.mvcc_key.specs.Points.{count_below}
use Rattle.mem_table.specs.views.Slots.{numbers_in}
use Rattle.mem_table.proofs.HeldLaws.{indexed-held, points-listed}
use Rattle.mem_table.proofs.sorted.SortedOps.gap_of.Goals as goal

pub end_below-requires-clause-index : goal.end_below-requires-clause-index
end_below-requires-clause-index g c =
    let s = c.args.self.now in
    indexed-held s.ops.ops.items s.leaves.leaves.items s.numbers s.abbreviated_keys s.entries

pub returns-in-Some-clause-place : goal.returns-in-Some-clause-place
returns-in-Some-clause-place g c =
    let s = c.args.self.now in
    c.in-Some.ensures.place ∙ ap (count_below (name_in c.args.key.now)) (sym (points-listed s.ops.ops.items (numbers_in s.leaves.leaves.items)))
