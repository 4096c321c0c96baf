use Rattle.std.proofs.Common.{sym, ap, ◌∙◌}
use Rattle.mvcc_key.specs.Encoded.{name_in}
use Rattle.mvcc_key.specs.Points.{count_below}
use Rattle.mem_table.specs.views.Slots.{numbers_in}
use Rattle.mem_table.proofs.HeldLaws.{indexed-held, points-listed}
use Rattle.mem_table.proofs.sorted.SortedOps.seek.Goals as goal

pub seek-requires-clause-index : goal.seek-requires-clause-index
seek-requires-clause-index g c =
    let s = c.args.self.now in
    indexed-held s.ops.ops.items s.leaves.leaves.items s.numbers s.abbreviated_keys s.entries

pub returns-clause-place : goal.returns-clause-place
returns-clause-place g c =
    let s = c.args.self.now in
    c.seek.ensures.place ∙ ap (count_below (name_in c.args.key.now)) (sym (points-listed s.ops.ops.items (numbers_in s.leaves.leaves.items)))
