use Rattle.std.proofs.Common.{ap, ◌∙◌}
use Rattle.std.specs.Option.{option_map}
use Rattle.mvcc_key.specs.KeyFormat.{encoded_name}
use Rattle.mvcc_key.specs.Points.{Point}
use Rattle.mem_table.specs.views.Slots.{numbers_in}
use Rattle.mem_table.specs.views.Gaps.{place_of}
use Rattle.mem_table.proofs.HeldLaws.{point-listed}
use Rattle.mem_table.proofs.sorted.SortedOps.key.Goals as goal

pub returns : goal.returns
returns c =
    let s = c.args.self.now in
    ap (option_map (λ (p : Point). encoded_name p.name))
    (point-listed s.ops.ops.items (numbers_in s.leaves.leaves.items) (place_of s.leaves.leaves.items c.args.leaf c.args.slot) c.number.result s.numbers c.number.ensures)
    ∙ c.key.ensures
