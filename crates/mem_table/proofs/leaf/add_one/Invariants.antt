use Rattle.std.proofs.Common.{◌≡◌, ◌≤◌}
use Rattle.mem_table.proofs.StartLaws.{grown}
use Rattle.mem_table.proofs.leaf.add_one.Given as goal

abbrev pub invariant-loop-i : goal.invariant-loop-i
invariant-loop-i l = record { from_is : l.from ≤ l.i; grown : l.starts ≡ grown l.from l.i l.initial.starts }
