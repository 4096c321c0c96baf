use Rattle.std.proofs.Common.{◌+◌, ◌≤◌, ◌<◌}
use Rattle.mvcc_key.specs.views.Looks.{bits}
use Rattle.mem_table.specs.views.Halves.{IsHalved}
use Rattle.mem_table.proofs.halve.halve.Given as goal

abbrev pub invariant-loop-left : goal.invariant-loop-left
invariant-loop-left g l = record {
  halved : IsHalved l.abbreviated_keys l.abbreviated l.base l.count l.low l.left;
  bound : l.looks + bits l.left ≤ l.initial.looks + bits l.count;
  later : l.initial.looks ≤ l.looks;
  some : l.left < l.count → l.initial.looks < l.looks;
}

abbrev pub decreases-loop-left : goal.decreases-loop-left
decreases-loop-left g l = l.left
