use Rattle.std.proofs.Common.{◌+◌, ◌≤◌, ◌<◌, length}
use Rattle.mvcc_key.specs.Encoded.{name_in}
use Rattle.mvcc_key.specs.views.Looks.{bits}
use Rattle.mvcc_key.proofs.PointLaws.{IsNarrowed}
use Rattle.mem_table.specs.views.Entries.{numbered}
use Rattle.mem_table.proofs.search.count_below_name.Given as goal

abbrev pub invariant-loop-left : goal.invariant-loop-left
invariant-loop-left g l = record {
  narrowed : IsNarrowed (name_in l.sought) (numbered (g.E.Entries.points l.entries) (g.N.Numbers.list l.numbers)) l.low (l.low + l.left);
  within : l.low + l.left ≤ length l.abbreviated_keys;
  bound : l.looks + bits l.left ≤ l.fn.looks + bits (length l.abbreviated_keys);
  later : l.fn.looks ≤ l.looks;
  some : l.left < length l.abbreviated_keys → l.fn.looks < l.looks;
}

abbrev pub decreases-loop-left : goal.decreases-loop-left
decreases-loop-left g l = l.left
