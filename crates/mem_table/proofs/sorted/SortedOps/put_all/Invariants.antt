use Rattle.std.proofs.Common.{◌≡◌, length, vec_len}
use Rattle.mvcc_key.specs.Batches.{AreEntries}
use Rattle.mem_table.specs.views.Places.{newest_ops}
use Rattle.mem_table.specs.views.Seen.{ops_held, HasRoom}
use Rattle.mem_table.proofs.sorted.SortedOps.put_all.Given as goal

abbrev pub invariant-loop-op : goal.invariant-loop-op
invariant-loop-op l = record {
  entries : AreEntries l.newer.items;
  room : HasRoom l.self (length l.newer.items);
  merged : newest_ops l.newer.items (ops_held l.self) ≡ newest_ops l.fn.newer.items (ops_held l.initial.self);
}

abbrev pub decreases-loop-op : goal.decreases-loop-op
decreases-loop-op l = vec_len l.newer
