use Rattle.std.proofs.Common.{◌≡◌, map, take}
use Rattle.std.specs.Prelude.{None}
use Rattle.mvcc_key.specs.Order.{Name}
use Rattle.mvcc_key.specs.views.Seen.{time_of}
use Rattle.mem_table.specs.Table.{state_of}
use Rattle.merge_cursor.specs.Merged.{joined}
use Rattle.lsm_store.proofs.ApplyLaws.{value_in}
use Rattle.lsm_store.proofs.changing.end_before.Given as goal

abbrev pub invariant-loop-run : goal.invariant-loop-run
invariant-loop-run l = (n : Name) → n.ts ≡ time_of l.ts → value_in (state_of n (joined (map (λ r. r.points) (take l.run-index l.runs)))) ≡ None
