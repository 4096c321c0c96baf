use Rattle.std.proofs.Common.{◌≡◌, map, drop}
use Rattle.mvcc_key.specs.Encoded.{name_in}
use Rattle.mem_table.specs.Table.{state_of}
use Rattle.merge_cursor.specs.Merged.{joined}
use Rattle.lsm_store.proofs.changing.seek_change.Given as goal

abbrev pub invariant-loop-run : goal.invariant-loop-run
invariant-loop-run l =
    state_of (name_in l.op.key) (joined (map (λ r. r.points) l.runs)) ≡ state_of (name_in l.op.key) (joined (map (λ r. r.points) (drop l.run-index l.runs)))
