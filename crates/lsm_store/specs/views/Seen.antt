-- How contracts see what is shown of a part, and a memory table as a run.
use Rattle.mvcc_key.specs.views.SeenRange.{range_ops_of}
use Rattle.mem_table.specs.Table.{Table}
use Rattle.run_block.specs.RunFormat.{Run}
use Rattle.lsm_store.specs.Parts as parts
use Rattle.lsm_store.specs.declared.shape.PartShape.{PartShape}

-- what is shown of a part
abbrev pub seen_shape : PartShape → parts.PartShape
seen_shape s = record { keys = s.keys; clears = s.clears; ranges = s.ranges }

-- the run that a flush makes of a memory table
abbrev pub run_of_table : Table → Run
run_of_table t = record { points = t.points; ranges = range_ops_of t.ranges }
