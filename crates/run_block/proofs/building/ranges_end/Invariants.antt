use Rattle.std.proofs.Common.{◌≡◌, ◌+◌, length, take}
use Rattle.std.specs.List.{flat_map}
use Rattle.run_block.specs.RunFormat.{range_bytes}
use Rattle.mvcc_key.specs.views.SeenRange.{range_ops_of}
use Rattle.run_block.proofs.building.ranges_end.Given as goal

abbrev pub invariant-loop-op : goal.invariant-loop-op
invariant-loop-op l = l.end ≡ l.start + length (flat_map range_bytes (range_ops_of (take l.op-index l.ranges)))
