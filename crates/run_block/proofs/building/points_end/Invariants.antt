use Rattle.std.proofs.Common.{◌≡◌, ◌+◌, length, take}
use Rattle.std.specs.List.{flat_map}
use Rattle.mvcc_key.specs.views.SeenPoint.{points_of}
use Rattle.run_block.specs.RunFormat.{point_bytes}
use Rattle.run_block.proofs.building.points_end.Given as goal

abbrev pub invariant-loop-op : goal.invariant-loop-op
invariant-loop-op l = l.end ≡ l.start + length (flat_map point_bytes (points_of (take l.op-index l.points)))
