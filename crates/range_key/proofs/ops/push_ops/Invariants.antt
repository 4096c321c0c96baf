use Rattle.std.proofs.Common.{◌≡◌, ◌++◌, take, map}
use Rattle.mvcc_key.specs.views.Seen.{time_of}
use Rattle.range_key.specs.RangeOps.{set_tombstone}
use Rattle.mvcc_key.specs.views.SeenRange.{range_ops_of}
use Rattle.range_key.proofs.ops.push_ops.Given as goal

abbrev pub invariant-loop-ts : goal.invariant-loop-ts
invariant-loop-ts l =
    range_ops_of l.ops.items ≡ range_ops_of l.initial.ops.items
    ++ map (λ t. set_tombstone (record { start = l.fragment.start; end = l.fragment.end; ts = time_of t })) (take l.ts-index l.ts-items)
