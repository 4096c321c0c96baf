use Rattle.std.proofs.Common.{◌≡◌, take, map, filter, not}
use Rattle.mvcc_key.specs.views.Seen.{time_of}
use Rattle.range_key.specs.views.Taken.{is_taken}
use Rattle.range_key.proofs.stack.Stack.without.Given as goal

abbrev pub invariant-loop-time : goal.invariant-loop-time
invariant-loop-time l = map time_of l.held.items ≡ filter (λ t. not (is_taken l.taken t)) (map time_of (take l.time-index l.time-items))
