use Rattle.std.specs.Prelude.{[], ◌∷◌}
use Rattle.std.specs.List.Sorted.{IsStrictlySortedBy}
use Rattle.mvcc_key.specs.Order.{Timestamp, newer_first}
use Rattle.stat_delta.proofs.tests.stack_of.Goals as goal

-- one timestamp descends
one : (t : Timestamp) → IsStrictlySortedBy newer_first (t ∷ [])
unfolding IsStrictlySortedBy
one t = (tt, tt)

pub returns : goal.returns
returns c = one _
