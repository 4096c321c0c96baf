use Rattle.std.specs.Prelude.{◌≡◌, true, [], ◌∷◌}
use Rattle.std.specs.List.Sorted.{IsStrictlySortedBy}
use Rattle.mvcc_key.specs.Order.{Timestamp, newer_first, is_before}
use Rattle.mvcc_key.specs.views.Seen.{time_of}
use Rattle.mvcc_key.proofs.TimeLaws.{before_less}
use Rattle.stat_core.proofs.tests.stack_of.Goals as goal

-- a timestamp and one before it
descends : (s t : Timestamp) → is_before t s ≡ true → IsStrictlySortedBy newer_first (s ∷ t ∷ [])
unfolding IsStrictlySortedBy
descends s t before = ((before_less t s before, tt), (tt, tt))

pub returns : goal.returns
returns g c = descends (time_of c.at.result) (time_of c.at-2.result) cc
