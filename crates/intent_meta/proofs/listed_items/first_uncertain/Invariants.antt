use Rattle.std.proofs.Common.{◌≡◌, find, drop}
use Rattle.mvcc_key.specs.views.Seen.{time_of}
use Rattle.intent_meta.specs.KeyHistory.{is_uncertain}
use Rattle.intent_meta.proofs.listed_items.first_uncertain.Given as goal

abbrev pub invariant-loop-item : goal.invariant-loop-item
invariant-loop-item l =
    find (is_uncertain (time_of l.above) (time_of l.limit) (time_of l.local_limit)) (drop l.item-index l.items)
    ≡ find (is_uncertain (time_of l.above) (time_of l.limit) (time_of l.local_limit)) l.items
