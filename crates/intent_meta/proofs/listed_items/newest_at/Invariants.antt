use Rattle.std.proofs.Common.{◌≡◌, drop}
use Rattle.mvcc_key.specs.Items.{newest_at}
use Rattle.mvcc_key.specs.views.Seen.{time_of}
use Rattle.intent_meta.proofs.listed_items.newest_at.Given as goal

abbrev pub invariant-loop-item : goal.invariant-loop-item
invariant-loop-item l = newest_at (time_of l.ts) (drop l.item-index l.items) ≡ newest_at (time_of l.ts) l.items
