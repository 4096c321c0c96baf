use Rattle.std.specs.Prelude.{◌≡◌, ℕ, List, take}
use Rattle.mvcc_key.specs.views.Seen.{time_of}
use Rattle.txn_state.specs.views.Seen.{actor_of}
use Rattle.run_block.specs.RunFormat.{Run}
use Rattle.mvcc_cursor.specs.WellFormed.{history_in}
use Rattle.mvcc_cursor.specs.views.Seen.{seen}
use Rattle.mvcc_put.proofs.DeleteLaws.{IsGathered}
use Rattle.mvcc_put.proofs.deletes.plan_each.Given as goal

-- the cursor is over the store, and the keys so far are gathered
abbrev pub invariant-loop-key : goal.invariant-loop-key
invariant-loop-key g l = record {
  over : (seen l.cursor).store ≡ l.store;
  gathered : IsGathered (history_in l.store) l.later (actor_of l.request.who) (time_of l.request.local) (take l.key-index l.keys) l.gathered;
}
