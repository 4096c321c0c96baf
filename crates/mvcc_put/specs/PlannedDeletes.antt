-- What planned deletes of several keys say.
use Rattle.std.specs.Prelude.{◌≡◌, ℕ, List, Result, Ok, Err}
use Rattle.mvcc_key.specs.Order.{Timestamp, Key}
use Rattle.mvcc_key.specs.History.{History}
use Rattle.txn_state.specs.Transaction.{Actor}
use Rattle.stat_delta.specs.PointChange.{IsPointChange}
use Rattle.stat_delta.specs.declared.change.Change.{Change}
use Rattle.write_rule.specs.views.Seen.{refusal_of, Tells}
use Rattle.write_rule.specs.declared.fault.WriteFault.{WriteFault}
use Rattle.mvcc_put.specs.DeleteRange.{delete_each}

-- each key is deleted, and the change is that from the history to the one after all of them
pub record ArePlannedDeletes (h : History) (last : ℕ) (who : Actor) (local : Timestamp) (keys : List Key) (change : Change) : Type 0 where
  pub after : History
  pub taken : delete_each who local h keys ≡ Ok after
  pub change_is : IsPointChange last h after change

-- the deletes are planned so, or refused with the refusal of the first that is; nothing is said where memory was wanting
abbrev pub AnswersDeletes : Result Change WriteFault → History → ℕ → Actor → Timestamp → List Key → Type 0
AnswersDeletes (Ok change) h last who local keys = ArePlannedDeletes h last who local keys change
AnswersDeletes (Err why) h last who local keys = Tells (refusal_of why) (delete_each who local h keys)
