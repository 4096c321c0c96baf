-- What a planned change makes of the state.
use Rattle.std.specs.Prelude.{Result}
use Rattle.mvcc_key.specs.History.{History}
use Rattle.mvcc_key.specs.Refusal.{Refusal}
use Rattle.stat_delta.specs.Moments.{stored_walls, greatest}
use Rattle.stat_delta.specs.PointChange.{IsPointChange}
use Rattle.stat_delta.specs.declared.change.Change.{Change}
use Rattle.mvcc_engine.specs.Step.{State, Reply, Stepped, settled, parts_after}

-- the change is one from the state's history to another
pub record IsPlanned (s : State) (change : Change) : Type 0 where
  pub after : History
  pub change_is : IsPointChange s.last s.history after change

-- the state with another history, at the moment of that, unless a statistic passes the bound then
abbrev pub changed_to : State → History → Reply → Result Stepped Refusal
changed_to s after reply = settled s after (greatest s.last (stored_walls after)) (parts_after s after) reply
