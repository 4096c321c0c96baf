-- How contracts see a change that a write on top of a key is counted as.
use Rattle.std.specs.Prelude.{◌≡◌, ℕ, List, Option, IfSome}
use Rattle.mvcc_key.specs.Order.{Key}
use Rattle.mvcc_key.specs.History as history
use Rattle.mvcc_key.specs.History.{History}
use Rattle.intent_meta.specs.KeyHistory.{KeyHistory, key_history}
use Rattle.intent_meta.specs.Valid.{IsValid}
use Rattle.mvcc_key.specs.Field.{Field}
use Rattle.mvcc_key.specs.views.SeenPoint.{points_of}
use Rattle.mvcc_key.specs.declared.batch.PointOp.{PointOp}
use Rattle.stat_core.specs.views.Seen.{number}
use Rattle.stat_delta.specs.declared.change.Change.{Change}
use Rattle.write_rule.specs.Write.{WriteRequest, WriteAnswer}
use Rattle.write_rule.specs.Outcome.{Outcome}
use Rattle.write_rule.specs.Planned.{points_for}
use Rattle.key_top.specs.Top.{Top, Front, top_in, IsShortFront}
use Rattle.mvcc_put.specs.views.Written.{written_for, moment_by, change_by}

-- the points are those of a write, and what it puts is short
pub record SetsShort (points : List PointOp) : Type 0 where
  pub before : History
  pub key : Key
  pub request : WriteRequest
  pub changed : history.Changed WriteAnswer
  pub outcome : Outcome before key request changed
  pub points_are : points_of points ≡ points_for outcome
  pub short : IfSome (written_for outcome) IsShortFront

-- its moment is that after what is put on top, and its delta is by how much that changes the statistics then
pub record CountsOnTop (last : ℕ) (top : Top) (written : Option Front) (change : Change) : Type 0 where
  pub moment : change.last ≡ moment_by last written
  pub delta : (f : Field) → number f change.delta ≡ change_by change.last top written f

-- what is told of the key, and its top, are those of a valid history
pub record IsTopOf (key : Key) (told : KeyHistory) (top : Top) : Type 0 where
  pub history : History
  pub valid : IsValid history
  pub told_is : key_history key history ≡ told
  pub top_is : top ≡ top_in history key
