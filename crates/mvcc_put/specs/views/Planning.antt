-- How contracts see the plan of a write with its points.
use Rattle.std.specs.Prelude.{◌≡◌, ℕ, Result, Ok, Err}
use Rattle.mvcc_key.specs.Order.{Key}
use Rattle.mvcc_key.specs.History.{History}
use Rattle.mvcc_key.specs.views.SeenPoint.{points_of}
use Rattle.stat_delta.specs.declared.change.Change.{Change}
use Rattle.write_rule.specs.Outcome.{Outcome}
use Rattle.write_rule.specs.Planned.{points_for}
use Rattle.write_rule.specs.Write.{WriteRequest, write}
use Rattle.write_rule.specs.views.Seen.{answer_of, refusal_of, Tells}
use Rattle.write_rule.specs.declared.change.WriteAnswer.{WriteAnswer}
use Rattle.write_rule.specs.declared.fault.WriteFault.{WriteFault}
use Rattle.mvcc_put.specs.PlannedPut.{IsPlannedPut}

-- the write is planned, and the points are those of its outcome
pub record IsPlannedWith (h : History) (last : ℕ) (key : Key) (w : WriteRequest) (change : Change) (answer : WriteAnswer) : Type 0 where
  pub planned : IsPlannedPut h last key w change answer
  pub outcome : Outcome h key w (record { history = planned.after; answer = answer_of answer })
  pub points : points_of change.batch.points ≡ points_for outcome

-- a write is planned so, or refused with the rule's refusal; nothing is said where memory was wanting
abbrev pub Plans : Result (Change × WriteAnswer) WriteFault → History → ℕ → Key → WriteRequest → Type 0
Plans (Ok planned) h last key w = IsPlannedWith h last key w planned.0 planned.1
Plans (Err why) h last key w = Tells (refusal_of why) (write h key w)
