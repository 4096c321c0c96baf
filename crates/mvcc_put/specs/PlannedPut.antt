-- What a planned write of one key says.
use Rattle.std.specs.Prelude.{◌≡◌, ℕ, Result, Ok, Err}
use Rattle.mvcc_key.specs.Order.{Key}
use Rattle.mvcc_key.specs.History.{History}
use Rattle.stat_delta.specs.PointChange.{IsPointChange}
use Rattle.stat_delta.specs.declared.change.Change.{Change}
use Rattle.write_rule.specs.Write.{WriteRequest, write}
use Rattle.write_rule.specs.views.Seen.{answer_of, refusal_of, Tells}
use Rattle.write_rule.specs.declared.change.WriteAnswer.{WriteAnswer}
use Rattle.write_rule.specs.declared.fault.WriteFault.{WriteFault}

-- the write is taken with this answer, and the change is that from the history to the one after it
pub record IsPlannedPut (h : History) (last : ℕ) (key : Key) (w : WriteRequest) (change : Change) (answer : WriteAnswer) : Type 0 where
  pub after : History
  pub taken : write h key w ≡ Ok (record { history = after; answer = answer_of answer })
  pub change_is : IsPointChange last h after change

-- a write is planned as the rule says, or refused with the rule's refusal; nothing is said where memory was wanting
abbrev pub Answers : Result (Change × WriteAnswer) WriteFault → History → ℕ → Key → WriteRequest → Type 0
Answers (Ok planned) h last key w = IsPlannedPut h last key w planned.0 planned.1
Answers (Err why) h last key w = Tells (refusal_of why) (write h key w)
