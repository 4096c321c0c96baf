-- What a planned resolution says.
use Rattle.std.specs.Prelude.{◌≡◌, ℕ, Bool, Option, Result, Ok, Err}
use Rattle.mvcc_key.specs.Order.{Key}
use Rattle.mvcc_key.specs.History.{History}
use Rattle.mvcc_key.specs.Spans as spans
use Rattle.stat_delta.specs.PointChange.{IsPointChange}
use Rattle.stat_delta.specs.declared.change.Change.{Change}
use Rattle.write_rule.specs.views.Seen.{Tells}
use Rattle.intent_resolve.specs.Resolve.{Update, resolve, resolve_range}
use Rattle.intent_resolve.specs.views.Seen.{refusal_of, ranged_of}
use Rattle.intent_resolve.specs.declared.fault.ResolveFault.{ResolveFault}
use Rattle.intent_resolve.specs.declared.ranged.Ranged.{Ranged}

-- the resolution of the key is taken with this answer, and the change is that from the history to the one after it
pub record IsPlannedResolve (h : History) (last : ℕ) (key : Key) (u : Update) (change : Change) (answer : Bool) : Type 0 where
  pub after : History
  pub taken : resolve h key u ≡ Ok (record { history = after; answer = answer })
  pub change_is : IsPointChange last h after change

-- a resolution is planned as the rule says, or refused with the rule's refusal; nothing is said where memory was wanting
abbrev pub Answers : Result (Change × Bool) ResolveFault → History → ℕ → Key → Update → Type 0
Answers (Ok planned) h last key u = IsPlannedResolve h last key u planned.0 planned.1
Answers (Err why) h last key u = Tells (refusal_of why) (resolve h key u)

-- the resolution of the span is taken with this answer, and the change is that from the history to the one after it
pub record IsPlannedRange (h : History) (last : ℕ) (start end : Key) (u : Update) (max : Option ℕ) (change : Change) (answer : spans.Ranged) : Type 0 where
  pub after : History
  pub taken : resolve_range h start end u max ≡ Ok (record { history = after; answer = answer })
  pub change_is : IsPointChange last h after change

-- so is the resolution of a span planned, or refused
abbrev pub AnswersRange : Result (Change × Ranged) ResolveFault → History → ℕ → Key → Key → Update → Option ℕ → Type 0
AnswersRange (Ok planned) h last start end u max = IsPlannedRange h last start end u max planned.0 (ranged_of planned.1)
AnswersRange (Err why) h last start end u max = Tells (refusal_of why) (resolve_range h start end u max)
