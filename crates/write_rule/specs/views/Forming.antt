-- How contracts see the value that a write forms.
use Rattle.std.specs.Prelude.{◌≡◌, true, not, Option, Result, Ok}
use Rattle.mvcc_key.specs.Steps.{◌>>=◌, unless_fault}
use Rattle.mvcc_key.specs.History.{Body, Bytes}
use Rattle.mvcc_key.specs.Refusal.{Refusal, ConditionFailed, NotInteger, IntegerOverflow}
use Rattle.mvcc_value.specs.views.Seen.{seen_body}
use Rattle.write_rule.specs.Write.{WriteKind, new_body, meets_condition, answer_to, is_body}
use Rattle.write_rule.specs.views.Seen.{answer_of}
use Rattle.write_rule.specs.declared.change.WriteAnswer.{WriteAnswer}
use Rattle.write_rule.specs.declared.forming.Formed.{Formed}
use Rattle.write_rule.specs.declared.forming.NoSum.{NoSum}
use Rattle.write_rule.specs.declared.forming.NoSum.TheVariants as no_sum

-- the value that a write forms which was not made before: its condition is met, and its sum can be formed
abbrev pub first_body : WriteKind → Option Body → Result Body Refusal
first_body kind before = unless_fault (not (meets_condition kind before)) (ConditionFailed before) kind >>= λ met. new_body kind before

-- why an increment forms no number
abbrev pub refusal_of_sum : NoSum → Refusal
refusal_of_sum (no_sum.NotInteger bytes) = NotInteger (Bytes bytes.now)
refusal_of_sum (no_sum.Overflow old by) = IntegerOverflow old by

-- the body, and the answer that goes with it
pub record Forms (formed : Result Body Refusal) (kind : WriteKind) (before : Option Body) (f : Formed) : Type 0 where
  pub body : formed ≡ Ok (seen_body f.body)
  pub answer : answer_of f.answer ≡ answer_to kind before (seen_body f.body)

-- the value that is formed is this one, and the answer goes with it
pub record IsAnswerAgain (kind : WriteKind) (before : Option Body) (body : Body) (answer : WriteAnswer) : Type 0 where
  pub same : is_body (new_body kind before) body ≡ true
  pub answered : answer_of answer ≡ answer_to kind before body
