-- The answer to a write is one to its kind.
use Rattle.std.specs.Prelude.{ℕ, Bool, true, false, not, Option, Some, None, is_some, Result, Ok, Err, IfOk}
use Rattle.std.proofs.Common.{refl}
use Rattle.mvcc_key.specs.Steps.{◌>>=◌, unless_fault}
use Rattle.mvcc_key.specs.Order.{Key}
use Rattle.mvcc_key.specs.History.{Body, Entry, Intent, History, Changed, intent_of}
use Rattle.mvcc_key.specs.Items.{items, newest}
use Rattle.mvcc_key.specs.Refusal.{ReplayMismatch, ConditionFailed}
use Rattle.txn_state.specs.Transaction.{Txn}
use Rattle.write_rule.specs.Write.{WriteKind, Put, Delete, ConditionalPut, InitPut, Increment, WriteRequest, WriteAnswer, checked, past_any_intent, past_newest, meets_condition, new_body, written, answer_to, number_in, is_body, replay, first_write, unchanged, first_time, first_or_replay, replayed, own_intent, value_before, write}
use Rattle.mvcc_engine.specs.views.Seen.{IsAnswerTo}

-- what holds after each way through two steps holds after both
after_step : {A B E : Type 0} (P : B → Type 0) (r : Result A E) (f : A → Result B E) → ((a : A) → IfOk (f a) P) → IfOk (r >>= f) P
after_step P (Ok a) f all = all a
after_step P (Err e) f all = tt

-- what may be refused holds where it is not
unless : {A E : Type 0} (P : A → Type 0) (b : Bool) (e : E) (a : A) → P a → IfOk (unless_fault b e a) P
unless P true e a holds = tt
unless P false e a holds = holds

-- the answer to a kind is one
answer_to-is : (kind : WriteKind) (before : Option Body) (new : Body) → IsAnswerTo kind (answer_to kind before new)
answer_to-is (Put body) before new = refl
answer_to-is Delete before new = (is_some before, refl)
answer_to-is (ConditionalPut body expected) before new = refl
answer_to-is (InitPut body) before new = refl
answer_to-is (Increment by) before new = (number_in new, refl)

module _ (h : History) (key : Key) (w : WriteRequest) where
  abbrev IsTaken : Changed WriteAnswer → Type 0
  IsTaken c = IsAnswerTo w.kind c.answer

  -- of a write that is no replay
  first-answer : (before : Option Body) → IfOk (first_time h key w before) IsTaken
  first-answer before =
      after_step IsTaken (past_newest (newest (items h key)) w) _ (λ recent.
      after_step IsTaken (unless_fault (not (meets_condition w.kind before)) (ConditionFailed before) w) _ (λ met.
      after_step IsTaken (new_body w.kind before) _ (λ body.
      after_step IsTaken (written h key w.who w.local body) _ (λ after. answer_to-is w.kind before body))))

  -- of a replay
  replay-answer : (before : Option Body) (sequence : ℕ) (e : Option (Entry Body)) → IfOk (unchanged h (replay w.kind before sequence e)) IsTaken
  replay-answer before sequence None = tt
  replay-answer before sequence (Some e) = by (not (is_body (new_body w.kind before) e.value))
    where
      by : (b : Bool) → IfOk (unchanged h (unless_fault b (ReplayMismatch e.value) (answer_to w.kind before e.value))) IsTaken
      by true = tt
      by false = answer_to-is w.kind before e.value

  either-answer : (before : Option Body) (own : Option (Txn × Intent)) → IfOk (first_or_replay h key w before own) IsTaken
  either-answer before None = first-answer before
  either-answer before (Some own) = replay-answer before (own.0).sequence (first_write own.0 own.1)

  -- of every write
  pub write-answer : IfOk (write h key w) IsTaken
  unfolding write
  write-answer =
      after_step IsTaken (checked key w) _ (λ sound.
      after_step IsTaken (past_any_intent (intent_of key h) w) _ (λ free.
      either-answer (value_before h w.who key) (replayed (own_intent (intent_of key h) w.who))))
