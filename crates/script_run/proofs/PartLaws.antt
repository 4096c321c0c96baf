-- Every state that a run comes to has a part.
use Rattle.std.specs.Prelude.{ℕ, ◌≤◌, Bool, true, false, List, [], ◌∷◌, length, Option, Some, None, Result, Ok, Err, IfOk, nat_lt, if◌then◌else◌}
use Rattle.std.proofs.Common.{sym, subst, arith}
use Rattle.std.proofs.lemmas.Result.{IfOk-at_ok}
use Rattle.mvcc_key.specs.Steps.{◌>>=◌, unless_fault}
use Rattle.mvcc_key.specs.History.{History, Changed}
use Rattle.mvcc_key.specs.Field.{Field}
use Rattle.mvcc_key.specs.Refusal as refusals
use Rattle.mvcc_key.specs.declared.memory.OutOfMemory.{OutOfMemory}
use Rattle.stat_core.specs.ComputeStats.{overflowing}
use Rattle.lsm_store.specs.Parts.{Part, Stage, after_batch, is_empty_part, empty_part, flushed, compacted}
use Rattle.read_rule.specs.Read.{get}
use Rattle.stat_delta.specs.Moments.{stored_walls, greatest}
use Rattle.write_rule.specs.Write.{write}
use Rattle.intent_resolve.specs.Resolve.{resolve, resolve_range}
use Rattle.mvcc_engine.specs.Step.{State, Command, Write, Resolve, ResolveRange, Age, Flush, Compact, Get, Stats, Layout, Reply, Finished, Wrote, WasFound, Took, Got, Stepped, statistics, unless_overflow, settled, parts_after, stage, read_at, change, step}
use Rattle.mvcc_engine.specs.views.Seen.{Answers, AnswersAge, AnswersUnlessFull}
use Rattle.mvcc_engine.specs.declared.refusal.Refusal.{Refusal}
use Rattle.mvcc_engine.specs.declared.refusal.AgeFault.{AgeFault}

-- there is a part
abbrev HasPart : State → Type 0
HasPart s = 1 ≤ length s.parts

abbrev LeavesPart : Stepped → Type 0
LeavesPart done = HasPart done.state

-- a memory table stays one
after_batch-part : (before after : Stage) (parts : List Part) → 1 ≤ length parts → 1 ≤ length (after_batch before after parts)
unfolding after_batch
after_batch-part before after [] some = some
after_batch-part before after (table ∷ runs) some = omega arith

flushed-part : (parts : List Part) → 1 ≤ length parts → 1 ≤ length (flushed parts)
unfolding flushed
flushed-part [] some = some
flushed-part (table ∷ runs) some = by (is_empty_part table)
  where
    by : (b : Bool) → 1 ≤ length (if b then table ∷ runs else empty_part table.closing ∷ table ∷ runs)
    by true = omega arith
    by false = omega arith

compacted-part : (keep : ℕ) (parts : List Part) → 1 ≤ length parts → 1 ≤ length (compacted keep parts)
unfolding compacted
compacted-part keep [] some = some
compacted-part keep (table ∷ runs) some = omega arith

-- what may be refused first
then-part : {A : Type 0} (r : Result A refusals.Refusal) (f : A → Result Stepped refusals.Refusal) → ((x : A) → IfOk (f x) LeavesPart) → IfOk (r >>= f) LeavesPart
then-part (Ok x) f each = each x
then-part (Err why) f each = tt

-- a state with these parts
settled-part : (s : State) (h : History) (now : ℕ) (parts : List Part) (reply : Reply) → 1 ≤ length parts → IfOk (settled s h now parts reply) LeavesPart
settled-part s h now parts reply some = by (overflowing s.count_max (statistics now h))
  where
    by : (o : Option Field) → IfOk (unless_overflow o (record { state = record { history = h; last = now; count_max = s.count_max; parts = parts }; reply = reply })) LeavesPart
    by None = some
    by (Some f) = tt

change-part : {A : Type 0} (s : State) (reply : A → Reply) (written : Result (Changed A) refusals.Refusal) → HasPart s → IfOk (change s reply written) LeavesPart
change-part s reply written some =
    then-part written (λ c. settled s c.history (greatest s.last (stored_walls c.history)) (parts_after s c.history) (reply c.answer))
    (λ c. settled-part s c.history (greatest s.last (stored_walls c.history)) (parts_after s c.history) (reply c.answer) (after_batch-part (stage s.history) (stage c.history) s.parts some))

-- a step leaves a part
step-part : (s : State) (c : Command) → HasPart s → IfOk (step s c) LeavesPart
unfolding step
step-part s (Write key request) some = change-part s Wrote (write s.history key request) some
step-part s (Resolve key update) some = change-part s WasFound (resolve s.history key update) some
step-part s (ResolveRange start end update max) some = change-part s Took (resolve_range s.history start end update max) some
step-part s (Age now) some =
    then-part (unless_fault (nat_lt now s.last) (refusals.MomentTooEarly s.last) now) (λ later. settled s s.history now s.parts Finished)
    (λ later. settled-part s s.history now s.parts Finished some)
step-part s Flush some = flushed-part s.parts some
step-part s (Compact keep) some = compacted-part keep s.parts some
step-part s (Get key ts) some = then-part (get s.history (read_at ts) key) (λ a. Ok (record { state = s; reply = Got a.found })) (λ a. some)
step-part s Stats some = some
step-part s Layout some = some

module _ (s s' : State) (c : Command) (some : HasPart s) where
  -- a call that is answered as its step says leaves a part
  pub answers-part : {A : Type 0} (r : Result A Refusal) (reply : A → Reply) → Answers r reply s s' (step s c) → HasPart s'
  answers-part (Ok a) reply is = IfOk-at_ok LeavesPart is (step-part s c some)
  answers-part (Err why) reply is = subst HasPart (sym is.0) some

  pub answers_age-part : {A : Type 0} (r : Result A AgeFault) → AnswersAge r s s' (step s c) → HasPart s'
  answers_age-part (Ok done) is = IfOk-at_ok LeavesPart is (step-part s c some)
  answers_age-part (Err why) is = subst HasPart (sym is.0) some

  pub answers_unless_full-part : {A : Type 0} (r : Result A OutOfMemory) (reply : A → Reply) → AnswersUnlessFull r reply s s' (step s c) → HasPart s'
  answers_unless_full-part (Ok a) reply is = IfOk-at_ok LeavesPart is (step-part s c some)
  answers_unless_full-part (Err why) reply is = subst HasPart (sym is) some
