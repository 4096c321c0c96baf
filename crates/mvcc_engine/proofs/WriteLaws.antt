-- What a planned write does to the state.
use Rattle.std.specs.Prelude.{◌≡◌, ℕ, ◌≤◌, List, Option, Some, None, Ok, Err}
use Rattle.std.proofs.Common.{refl, sym, ap, ap₂, ◌∙◌, subst}
use Rattle.std.proofs.lemmas.Result.{IfOk-at_ok}
use Rattle.mvcc_key.specs.Refusal.{Refusal, CountOverflow}
use Rattle.mvcc_key.specs.Order.{Key}
use Rattle.mvcc_key.specs.Field.{Field}
use Rattle.mvcc_key.specs.Fragments.{fragments}
use Rattle.mvcc_key.specs.views.SeenPoint.{points_of}
use Rattle.mvcc_key.specs.views.SeenRange.{range_ops_of}
use Rattle.range_key.specs.RangeOps.{fragments_after}
use Rattle.run_block.specs.RunFormat.{Run}
use Rattle.lsm_store.specs.Parts.{after_batch}
use Rattle.lsm_store.specs.Shown.{shown, fragments_in, parts_of, stage_of, with_batch}
use Rattle.stat_core.specs.Running.{Running}
use Rattle.stat_core.specs.ComputeStats.{overflowing}
use Rattle.stat_core.specs.Settling.{NoDebt, settled_number, settled_stats}
use Rattle.stat_delta.specs.PointChange.{IsPointChange}
use Rattle.stat_delta.specs.declared.change.Change.{Change}
use Rattle.write_rule.specs.Write.{WriteRequest, write}
use Rattle.write_rule.specs.views.Seen.{answer_of, Tells}
use Rattle.write_rule.specs.views.Seen as written
use Rattle.write_rule.specs.declared.change.WriteAnswer.{WriteAnswer}
use Rattle.write_rule.specs.declared.fault.WriteFault.{WriteFault}
use Rattle.write_rule.specs.declared.fault.WriteFault.TheVariants as fault
use Rattle.mvcc_cursor.specs.WellFormed.{history_in}
use Rattle.mvcc_put.specs.PlannedPut.{IsPlannedPut}
use Rattle.mvcc_engine.specs.Step.{State, Write, Wrote, stage, step}
use Rattle.mvcc_engine.specs.views.Seen.{refusal_of, as_put_refusal, IsAnswerTo}
use Rattle.mvcc_engine.specs.views.Sound.{IsSound, state_of}
use Rattle.mvcc_engine.proofs.AnswerLaws.{write-answer}
use Rattle.mvcc_engine.proofs.SoundLaws.{counted, up, settled-no_debt, settled-is, formed_after, history-after, sound-after}
use Rattle.mvcc_engine.proofs.StepLaws.{write-refused, write-over, write-taken}

-- a fault of a planned write is the refusal that it is as
refusal-same : (why : WriteFault) → refusal_of (as_put_refusal why) ≡ written.refusal_of why
refusal-same fault.OutOfMemory = refl
refusal-same fault.EmptyKey = refl
refusal-same (fault.KeyTooLong length) = refl
refusal-same (fault.ValueTooLong length) = refl
refusal-same fault.BadTimestamp = refl
refusal-same (fault.Conflict intents) = refl
refusal-same (fault.EpochFault own other) = refl
refusal-same (fault.ReplayMissing sequence) = refl
refusal-same (fault.ReplayMismatch stored) = refl
refusal-same (fault.TooOld existing) = refl
refusal-same (fault.ConditionFailed actual) = refl
refusal-same (fault.NotInteger actual) = refl
refusal-same (fault.IntegerOverflow old by) = refl
refusal-same (fault.IntentTooLong length) = refl

-- a write that its rule refuses is refused so
tells-step : (s : State) (key : Key) (w : WriteRequest) (o : Option Refusal) → Tells o (write s.history key w) → Tells o (step s (Write key w))
tells-step s key w None told = tt
tells-step s key w (Some why) told = write-refused s key w why told

module _ (store : List Run) (r : Running) (sound : IsSound store r) (s : State) (view : state_of store r ≡ s) (last : ℕ) (last_is : last ≡ r.last) where
  module _ (key : Key) (w : WriteRequest) where
    -- a refusal of the plan
    pub plan-refused : (why : WriteFault) → Tells (written.refusal_of why) (write (history_in store) key w) → Tells (refusal_of (as_put_refusal why)) (step s (Write key w))
    plan-refused why told =
        subst (λ t. Tells (refusal_of (as_put_refusal why)) (step t (Write key w))) view
        (subst (λ o. Tells o (step (state_of store r) (Write key w))) (sym (refusal-same why)) (tells-step (state_of store r) key w (written.refusal_of why) told))

    module _ (change : Change) (answer : WriteAnswer) (planned : IsPlannedPut (history_in store) last key w change answer) where
      is_change : IsPointChange r.last (history_in store) planned.after change
      is_change = subst (λ m. IsPointChange m (history_in store) planned.after change) last_is planned.change_is

      -- the statistics can be settled
      pub plan-up : r.last ≤ change.last
      plan-up = up store r sound planned.after change is_change

      pub plan-no_debt : NoDebt (settled_number r change.delta change.last)
      plan-no_debt = settled-no_debt store r sound planned.after change is_change

      counted_is : settled_stats r change.delta change.last ≡ counted r change.last planned.after
      counted_is = settled-is store r sound planned.after change is_change

      -- a statistic passes the bound
      pub plan-over : (f : Field) → Some f ≡ overflowing r.count_max (settled_stats r change.delta change.last).sums → step s (Write key w) ≡ Err (CountOverflow f)
      plan-over f over =
          subst (λ t. step t (Write key w) ≡ Err (CountOverflow f)) view
          (write-over (state_of store r) key w planned.after (answer_of answer) planned.taken change.last is_change.moment f (over ∙ ap (λ q. overflowing r.count_max q.sums) counted_is))

      -- the answer is one to the kind
      pub plan-answers : IsAnswerTo w.kind (answer_of answer)
      plan-answers = IfOk-at_ok (λ c. IsAnswerTo w.kind c.answer) planned.taken (write-answer (history_in store) key w)

      module _ (new : List Run) (r' : Running) (settled : r' ≡ settled_stats r change.delta change.last)
          (shown_is : shown new ≡ with_batch (points_of change.batch.points) (shown store)) (fragments_are : fragments_in new ≡ fragments_after (fragments_in store) (range_ops_of change.batch.ranges)) where
        -- what is taken is sound
        pub taken-sound : IsSound new r'
        taken-sound = subst (IsSound new) (sym (settled ∙ counted_is)) (sound-after store new r sound planned.after change is_change shown_is fragments_are)

        stage-before : stage_of store ≡ stage (history_in store)
        stage-before = λ i. record { pairs = (sound.formed).pairs i; fragments = (sound.formed).fragments i }

        stage-after : stage_of new ≡ stage planned.after
        stage-after =
            let formed = formed_after store new r sound planned.after change is_change shown_is fragments_are in
            λ i. record { pairs = formed.pairs i; fragments = formed.fragments i }

        -- and is the step
        pub taken-steps : None ≡ overflowing r.count_max (settled_stats r change.delta change.last).sums → parts_of new ≡ after_batch (stage_of store) (stage_of new) (parts_of store)
            → step s (Write key w) ≡ Ok (record { state = state_of new r'; reply = Wrote (answer_of answer) })
        taken-steps fits parts =
            let back : history_in new ≡ planned.after = history-after store new r sound planned.after change is_change shown_is fragments_are in
            let stats_are : r' ≡ counted r change.last planned.after = settled ∙ counted_is in
            let parts_are : parts_of new ≡ after_batch (stage (history_in store)) (stage planned.after) (parts_of store) =
            parts ∙ ap₂ (λ a b. after_batch a b (parts_of store)) stage-before stage-after in
            let state_is : record { history = planned.after; last = change.last; count_max = r.count_max; parts = after_batch (stage (history_in store)) (stage planned.after) (parts_of store) } ≡ state_of new r' =
            λ i. record { history = (sym back) i; last = ((sym stats_are) i).last; count_max = ((sym stats_are) i).count_max; parts = (sym parts_are) i } in
            subst (λ t. step t (Write key w) ≡ Ok (record { state = state_of new r'; reply = Wrote (answer_of answer) })) view
            (write-taken (state_of store r) key w planned.after (answer_of answer) planned.taken change.last is_change.moment (fits ∙ ap (λ q. overflowing r.count_max q.sums) counted_is)
            ∙ ap (λ t. Ok (record { state = t; reply = Wrote (answer_of answer) })) state_is)
