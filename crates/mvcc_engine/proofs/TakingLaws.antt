-- What a change that is taken up does to the state.
use Rattle.std.specs.Prelude.{◌≡◌, ◌≤◌, List, Some, None, Ok, Err}
use Rattle.std.proofs.Common.{sym, ap, ap₂, ◌∙◌, subst}
use Rattle.mvcc_key.specs.Refusal.{CountOverflow}
use Rattle.mvcc_key.specs.History.{History}
use Rattle.mvcc_key.specs.Field.{Field}
use Rattle.mvcc_key.specs.views.SeenPoint.{points_of}
use Rattle.mvcc_key.specs.views.SeenRange.{range_ops_of}
use Rattle.range_key.specs.RangeOps.{fragments_after}
use Rattle.run_block.specs.RunFormat.{Run}
use Rattle.lsm_store.specs.Parts.{after_batch}
use Rattle.lsm_store.specs.Shown.{shown, fragments_in, parts_of, stage_of, with_batch}
use Rattle.stat_core.specs.Running.{Running}
use Rattle.stat_core.specs.ComputeStats.{overflowing}
use Rattle.stat_core.specs.Settling.{NoDebt, settled_number, settled_stats}
use Rattle.stat_delta.specs.PointChange.{IsPointChange}
use Rattle.stat_delta.specs.declared.change.Change.{Change}
use Rattle.mvcc_cursor.specs.WellFormed.{history_in}
use Rattle.mvcc_engine.specs.Step.{State, Reply, stage, settled, parts_after}
use Rattle.mvcc_engine.specs.views.Sound.{IsSound, state_of}
use Rattle.mvcc_engine.specs.views.Taking.{IsPlanned, changed_to}
use Rattle.mvcc_engine.proofs.SoundLaws.{counted, up, settled-no_debt, settled-is, formed_after, history-after, sound-after}
use Rattle.mvcc_engine.proofs.StepLaws.{settled-over, settled-within}

module _ (store : List Run) (r : Running) (sound : IsSound store r) (s : State) (view : state_of store r ≡ s) (change : Change) where
  module _ (after : History) (is : IsPointChange s.last s.history after change) where
    -- the change is one of the store's history
    is_change : IsPointChange r.last (history_in store) after change
    is_change = subst (λ t. IsPointChange t.last t.history after change) (sym view) is

    -- the settled statistics are a recount
    counted_is : settled_stats r change.delta change.last ≡ counted r change.last after
    counted_is = settled-is store r sound after change is_change

    -- a statistic passes the bound
    pub take-over : (reply : Reply) (f : Field) → Some f ≡ overflowing r.count_max (settled_stats r change.delta change.last).sums → changed_to s after reply ≡ Err (CountOverflow f)
    take-over reply f over =
        let t : State = state_of store r in
        subst (λ t. changed_to t after reply ≡ Err (CountOverflow f)) view
        (subst (λ m. settled t after m (parts_after t after) reply ≡ Err (CountOverflow f)) is_change.moment
        (settled-over t after change.last (parts_after t after) reply f (over ∙ ap (λ q. overflowing r.count_max q.sums) counted_is)))

    module _ (new : List Run) (r' : Running) (settled_is : r' ≡ settled_stats r change.delta change.last)
        (shown_is : shown new ≡ with_batch (points_of change.batch.points) (shown store)) (fragments_are : fragments_in new ≡ fragments_after (fragments_in store) (range_ops_of change.batch.ranges)) where
      -- what is taken up is sound
      sound-taken : IsSound new r'
      sound-taken = subst (IsSound new) (sym (settled_is ∙ counted_is)) (sound-after store new r sound after change is_change shown_is fragments_are)

      stage-before : stage_of store ≡ stage (history_in store)
      stage-before = λ i. record { pairs = (sound.formed).pairs i; fragments = (sound.formed).fragments i }

      stage-after : stage_of new ≡ stage after
      stage-after =
          let formed = formed_after store new r sound after change is_change shown_is fragments_are in
          λ i. record { pairs = formed.pairs i; fragments = formed.fragments i }

      -- and is the state that the change leads to
      pub take-taken : (reply : Reply) → None ≡ overflowing r.count_max (settled_stats r change.delta change.last).sums → parts_of new ≡ after_batch (stage_of store) (stage_of new) (parts_of store)
          → changed_to s after reply ≡ Ok (record { state = state_of new r'; reply = reply })
      take-taken reply fits parts =
          let t : State = state_of store r in
          let back : history_in new ≡ after = history-after store new r sound after change is_change shown_is fragments_are in
          let stats_are : r' ≡ counted r change.last after = settled_is ∙ counted_is in
          let parts_are : parts_of new ≡ parts_after t after = parts ∙ ap₂ (λ a b. after_batch a b (parts_of store)) stage-before stage-after in
          let state_is : record { history = after; last = change.last; count_max = r.count_max; parts = parts_after t after } ≡ state_of new r' =
          λ i. record { history = (sym back) i; last = ((sym stats_are) i).last; count_max = ((sym stats_are) i).count_max; parts = (sym parts_are) i } in
          subst (λ t. changed_to t after reply ≡ Ok (record { state = state_of new r'; reply = reply })) view
          (subst (λ m. settled t after m (parts_after t after) reply ≡ Ok (record { state = record { history = after; last = change.last; count_max = r.count_max; parts = parts_after t after }; reply = reply })) is_change.moment
          (settled-within t after change.last (parts_after t after) reply (fits ∙ ap (λ q. overflowing r.count_max q.sums) counted_is))
          ∙ ap (λ t. Ok (record { state = t; reply = reply })) state_is)

  module _ (planned : IsPlanned s change) where
    -- the statistics can be settled
    pub take-up : r.last ≤ change.last
    take-up = up store r sound planned.after change (is_change planned.after planned.change_is)

    pub take-no_debt : NoDebt (settled_number r change.delta change.last)
    take-no_debt = settled-no_debt store r sound planned.after change (is_change planned.after planned.change_is)

    -- what is taken up is sound
    pub take-sound : (new : List Run) (r' : Running) → r' ≡ settled_stats r change.delta change.last → shown new ≡ with_batch (points_of change.batch.points) (shown store)
        → fragments_in new ≡ fragments_after (fragments_in store) (range_ops_of change.batch.ranges) → IsSound new r'
    take-sound new r' settled_is shown_is fragments_are = sound-taken planned.after planned.change_is new r' settled_is shown_is fragments_are
