-- What a planned resolution does to the state.
use Rattle.std.specs.Prelude.{◌≡◌, ℕ, Bool, List, Option, Some, None, Result, Ok, Err}
use Rattle.std.proofs.Common.{refl, sym, ap, subst}
use Rattle.mvcc_key.specs.Refusal.{Refusal}
use Rattle.mvcc_key.specs.Order.{Key}
use Rattle.mvcc_key.specs.Spans.{Ranged}
use Rattle.mvcc_key.specs.History.{History, Changed}
use Rattle.run_block.specs.RunFormat.{Run}
use Rattle.stat_core.specs.Running.{Running}
use Rattle.stat_delta.specs.PointChange.{IsPointChange}
use Rattle.stat_delta.specs.declared.change.Change.{Change}
use Rattle.write_rule.specs.views.Seen.{Tells}
use Rattle.intent_resolve.specs.Resolve.{Update, resolve, resolve_range}
use Rattle.intent_resolve.specs.Planned.{IsPlannedResolve, IsPlannedRange}
use Rattle.intent_resolve.specs.views.Seen as planned
use Rattle.intent_resolve.specs.declared.fault.ResolveFault.{ResolveFault}
use Rattle.intent_resolve.specs.declared.fault.ResolveFault.TheVariants as fault
use Rattle.mvcc_cursor.specs.WellFormed.{history_in}
use Rattle.mvcc_engine.specs.Step.{State, Reply, Resolve, ResolveRange, WasFound, Took, Stepped, change, step}
use Rattle.mvcc_engine.specs.views.Seen.{refusal_of, as_resolve_refusal}
use Rattle.mvcc_engine.specs.views.Sound.{state_of}
use Rattle.mvcc_engine.specs.views.Taking.{IsPlanned, changed_to}

-- a fault of a planned resolution is the refusal that it is as
refusal-same : (why : ResolveFault) → refusal_of (as_resolve_refusal why) ≡ planned.refusal_of why
refusal-same fault.OutOfMemory = refl
refusal-same fault.BadSpan = refl
refusal-same (fault.CommitBelowIntent ts) = refl

-- a change that its rule refuses is refused so
change-tells : {A : Type 0} (s : State) (reply : A → Reply) (r : Result (Changed A) Refusal) (o : Option Refusal) → Tells o r → Tells o (change s reply r)
change-tells s reply r None told = tt
change-tells s reply r (Some why) told = ap (change s reply) told

-- what is refused as planned is refused as the engine tells it
told-same : {A : Type 0} (s : State) (reply : A → Reply) (r : Result (Changed A) Refusal) (why : ResolveFault) → Tells (planned.refusal_of why) r → Tells (refusal_of (as_resolve_refusal why)) (change s reply r)
told-same s reply r why told =
    subst (λ o. Tells o (change s reply r)) (sym (refusal-same why)) (change-tells s reply r (planned.refusal_of why) told)

module _ (store : List Run) (r : Running) (s : State) (view : state_of store r ≡ s) (last : ℕ) (last_is : last ≡ r.last) where
  -- a change that is planned over the store is one of the state's history
  pub of-state : (after : History) (c : Change) → IsPointChange last (history_in store) after c → IsPointChange s.last s.history after c
  of-state after c is =
      subst (λ t. IsPointChange t.last t.history after c) view (subst (λ m. IsPointChange m (history_in store) after c) last_is is)

  module _ (key : Key) (u : Update) where
    -- a refusal of the plan
    pub resolve-refused : (why : ResolveFault) → Tells (planned.refusal_of why) (resolve (history_in store) key u) → Tells (refusal_of (as_resolve_refusal why)) (step s (Resolve key u))
    unfolding step
    resolve-refused why told =
        told-same s WasFound (resolve s.history key u) why (subst (λ t. Tells (planned.refusal_of why) (resolve t.history key u)) view told)

    module _ (c : Change) (found : Bool) (plan : IsPlannedResolve (history_in store) last key u c found) where
      -- the change can be taken up
      pub resolve-planned : IsPlanned s c
      resolve-planned = record { after = plan.after; change_is = of-state plan.after c plan.change_is }

      -- and the step is to take it up
      pub resolve-is : changed_to s plan.after (WasFound found) ≡ step s (Resolve key u)
      unfolding step
      resolve-is =
          let taken : resolve s.history key u ≡ Ok (record { history = plan.after; answer = found }) =
          subst (λ t. resolve t.history key u ≡ Ok (record { history = plan.after; answer = found })) view plan.taken in
          sym (ap (change s WasFound) taken)

  module _ (start end : Key) (u : Update) (max : Option ℕ) where
    -- a refusal of the plan
    pub range-refused : (why : ResolveFault) → Tells (planned.refusal_of why) (resolve_range (history_in store) start end u max)
        → Tells (refusal_of (as_resolve_refusal why)) (step s (ResolveRange start end u max))
    unfolding step
    range-refused why told =
        told-same s Took (resolve_range s.history start end u max) why (subst (λ t. Tells (planned.refusal_of why) (resolve_range t.history start end u max)) view told)

    module _ (c : Change) (ranged : Ranged) (plan : IsPlannedRange (history_in store) last start end u max c ranged) where
      -- the change can be taken up
      pub range-planned : IsPlanned s c
      range-planned = record { after = plan.after; change_is = of-state plan.after c plan.change_is }

      -- and the step is to take it up
      pub range-is : changed_to s plan.after (Took ranged) ≡ step s (ResolveRange start end u max)
      unfolding step
      range-is =
          let taken : resolve_range s.history start end u max ≡ Ok (record { history = plan.after; answer = ranged }) =
          subst (λ t. resolve_range t.history start end u max ≡ Ok (record { history = plan.after; answer = ranged })) view plan.taken in
          sym (ap (change s Took) taken)
