-- What a command does to the state, by the store and the running statistics.
use Rattle.std.specs.Prelude.{◌≡◌, ℕ, ◌≤◌, ◌<◌, true, false, List, Some, None, Result, Ok, Err, OnOk, OnErr, ⊤, nat_lt}
use Rattle.std.proofs.Common.{refl, sym, ap, ◌∙◌, subst, arith}
use Rattle.std.proofs.lemmas.Bool.Decides.{nat_tests}
use Rattle.mvcc_key.specs.History.{History}
use Rattle.mvcc_key.specs.Order.{Key}
use Rattle.mvcc_key.specs.Field.{Field}
use Rattle.mvcc_key.specs.Refusal.{Refusal, MomentTooEarly, CountOverflow}
use Rattle.mvcc_key.specs.declared.memory.OutOfMemory.{OutOfMemory}
use Rattle.stat_core.specs.ComputeStats.{overflowing}
use Rattle.stat_core.specs.Running.{Running}
use Rattle.stat_delta.specs.Moments.{stored_walls, greatest}
use Rattle.run_block.specs.RunFormat.{Run}
use Rattle.lsm_store.specs.Parts.{Part, flushed, compacted}
use Rattle.lsm_store.specs.Shown.{shown, fragments_in, parts_of}
use Rattle.write_rule.specs.Write.{WriteRequest, WriteAnswer, write}
use Rattle.mvcc_engine.specs.Step.{State, Reply, Write, Age, Flush, Compact, Finished, Wrote, statistics, settled, parts_after, step}
use Rattle.mvcc_engine.specs.views.Seen.{AnswersUnlessFull}
use Rattle.mvcc_engine.specs.views.Sound.{state_of}
use Rattle.mvcc_engine.proofs.SoundLaws.{same-history}

-- a statistic passes the bound
pub settled-over : (s : State) (h : History) (now : ℕ) (parts : List Part) (reply : Reply) (f : Field) → Some f ≡ overflowing s.count_max (statistics now h) → settled s h now parts reply ≡ Err (CountOverflow f)
settled-over s h now parts reply f over = rw (sym over) refl

-- none does
pub settled-within : (s : State) (h : History) (now : ℕ) (parts : List Part) (reply : Reply) → None ≡ overflowing s.count_max (statistics now h)
    → settled s h now parts reply ≡ Ok (record { state = record { history = h; last = now; count_max = s.count_max; parts = parts }; reply = reply })
settled-within s h now parts reply fits = rw (sym fits) refl

-- a moment before the latest is refused
pub age-early : (s : State) (now : ℕ) → now < s.last → step s (Age now) ≡ Err (MomentTooEarly s.last)
unfolding step
age-early s now early = let is : nat_lt now s.last ≡ true = grind (arith, nat_tests) in rw is refl

module _ (s : State) (now : ℕ) (up : s.last ≤ now) where
  in_time : nat_lt now s.last ≡ false
  in_time = grind (arith, nat_tests)

  -- a statistic passes the bound at the moment
  pub age-over : (f : Field) → Some f ≡ overflowing s.count_max (statistics now s.history) → step s (Age now) ≡ Err (CountOverflow f)
  unfolding step
  age-over f over = rw in_time (settled-over s s.history now s.parts Finished f over)

  -- none passes it
  pub age-taken : None ≡ overflowing s.count_max (statistics now s.history)
      → step s (Age now) ≡ Ok (record { state = record { history = s.history; last = now; count_max = s.count_max; parts = s.parts }; reply = Finished })
  unfolding step
  age-taken fits = rw in_time (settled-within s s.history now s.parts Finished fits)

-- a flush and a compaction are answered as their steps say
module _ (old new : List Run) (r : Running) (s : State) (view : state_of old r ≡ s) where
  pub flush-answers : (result : Result ⊤ OutOfMemory) → shown new ≡ shown old → fragments_in new ≡ fragments_in old → OnOk result (parts_of new ≡ flushed (parts_of old)) → OnErr result (new ≡ old)
      → AnswersUnlessFull result (λ done. Finished) s (state_of new r) (step s Flush)
  unfolding step
  flush-answers (Ok done) same same' parts err =
      let taken : step (state_of old r) Flush ≡ Ok (record { state = state_of new r; reply = Finished }) =
      λ i. Ok (record { state = record { history = (sym (same-history old new same same')) i; last = r.last; count_max = r.count_max; parts = (sym parts) i }; reply = Finished }) in
      subst (λ t. step t Flush ≡ Ok (record { state = state_of new r; reply = Finished })) view taken
  flush-answers (Err why) same same' parts err = ap (λ h. state_of h r) err ∙ view

  pub compact-answers : (keep : ℕ) (result : Result ⊤ OutOfMemory) → shown new ≡ shown old → fragments_in new ≡ fragments_in old → OnOk result (parts_of new ≡ compacted keep (parts_of old)) → OnErr result (new ≡ old)
      → AnswersUnlessFull result (λ done. Finished) s (state_of new r) (step s (Compact keep))
  unfolding step
  compact-answers keep (Ok done) same same' parts err =
      let taken : step (state_of old r) (Compact keep) ≡ Ok (record { state = state_of new r; reply = Finished }) =
      λ i. Ok (record { state = record { history = (sym (same-history old new same same')) i; last = r.last; count_max = r.count_max; parts = (sym parts) i }; reply = Finished }) in
      subst (λ t. step t (Compact keep) ≡ Ok (record { state = state_of new r; reply = Finished })) view taken
  compact-answers keep (Err why) same same' parts err = ap (λ h. state_of h r) err ∙ view

-- ---- a write

module _ (s : State) (key : Key) (w : WriteRequest) where
  -- a write that its rule refuses is refused so
  pub write-refused : (why : Refusal) → write s.history key w ≡ Err why → step s (Write key w) ≡ Err why
  unfolding step
  write-refused why refused = rw refused refl

  module _ (after : History) (answer : WriteAnswer) (taken : write s.history key w ≡ Ok (record { history = after; answer = answer })) (now : ℕ) (moment : now ≡ greatest s.last (stored_walls after)) where
    -- one that makes a statistic pass the bound is refused with that
    pub write-over : (f : Field) → Some f ≡ overflowing s.count_max (statistics now after) → step s (Write key w) ≡ Err (CountOverflow f)
    unfolding step
    write-over f over = rw taken (subst (λ m. settled s after m (parts_after s after) (Wrote answer) ≡ Err (CountOverflow f)) moment (settled-over s after now (parts_after s after) (Wrote answer) f over))

    -- and else it is taken
    pub write-taken : None ≡ overflowing s.count_max (statistics now after)
        → step s (Write key w) ≡ Ok (record { state = record { history = after; last = now; count_max = s.count_max; parts = parts_after s after }; reply = Wrote answer })
    unfolding step
    write-taken fits =
        rw taken (subst (λ m. settled s after m (parts_after s after) (Wrote answer) ≡ Ok (record { state = record { history = after; last = now; count_max = s.count_max; parts = parts_after s after }; reply = Wrote answer }))
        moment (settled-within s after now (parts_after s after) (Wrote answer) fits))
