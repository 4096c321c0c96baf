-- Histories that are alike answer every write alike, and stay alike.
use Rattle.std.specs.Prelude.{◌≡◌, Bool, true, false, Option, Some, None, Result, Ok, Err, nat_lt, length, not}
use Rattle.std.proofs.Common.{refl, ap, subst}
use Rattle.mvcc_key.specs.Steps.{unless_fault}
use Rattle.mvcc_key.specs.Order.{Timestamp, Key}
use Rattle.mvcc_key.specs.Limits.{max_stored_length}
use Rattle.mvcc_key.specs.History.{Body, Intent, History, Changed, with_intent, intent_of}
use Rattle.mvcc_key.specs.Items.{newest}
use Rattle.mvcc_key.specs.Refusal.{Refusal, ConditionFailed, IntentTooLong}
use Rattle.intent_meta.specs.Record.{record_bytes}
use Rattle.intent_meta.specs.StoredPairs.{intent_record}
use Rattle.intent_meta.specs.Alike.{AreAlike, EndAlike, ChangedAlike}
use Rattle.intent_meta.proofs.AlikeLaws.{intent_of-alike, items-alike, with_version-alike, with_intent-alike}
use Rattle.intent_meta.proofs.EndLaws.{end-then, end-after}
use Rattle.txn_state.specs.Transaction.{Txn, Actor, At, In}
use Rattle.write_rule.specs.Write.{WriteRequest, WriteAnswer, own_intent, own_entry, entry_or_item, value_before, new_body, meets_condition, answer_to, checked, past_any_intent, replayed, first_write, replay, past_newest, new_intent, new_version, with_new_intent, written, first_time, unchanged, first_or_replay, write}
use Rattle.write_rule.specs.Laws.{AlikeWriteAlike}

module _ {h k : History} (a : AreAlike h k) where
  -- they have the same value before a write
  pub value_before-alike : (who : Actor) (key : Key) → value_before h who key ≡ value_before k who key
  unfolding value_before
  value_before-alike who key =
      λ i. entry_or_item (own_entry (own_intent (intent_of-alike a key i) who)) (newest (items-alike a key i))

  -- a value that is written leaves them alike
  with_new_intent-alike : (i : Intent) → EndAlike AreAlike (with_new_intent i h) (with_new_intent i k)
  with_new_intent-alike i = by (nat_lt max_stored_length (length (record_bytes (intent_record i))))
    where
      by : (t : Bool) → EndAlike AreAlike
          (unless_fault t (IntentTooLong (length (record_bytes (intent_record i)))) (with_intent i h))
          (unless_fault t (IntentTooLong (length (record_bytes (intent_record i)))) (with_intent i k))
      by true = refl
      by false = with_intent-alike a i

  -- so does a version or an intent
  written-alike : (key : Key) (who : Actor) (local : Timestamp) (body : Body) → EndAlike AreAlike (written h key who local body) (written k key who local body)
  written-alike key (At ts) local body = with_version-alike a (new_version key ts local body)
  written-alike key (In t) local body =
      subst (λ old. EndAlike AreAlike (written h key (In t) local body) (with_new_intent (new_intent key t old local body) k))
      (intent_of-alike a key)
      (with_new_intent-alike (new_intent key t (intent_of key h) local body))

  -- a write that is no replay is answered alike
  first_time-alike : (key : Key) (w : WriteRequest) (before : Option Body) → EndAlike ChangedAlike (first_time h key w before) (first_time k key w before)
  first_time-alike key w before =
      end-after ChangedAlike (ap (λ is. past_newest (newest is) w) (items-alike a key)) _ _ (λ recent.
      end-after ChangedAlike {r = unless_fault (not (meets_condition w.kind before)) (ConditionFailed before) w} refl _ _ (λ met.
      end-after ChangedAlike {r = new_body w.kind before} refl _ _ (λ body.
      end-then AreAlike ChangedAlike (written h key w.who w.local body) (written k key w.who w.local body) (done body) (done body)
      (written-alike key w.who w.local body) (λ x y b. record { history = b; answer = refl }))))
    where
      done : Body → History → Result (Changed WriteAnswer) Refusal
      done body after = Ok (record { history = after; answer = answer_to w.kind before body })

  -- so is a replay
  first_or_replay-alike : (key : Key) (w : WriteRequest) (before : Option Body) (own : Option (Txn × Intent))
      → EndAlike ChangedAlike (first_or_replay h key w before own) (first_or_replay k key w before own)
  first_or_replay-alike key w before None = first_time-alike key w before
  first_or_replay-alike key w before (Some own) = by (replay w.kind before (own.0).sequence (first_write own.0 own.1))
    where
      by : (r : Result WriteAnswer Refusal) → EndAlike ChangedAlike (unchanged h r) (unchanged k r)
      by (Ok answer) = record { history = a; answer = refl }
      by (Err why) = refl

  -- so every write is answered alike, and leaves them alike
  pub write-alike : (key : Key) (w : WriteRequest) → EndAlike ChangedAlike (write h key w) (write k key w)
  unfolding write
  write-alike key w =
      end-after ChangedAlike {r = checked key w} refl _ _ (λ sound.
      end-after ChangedAlike (ap (λ i. past_any_intent i w) (intent_of-alike a key)) _ _ (λ free.
      subst (λ (own : Option Body × Option (Txn × Intent)). EndAlike ChangedAlike
      (first_or_replay h key w (value_before h w.who key) (own_before h))
      (first_or_replay k key w own.0 own.1))
      (λ i. (value_before-alike w.who key i, replayed (own_intent (intent_of-alike a key i) w.who)))
      (first_or_replay-alike key w (value_before h w.who key) (own_before h))))
    where
      own_before : History → Option (Txn × Intent)
      own_before x = replayed (own_intent (intent_of key x) w.who)

-- which is so of all that are alike
pub alike_write_alike : AlikeWriteAlike
alike_write_alike h k a = write-alike a
