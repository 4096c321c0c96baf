-- A write that is taken changes one key, and keeps a valid history valid.
use Rattle.std.proofs.Common.{◌≡◌, ℕ, ◌≤◌, Bool, true, false, length, Result, Ok, Err, refl, sym, ap, subst, arith}
use Rattle.std.specs.Prelude.{not, ◌==◌, nat_lt, if◌then◌else◌, Option, Some, None, IfSome, bytes_eq}
use Rattle.std.proofs.lemmas.Bool.{ltb-false, eqb-false}
use Rattle.std.proofs.lemmas.Slice.Eq.{bytes_eq-Decides}
use Rattle.mvcc_key.specs.Steps.{unless_fault}
use Rattle.mvcc_key.specs.Order.{Timestamp, is_in_range, is_before, is_up_to, is_no_time, Key}
use Rattle.mvcc_key.specs.Limits.{max_key_length, max_bytes_length, max_stored_length}
use Rattle.mvcc_key.specs.History.{Body, Intent, History, Changed, with_version, with_intent, intent_of}
use Rattle.mvcc_key.specs.Items.{Item, items, newest}
use Rattle.mvcc_key.specs.Refusal.{Refusal, EmptyKey, KeyTooLong, ValueTooLong, BadTimestamp, TooOld, ConditionFailed, IntentTooLong}
use Rattle.mvcc_key.proofs.ByteLaws.{bind_ok, unless_ok}
use Rattle.mvcc_key.proofs.TimeLaws.{up_to_itself, before_along, not_up_to}
use Rattle.mvcc_key.proofs.ItemLaws.{below_newest}
use Rattle.intent_meta.specs.Record.{record_bytes}
use Rattle.intent_meta.specs.StoredPairs.{intent_record}
use Rattle.intent_meta.specs.Valid.{IsStoredTime, IsStoredBody, IsStoredKey, IsValid}
use Rattle.intent_meta.specs.KeyChanges.{AreBelow, IsVersionOnTop, IsIntentInPlace, Change, Nothing, VersionOnTop, IntentInPlace}
use Rattle.intent_meta.proofs.StoredTimeLaws.{some_is_stored, kept_local-kept}
use Rattle.intent_meta.proofs.KeyChangeLaws.{change_keeps_valid}
use Rattle.txn_state.specs.Transaction.{Txn, Actor, At, In, read_time, write_time, own_txn}
use Rattle.write_rule.specs.Write.{WriteRequest, WriteAnswer, own_intent, value_before, new_body, meets_condition, given_length, answer_to, checked, past_intent, past_any_intent, replayed, first_write, replay, past_newest, new_intent, new_version, written, first_time, unchanged, first_or_replay, write}
use Rattle.write_rule.specs.Writable.{IsWriter, MayWrite, IsWritable}
use Rattle.write_rule.specs.Outcome.{IsFormed, Outcome, Replayed, Added, Left}
use Rattle.write_rule.specs.Laws.{WriteHasOutcome, WriteChangesOneKey, WriteKeepsValid}
use Rattle.write_rule.proofs.BodyLaws.{new_body-stored}
use Rattle.write_rule.proofs.IntentLaws.{raised_time-no_lower, new_intent-stored}

-- what is known of a request whose key, value and timestamp are what they must be
pub record IsChecked (key : Key) (w : WriteRequest) : Type 0 where
  pub key_stored : IsStoredKey key
  pub short : nat_lt max_bytes_length (given_length w.kind) ≡ false
  pub some_time : is_no_time (write_time w.who) ≡ false

-- a request that passes the first tests is one
pub checked-is : (key : Key) (w sound : WriteRequest) → checked key w ≡ Ok sound → IsChecked key w
checked-is key w sound e =
    let first = bind_ok (unless_fault (length key == 0) EmptyKey w) _ sound e in
    let second = bind_ok (unless_fault (nat_lt max_key_length (length key)) (KeyTooLong (length key)) w) _ sound first.2 in
    let third = bind_ok (unless_fault (nat_lt max_bytes_length (given_length w.kind)) (ValueTooLong (given_length w.kind)) w) _ sound second.2 in
    let fourth = unless_ok (is_no_time (write_time w.who)) BadTimestamp w sound third.2 in
    let some = unless_ok (length key == 0) EmptyKey w first.0 first.1 in
    let long = unless_ok (nat_lt max_key_length (length key)) (KeyTooLong (length key)) w second.0 second.1 in
    let small = unless_ok (nat_lt max_bytes_length (given_length w.kind)) (ValueTooLong (given_length w.kind)) w third.0 third.1 in
    let not_empty = eqb-false _ _ some.0 in
    let fits : length key ≤ max_key_length = ltb-false _ _ long.0 in
    record { key_stored = (omega arith, fits); short = small.0; some_time = fourth.0 }

-- a writer reads no later than it writes
reads_by_write : (who : Actor) → MayWrite who → is_up_to (read_time who) (write_time who) ≡ true
reads_by_write (At ts) may = up_to_itself ts
reads_by_write (In t) may = may.by_write

-- a write that is not too old is above all items
pub past_newest-below : (h : History) (key : Key) (w recent : WriteRequest) → MayWrite w.who → past_newest (newest (items h key)) w ≡ Ok recent → AreBelow (write_time w.who) (items h key)
past_newest-below h key w recent may e = below_newest h key (write_time w.who) (by (newest (items h key)) e)
  where
    by : (i : Option Item) → past_newest i w ≡ Ok recent → IfSome i (λ j. is_before j.ts (write_time w.who) ≡ true)
    by None p = tt
    by (Some i) p =
        let passed = unless_ok (is_up_to (read_time w.who) i.ts) (TooOld i.ts) w recent p in
        before_along i.ts (read_time w.who) (write_time w.who) (not_up_to (read_time w.who) i.ts passed.0) (reads_by_write w.who may)

-- outside transactions there is no intent to be past
pub no_intent-outside : (i : Option Intent) (ts : Timestamp) (w free : WriteRequest) → w.who ≡ At ts → past_any_intent i w ≡ Ok free → i ≡ None
no_intent-outside None ts w free outside e = refl
no_intent-outside (Some i) ts w free outside e =
    let none : own_txn i.id w.who ≡ None = ap (own_txn i.id) outside in
    let refused : past_intent i None w ≡ Ok free = subst (λ o. past_intent i o w ≡ Ok free) none e in
    absurd cc

-- in a transaction it is the transaction's own
pub own_intent-inside : (i : Option Intent) (t : Txn) (w free : WriteRequest) → w.who ≡ In t → past_any_intent i w ≡ Ok free → IfSome i (λ old. old.id ≡ t.id)
own_intent-inside None t w free inside e = tt
own_intent-inside (Some i) t w free inside e = by (bytes_eq t.id i.id) refl (subst (λ (who : Actor). past_intent i (own_txn i.id who) w ≡ Ok free) inside e)
  where
    by : (b : Bool) → bytes_eq t.id i.id ≡ b → past_intent i (if b then Some t else None) w ≡ Ok free → i.id ≡ t.id
    by true is p = sym ((bytes_eq-Decides t.id i.id).0 is)
    by false is p = absurd cc

-- ---- a write that is no replay

module _ (h : History) (key : Key) (key_stored : IsStoredKey key) (local : Timestamp) (local_fits : is_in_range local ≡ true) (body : Body) (body_stored : IsStoredBody body) where
  -- the version that a write adds is put on top
  pub new_version-on_top : (ts : Timestamp) → IsStoredTime ts → AreBelow ts (items h key) → intent_of key h ≡ None
      → IsVersionOnTop key h (with_version (new_version key ts local body) h) (new_version key ts local body)
  new_version-on_top ts time below no_intent = record {
    of_key = refl;
    stored = record { key = key_stored; ts = time; local = kept_local-kept local ts local_fits; body = body_stored };
    above_items = below;
    no_intent = no_intent;
    put = refl;
  }

  -- the intent that a write leaves is put in place
  pub new_intent-in_place : (t : Txn) → IsValid h → IsWriter t → IsStoredTime t.write_ts → AreBelow t.write_ts (items h key) → IfSome (intent_of key h) (λ old. old.id ≡ t.id)
      → replayed (own_intent (intent_of key h) (In t)) ≡ None → length (record_bytes (intent_record (new_intent key t (intent_of key h) local body))) ≤ max_stored_length
      → IsIntentInPlace key h (with_intent (new_intent key t (intent_of key h) local body) h) (new_intent key t (intent_of key h) local body)
  new_intent-in_place t valid writer time below own no_replay short = record {
    of_key = refl;
    stored = new_intent-stored h key t local body valid key_stored writer time local_fits body_stored below no_replay short;
    same_owner = own;
    no_lower = raised_time-no_lower t.write_ts (intent_of key h);
    put = refl;
  }

  -- outside transactions a write puts a version on top
  pub version_written : (ts : Timestamp) (after : History) → IsStoredTime ts → AreBelow ts (items h key) → intent_of key h ≡ None → written h key (At ts) local body ≡ Ok after
      → IsVersionOnTop key h after (new_version key ts local body)
  version_written ts after time below no_intent e =
      let is : with_version (new_version key ts local body) h ≡ after = cc in
      subst (λ g. IsVersionOnTop key h g (new_version key ts local body)) is (new_version-on_top ts time below no_intent)

  -- in a transaction it puts an intent in place
  pub intent_written : (t : Txn) (after : History) → IsValid h → IsWriter t → IsStoredTime t.write_ts → AreBelow t.write_ts (items h key) → IfSome (intent_of key h) (λ old. old.id ≡ t.id)
      → replayed (own_intent (intent_of key h) (In t)) ≡ None → written h key (In t) local body ≡ Ok after → IsIntentInPlace key h after (new_intent key t (intent_of key h) local body)
  intent_written t after valid writer time below own no_replay e =
      let new : Intent = new_intent key t (intent_of key h) local body in
      let size : ℕ = length (record_bytes (intent_record new)) in
      let passed = unless_ok (nat_lt max_stored_length size) (IntentTooLong size) (with_intent new h) after e in
      subst (λ g. IsIntentInPlace key h g new) passed.1 (new_intent-in_place t valid writer time below own no_replay (ltb-false _ _ passed.0))

-- either way that is its outcome
first_time-outcome : (h : History) (key : Key) (w free : WriteRequest) (c : Changed WriteAnswer) → IsValid h → IsWritable w → IsChecked key w
    → past_any_intent (intent_of key h) w ≡ Ok free → replayed (own_intent (intent_of key h) w.who) ≡ None → first_time h key w (value_before h w.who key) ≡ Ok c → Outcome h key w c
first_time-outcome h key w free c valid writable sound past no_replay e =
    let before : Option Body = value_before h w.who key in
    let recent = bind_ok (past_newest (newest (items h key)) w) _ c e in
    let met = bind_ok (unless_fault (not (meets_condition w.kind before)) (ConditionFailed before) w) _ c recent.2 in
    let body = bind_ok (new_body w.kind before) _ c met.2 in
    let after = bind_ok (written h key w.who w.local body.0) _ c body.2 in
    let is : record { history = after.0; answer = answer_to w.kind before body.0 } ≡ c = cc (after.2) in
    let body_stored : IsStoredBody body.0 = new_body-stored w.kind before body.0 writable.kind sound.short body.1 in
    let below : AreBelow (write_time w.who) (items h key) = past_newest-below h key w recent.0 writable.who recent.1 in
    let time : IsStoredTime (write_time w.who) = some_is_stored (write_time w.who) sound.some_time writable.time in
    subst (Outcome h key w) is (by_who w.who refl writable.who time below no_replay body.0 body_stored (record { formed = body.1; answered = refl }) after.0 after.1)
  where
    by_who : (who : Actor) → w.who ≡ who → MayWrite who → IsStoredTime (write_time who) → AreBelow (write_time who) (items h key) → replayed (own_intent (intent_of key h) who) ≡ None
        → (body : Body) → IsStoredBody body → IsFormed h key w (answer_to w.kind (value_before h w.who key) body) body → (after : History) → written h key who w.local body ≡ Ok after
        → Outcome h key w (record { history = after; answer = answer_to w.kind (value_before h w.who key) body })
    by_who (At ts) who_is may time below none body body_stored formed after e =
        Added ts body who_is formed
        (version_written h key sound.key_stored w.local writable.local body body_stored ts after time below (no_intent-outside (intent_of key h) ts w free who_is past) e)
    by_who (In t) who_is may time below none body body_stored formed after e =
        Left t body who_is formed
        (intent_written h key sound.key_stored w.local writable.local body body_stored t after valid may time below (own_intent-inside (intent_of key h) t w free who_is past) none e)

-- ---- a write

-- a replay changes nothing
pub unchanged-same : (h : History) (r : Result WriteAnswer Refusal) (c : Changed WriteAnswer) → unchanged h r ≡ Ok c → c.history ≡ h
unchanged-same h (Ok answer) c e = cc
unchanged-same h (Err why) c e = absurd cc

-- and is a transaction's
replay-outcome : (h : History) (key : Key) (w : WriteRequest) (c : Changed WriteAnswer) (own : Txn × Intent) → replayed (own_intent (intent_of key h) w.who) ≡ Some own → c.history ≡ h → Outcome h key w c
replay-outcome h key w c own is same = by w.who refl is
  where
    outside : (i : Option Intent) (ts : Timestamp) → replayed (own_intent i (At ts)) ≡ None
    outside None ts = refl
    outside (Some i) ts = refl

    by : (who : Actor) → w.who ≡ who → replayed (own_intent (intent_of key h) who) ≡ Some own → Outcome h key w c
    by (At ts) who_is found = let none = outside (intent_of key h) ts in absurd cc
    by (In t) who_is found = Replayed t who_is same

-- a write that is taken has one of the three outcomes
pub write_has_outcome : WriteHasOutcome
unfolding write
write_has_outcome h key w c valid writable e =
    let sound = bind_ok (checked key w) _ c e in
    let free = bind_ok (past_any_intent (intent_of key h) w) _ c sound.2 in
    by (replayed (own_intent (intent_of key h) w.who)) refl (checked-is key w sound.0 sound.1) free.0 free.1 free.2
  where
    by : (own : Option (Txn × Intent)) → replayed (own_intent (intent_of key h) w.who) ≡ own → IsChecked key w → (free : WriteRequest) → past_any_intent (intent_of key h) w ≡ Ok free
        → first_or_replay h key w (value_before h w.who key) own ≡ Ok c → Outcome h key w c
    by None is sound free past e = first_time-outcome h key w free c valid writable sound past is e
    by (Some own) is sound free past e =
        replay-outcome h key w c own is (unchanged-same h (replay w.kind (value_before h w.who key) (own.0).sequence (first_write own.0 own.1)) c e)

-- each outcome is a change of the key, or none
pub outcome-change : (h : History) (key : Key) (w : WriteRequest) (c : Changed WriteAnswer) → Outcome h key w c → Change key h c.history
outcome-change h key w c (Replayed t inside same) = Nothing same
outcome-change h key w c (Added ts body outside formed is) = VersionOnTop (new_version key ts w.local body) is
outcome-change h key w c (Left t body inside formed is) = IntentInPlace (new_intent key t (intent_of key h) w.local body) is

-- so a write that is taken changes one key, or nothing
pub write_changes_one_key : WriteChangesOneKey
write_changes_one_key h key w c valid writable e = outcome-change h key w c (write_has_outcome h key w c valid writable e)

-- and keeps a valid history valid
pub write_keeps_valid : WriteKeepsValid
write_keeps_valid h key w c valid writable e = change_keeps_valid key h c.history valid (write_changes_one_key h key w c valid writable e)
