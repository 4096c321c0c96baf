-- A write that is refused is refused for its cause.
use Rattle.std.proofs.Common.{◌≡◌, ℕ, Bool, true, false, [], ◌∷◌, length, Option, Some, None, Result, Ok, Err, refl, ap, subst, inl, inr}
use Rattle.std.specs.Prelude.{ℤ, ◌+ℤ◌, ◌⊎◌, ◌==◌, not, nat_lt}
use Rattle.std.proofs.lemmas.Bool.{ltb-true, eqb-true, not-true}
use Rattle.mvcc_key.specs.Steps.{◌>>=◌, unless_fault}
use Rattle.mvcc_key.specs.Limits.{max_key_length, max_bytes_length, max_stored_length}
use Rattle.mvcc_key.specs.Order.{is_no_time, is_up_to, Key}
use Rattle.mvcc_key.specs.History.{Body, Deletion, Bytes, Int, Entry, Intent, History, Changed, with_intent, intent_of}
use Rattle.mvcc_key.specs.Items.{Item, items, newest}
use Rattle.mvcc_key.specs.Refusal.{seen, Refusal, EmptyKey, KeyTooLong, ValueTooLong, BadTimestamp, Conflict, EpochFault, ReplayMissing, ReplayMismatch, TooOld, ConditionFailed, NotInteger, IntegerOverflow, IntentTooLong}
use Rattle.intent_meta.specs.Record.{record_bytes}
use Rattle.intent_meta.specs.StoredPairs.{intent_record}
use Rattle.txn_state.specs.Transaction.{Txn, Actor, At, In, read_time, write_time, own_txn}
use Rattle.write_rule.specs.Causes.{HasCause, RefusalsHaveCauses}
use Rattle.write_rule.specs.Write.{WriteKind, Put, Delete, ConditionalPut, InitPut, Increment, WriteRequest, WriteAnswer, own_intent, value_before, fits_64, incremented, new_body, meets_condition, given_length, answer_to, checked, past_intent, past_any_intent, replayed, first_write, is_body, replay, past_newest, new_intent, written, first_time, unchanged, first_or_replay, write}

-- ---- steps that fail

-- the first step failed, or the ones behind it did
bind_err : {A B E : Type 0} (r : Result A E) (f : A → Result B E) (e : E) → (r >>= f) ≡ Err e → (r ≡ Err e) ⊎ ((x : A) × (r ≡ Ok x) × (f x ≡ Err e))
bind_err (Ok x) f e h = inr (x, refl, h)
bind_err (Err d) f e h = inl (let same : d ≡ e = cc in ap Err same)

-- a test that failed
unless_err : {A E : Type 0} (test : Bool) (fault e : E) (x : A) → unless_fault test fault x ≡ Err e → (test ≡ true) × (fault ≡ e)
unless_err true fault e x h = (refl, cc)
unless_err false fault e x h = absurd cc

module _ (h : History) (key : Key) (w : WriteRequest) where
  abbrev before : Option Body
  before = value_before h w.who key

  -- by the refusal that a test gives
  by_fault : (a b : Refusal) → a ≡ b → HasCause h key w a → HasCause h key w b
  by_fault a b is cause = subst (HasCause h key w) is cause

  -- ---- the first tests

  check_cause : (why : Refusal) → checked key w ≡ Err why → HasCause h key w why
  check_cause why e = elim (bind_err (unless_fault (length key == 0) EmptyKey w) _ why e) [
    | inl one ↦ let t = unless_err (length key == 0) EmptyKey why w one in by_fault EmptyKey why t.1 (eqb-true _ _ t.0)
    | inr first ↦ elim (bind_err (unless_fault (nat_lt max_key_length (length key)) (KeyTooLong (length key)) w) _ why first.2) [
      | inl two ↦ let t = unless_err (nat_lt max_key_length (length key)) (KeyTooLong (length key)) why w two in by_fault (KeyTooLong (length key)) why t.1 (record { number = refl; above = ltb-true _ _ t.0 })
      | inr second ↦ elim (bind_err (unless_fault (nat_lt max_bytes_length (given_length w.kind)) (ValueTooLong (given_length w.kind)) w) _ why second.2) [
        | inl three ↦ let t = unless_err (nat_lt max_bytes_length (given_length w.kind)) (ValueTooLong (given_length w.kind)) why w three in by_fault (ValueTooLong (given_length w.kind)) why t.1 (record { number = refl; above = ltb-true _ _ t.0 })
        | inr third ↦ let t = unless_err (is_no_time (write_time w.who)) BadTimestamp why w third.2 in by_fault BadTimestamp why t.1 t.0
      ]
    ]
  ]

  -- ---- an intent in the way

  intent_cause : (i : Option Intent) → intent_of key h ≡ i → (why : Refusal) → past_any_intent i w ≡ Err why → HasCause h key w why
  intent_cause None here why e = absurd cc
  intent_cause (Some i) here why e = by (own_txn i.id w.who) refl e
    where
      by : (o : Option Txn) → own_txn i.id w.who ≡ o → past_intent i o w ≡ Err why → HasCause h key w why
      by None mine p =
          let is : Conflict (seen i ∷ []) ≡ why = cc in
          by_fault (Conflict (seen i ∷ [])) why is (record { intent = i; here = here; foreign = mine; told = refl })
      by (Some t) mine p =
          let u = unless_err (nat_lt t.epoch i.epoch) (EpochFault t.epoch i.epoch) why w p in
          by_fault (EpochFault t.epoch i.epoch) why u.1 (record { txn = t; intent = i; here = here; mine = mine; epochs = (refl, refl); later = ltb-true _ _ u.0 })

  -- ---- a replay

  replay_cause : (own : Txn × Intent) → replayed (own_intent (intent_of key h) w.who) ≡ Some own → (why : Refusal) → unchanged h (replay w.kind before (own.0).sequence (first_write own.0 own.1)) ≡ Err why
      → HasCause h key w why
  replay_cause own is why e = by (first_write own.0 own.1) refl e
    where
      refused : (r : Result WriteAnswer Refusal) → unchanged h r ≡ Err why → r ≡ Err why
      refused (Ok a) p = absurd cc
      refused (Err x) p = let same : x ≡ why = cc in ap Err same

      by : (o : Option (Entry Body)) → first_write own.0 own.1 ≡ o → unchanged h (replay w.kind before (own.0).sequence o) ≡ Err why → HasCause h key w why
      by None here p =
          let said : replay w.kind before (own.0).sequence None ≡ Err why = refused (replay w.kind before (own.0).sequence None) p in
          let same : ReplayMissing (own.0).sequence ≡ why = cc in
          by_fault (ReplayMissing (own.0).sequence) why same (record { own = own; replays = is; number = refl; none = here })
      by (Some x) here p =
          let said = refused (replay w.kind before (own.0).sequence (Some x)) p in
          let u = unless_err (not (is_body (new_body w.kind before) x.value)) (ReplayMismatch x.value) why (answer_to w.kind before x.value) said in
          by_fault (ReplayMismatch x.value) why u.1 (record { own = own; replays = is; entry = x; here = here; told = refl; differs = not-true (is_body (new_body w.kind before) x.value) u.0 })

  -- ---- a first write

  module _ (new : replayed (own_intent (intent_of key h) w.who) ≡ None) where
    newest_cause : (i : Option Item) → newest (items h key) ≡ i → (why : Refusal) → past_newest i w ≡ Err why → HasCause h key w why
    newest_cause None here why e = absurd cc
    newest_cause (Some i) here why e =
        let u = unless_err (is_up_to (read_time w.who) i.ts) (TooOld i.ts) why w e in
        by_fault (TooOld i.ts) why u.1 (record { new = new; item = i; here = here; told = refl; newer = u.0 })

    condition_cause : (why : Refusal) → unless_fault (not (meets_condition w.kind before)) (ConditionFailed before) w ≡ Err why → HasCause h key w why
    condition_cause why e =
        let u = unless_err (not (meets_condition w.kind before)) (ConditionFailed before) why w e in
        by_fault (ConditionFailed before) why u.1 (record { new = new; told = refl; unmet = not-true (meets_condition w.kind before) u.0 })

    sum_cause : (by : ℤ) → w.kind ≡ Increment by → (b : Option Body) → before ≡ b → (why : Refusal) → incremented by b ≡ Err why → HasCause h key w why
    sum_cause by is None here why e = absurd cc
    sum_cause by is (Some Deletion) here why e = absurd cc
    sum_cause by is (Some (Bytes bytes)) here why e =
        let same : NotInteger (Bytes bytes) ≡ why = cc in
        by_fault (NotInteger (Bytes bytes)) why same (record { new = new; by = by; increments = is; bytes = bytes; told = refl; here = here })
    sum_cause by is (Some (Int old)) here why e =
        let u = unless_err (not (fits_64 (old +ℤ by))) (IntegerOverflow old by) why (Int (old +ℤ by)) e in
        by_fault (IntegerOverflow old by) why u.1 (record { new = new; increments = is; here = here; leaves = not-true (fits_64 (old +ℤ by)) u.0 })

    body_cause : (kind : WriteKind) → w.kind ≡ kind → (why : Refusal) → new_body kind before ≡ Err why → HasCause h key w why
    body_cause (Put b) is why e = absurd cc
    body_cause Delete is why e = absurd cc
    body_cause (ConditionalPut b x) is why e = absurd cc
    body_cause (InitPut b) is why e = absurd cc
    body_cause (Increment by) is why e = sum_cause by is before refl why e

    written_cause : (who : Actor) → w.who ≡ who → (body : Body) → new_body w.kind before ≡ Ok body → (why : Refusal) → written h key who w.local body ≡ Err why → HasCause h key w why
    written_cause (At ts) is body formed why e = absurd cc
    written_cause (In t) is body formed why e =
        let i : Intent = new_intent key t (intent_of key h) w.local body in
        let size : ℕ = length (record_bytes (intent_record i)) in
        let u = unless_err (nat_lt max_stored_length size) (IntentTooLong size) why (with_intent i h) e in
        by_fault (IntentTooLong size) why u.1
        (record { new = new; txn = t; inside = is; body = body; formed = formed; long = record { number = refl; above = ltb-true _ _ u.0 } })

    abbrev finish : History → Body → Result (Changed WriteAnswer) Refusal
    finish after body = Ok (record { history = after; answer = answer_to w.kind before body })

    finished : (after : History) (body : Body) (why : Refusal) → finish after body ≡ Err why → HasCause h key w why
    finished after body why e = absurd cc

    first_cause : (why : Refusal) → first_time h key w before ≡ Err why → HasCause h key w why
    first_cause why e = elim (bind_err (past_newest (newest (items h key)) w) _ why e) [
      | inl old ↦ newest_cause (newest (items h key)) refl why old
      | inr recent ↦ elim (bind_err (unless_fault (not (meets_condition w.kind before)) (ConditionFailed before) w) _ why recent.2) [
        | inl unmet ↦ condition_cause why unmet
        | inr met ↦ elim (bind_err (new_body w.kind before) _ why met.2) [
          | inl failed ↦ body_cause w.kind refl why failed
          | inr formed ↦ elim (bind_err (written h key w.who w.local formed.0) _ why formed.2) [
            | inl long ↦ written_cause w.who refl formed.0 formed.1 why long
            | inr done ↦ finished done.0 formed.0 why done.2
          ]
        ]
      ]
    ]

-- so each refusal has its cause
pub refusals_have_causes : RefusalsHaveCauses
unfolding write
refusals_have_causes h key w why e = elim (bind_err (checked key w) _ why e) [
  | inl unsound ↦ check_cause h key w why unsound
  | inr sound ↦ elim (bind_err (past_any_intent (intent_of key h) w) _ why sound.2) [
    | inl met ↦ intent_cause h key w (intent_of key h) refl why met
    | inr free ↦ by (replayed (own_intent (intent_of key h) w.who)) refl free.2
  ]
]
  where
    by : (own : Option (Txn × Intent)) → replayed (own_intent (intent_of key h) w.who) ≡ own → first_or_replay h key w (value_before h w.who key) own ≡ Err why → HasCause h key w why
    by None is p = first_cause h key w is why p
    by (Some own) is p = replay_cause h key w own is why p
