-- What a plan of a write says of the history after it.
use Rattle.std.proofs.Common.{◌≡◌, ℕ, ◌<◌, ◌≤◌, Bool, true, false, cond, List, [], ◌∷◌, length, filter, Option, Some, None, Result, Ok, Err, refl, sym, ap, ◌∙◌, subst}
use Rattle.std.specs.Prelude.{not, nat_lt, MatchResult, IfSome, IfErr, option_map}
use Rattle.std.specs.List.Sorted.{IsStrictlySortedBy}
use Rattle.std.specs.declared.cmp.Ordering.{Ordering}
use Rattle.std.specs.declared.cmp.Ordering.TheVariants.{Less, Equal, Greater}
use Rattle.std.specs.Ordering.{is_eq}
use Rattle.std.specs.Cmp.{IsTotalOrder, on_total, tied_back}
use Rattle.std.proofs.lemmas.Bool.{lt-ltb, le-ltb, and_parts, eqb-true}
use Rattle.std.proofs.lemmas.Slice.Eq.{bytes_eq-Decides}
use Rattle.mvcc_key.specs.Lists.{first}
use Rattle.mvcc_key.specs.Steps.{◌>>=◌, unless_fault}
use Rattle.mvcc_key.specs.Limits.{max_stored_length}
use Rattle.mvcc_key.specs.Order.{Timestamp, is_same_time, Key, is_same_key, Name, name_cmp, is_same_name, Pair, pair_cmp}
use Rattle.mvcc_key.specs.History.{Body, version_name, Intent, History, Changed, with_intent, intent_of}
use Rattle.mvcc_key.specs.Items.{items, newest}
use Rattle.mvcc_key.specs.Refusal.{Refusal, ConditionFailed, IntentTooLong}
use Rattle.mvcc_key.specs.views.SeenPoint.{points_of}
use Rattle.mvcc_key.specs.declared.batch.PointOp.{PointOp}
use Rattle.mvcc_key.proofs.ByteLaws.{bind_ok, unless_ok, unless_passes, step}
use Rattle.mvcc_key.proofs.OrderLaws.{name_cmp-total}
use Rattle.mvcc_key.proofs.PlaceLaws.{put-without_tied}
use Rattle.intent_meta.specs.KeyChanges.{AreBelow}
use Rattle.intent_meta.specs.KeyHistory.{KeyHistory, key_history}
use Rattle.intent_meta.specs.PairChanges.{with_pair, without_name, without_provisional, with_record}
use Rattle.intent_meta.specs.PointPairs.{set_point, cleared_point, with_points}
use Rattle.intent_meta.specs.Record.{IntentRecord, record_bytes}
use Rattle.intent_meta.specs.StoredPairs.{RecordOf, VersionOf, provisional, stored_pair, stored_pairs, intent_record}
use Rattle.intent_meta.specs.Valid.{IsStoredTime, IsStoredBody, IsValid}
use Rattle.intent_meta.proofs.KeyChangeLaws.{version_on_top_is_one_pair, intent_in_place_is_two_pairs}
use Rattle.intent_meta.proofs.ReadBackLaws.{stored_pairs-rise}
use Rattle.intent_meta.proofs.StoredTimeLaws.{some_is_stored}
use Rattle.txn_state.specs.Transaction.{Txn, Actor, At, In, write_time}
use Rattle.write_rule.specs.Causes.{HasCause}
use Rattle.write_rule.specs.Outcome.{IsFormed, Replayed, Added, Left}
use Rattle.write_rule.specs.Planned.{intent_points, IsPlanned, Answers}
use Rattle.write_rule.specs.Writable.{MayWrite, IsWritable}
use Rattle.write_rule.specs.Write.{WriteRequest, WriteAnswer, own_intent, own_entry, entry_or_item, value_before, new_body, meets_condition, answer_to, checked, past_any_intent, replayed, first_write, replay, past_newest, new_intent, new_version, with_new_intent, written, unchanged, first_or_replay, write}
use Rattle.write_rule.specs.views.Forming.{first_body}
use Rattle.write_rule.specs.views.Own.{IsOwn, AreOwn, ReplaysOwn, seen_newest, stamped}
use Rattle.write_rule.specs.views.Points.{unless_too_long, points_by, IsPut, Writes}
use Rattle.write_rule.specs.views.Seen.{answer_of, refusal_of, Tells}
use Rattle.write_rule.specs.declared.change.KeyChange.{KeyChange}
use Rattle.write_rule.specs.declared.fault.WriteFault.{WriteFault}
use Rattle.write_rule.specs.declared.newest.Newest.{Newest}
use Rattle.write_rule.specs.declared.own_intent.OwnIntent.{OwnIntent}
use Rattle.write_rule.proofs.CauseLaws.{refusals_have_causes}
use Rattle.write_rule.proofs.BodyLaws.{new_body-stored}
use Rattle.write_rule.proofs.WriteLaws.{IsChecked, checked-is, past_newest-below, no_intent-outside, own_intent-inside, version_written, intent_written}

-- ---- the record's length

-- a record that is too long is refused with its length
pub too_long : (new : Intent) (r : IntentRecord) (size : ℕ) → r ≡ intent_record new → size ≡ length (record_bytes r) → max_stored_length < size → unless_too_long new ≡ Err (IntentTooLong size)
too_long new r size is sizes long =
    let same : length (record_bytes (intent_record new)) ≡ size = sym (sizes ∙ ap (λ x. length (record_bytes x)) is) in
    ap (λ n. unless_fault (nat_lt max_stored_length n) (IntentTooLong n) new) same
    ∙ ap (λ (b : Bool). cond b (Err (IntentTooLong size)) (Ok new)) (lt-ltb max_stored_length size long)

-- one that is not is short enough
pub short_enough : (new : Intent) (r : IntentRecord) (size : ℕ) → r ≡ intent_record new → size ≡ length (record_bytes r) → size ≤ max_stored_length
    → nat_lt max_stored_length (length (record_bytes (intent_record new))) ≡ false
short_enough new r size is sizes short =
    ap (nat_lt max_stored_length) (sym (sizes ∙ ap (λ x. length (record_bytes x)) is)) ∙ le-ltb max_stored_length size short

-- ---- what is written

-- the intent of a key is of the key
pub intent_key : (key : Key) (h : History) → IfSome (intent_of key h) (λ j. j.key ≡ key)
intent_key key h = by h.intents
  where
    by : (is : List Intent) → IfSome (first (filter (λ i. is_same_key i.key key) is)) (λ j. j.key ≡ key)
    by [] = tt
    by (i ∷ is) = cases (is_same_key i.key key) refl (by is)
      where
        cases : (b : Bool) → is_same_key i.key key ≡ b → IfSome (first (filter (λ j. is_same_key j.key key) is)) (λ j. j.key ≡ key)
            → IfSome (first (cond b (i ∷ filter (λ j. is_same_key j.key key) is) (filter (λ j. is_same_key j.key key) is))) (λ j. j.key ≡ key)
        cases true e rest = (bytes_eq-Decides i.key key).0 e
        cases false e rest = rest

-- a history with an intent is refused as the intent is
refused_alike : (new : Intent) (h : History) (why : Refusal) → unless_too_long new ≡ Err why → with_new_intent new h ≡ Err why
refused_alike new h why = by (nat_lt max_stored_length (length (record_bytes (intent_record new)))) (IntentTooLong (length (record_bytes (intent_record new))))
  where
    by : (b : Bool) (r : Refusal) → unless_fault b r new ≡ Err why → unless_fault b r (with_intent new h) ≡ Err why
    by true r e = cc
    by false r e = absurd cc

-- in a transaction the intent is put, or refused
pub written_inside : (result : Result (List PointOp) WriteFault) (h : History) (key : Key) (w : WriteRequest) (t : Txn) (body : Body) → w.who ≡ In t
    → MatchResult result (λ points. IsPut (intent_of key h) (new_intent key t (intent_of key h) w.local body) points) (λ why. Tells (refusal_of why) (unless_too_long (new_intent key t (intent_of key h) w.local body)))
    → MatchResult result (λ points. Writes h key w body points) (λ why. Tells (refusal_of why) (written h key w.who w.local body))
written_inside (Ok points) h key w t body who put =
    let new : Intent = new_intent key t (intent_of key h) w.local body in
    let size : ℕ = length (record_bytes (intent_record new)) in
    record {
      after = with_intent new h;
      done = ap (λ a. written h key a w.local body) who ∙ unless_passes (nat_lt max_stored_length size) (IntentTooLong size) (with_intent new h) put.short;
      points_are = put.points_are ∙ sym (ap (λ a. points_by a (intent_of key h) key w.local body) who);
    }
written_inside (Err why) h key w t body who refused = by (refusal_of why) refused
  where
    by : (o : Option Refusal) → Tells o (unless_too_long (new_intent key t (intent_of key h) w.local body)) → Tells o (written h key w.who w.local body)
    by None e = tt
    by (Some r) e = ap (λ a. written h key a w.local body) who ∙ refused_alike (new_intent key t (intent_of key h) w.local body) h r e

-- ---- refusals

-- the history and the answer
abbrev finish : WriteRequest → Option Body → Body → History → Result (Changed WriteAnswer) Refusal
finish w before body after = Ok (record { history = after; answer = answer_to w.kind before body })

module _ (h : History) (key : Key) (w : WriteRequest) where
  -- the value before the write
  abbrev before : Option Body
  before = value_before h w.who key

  -- a write that fails the first tests is refused so
  pub refused-check : (why : Option Refusal) → Tells why (checked key w) → Tells why (write h key w)
  unfolding write
  refused-check None e = tt
  refused-check (Some r) e = ap (λ x. x >>= λ sound. past_any_intent (intent_of key h) w >>= λ free. first_or_replay h key w before (replayed (own_intent (intent_of key h) w.who))) e

  module _ (sound : checked key w ≡ Ok w) where
    -- one that meets an intent in the way is refused so
    pub refused-intent : (why : Option Refusal) → Tells why (past_any_intent (intent_of key h) w) → Tells why (write h key w)
    unfolding write
    refused-intent None e = tt
    refused-intent (Some r) e =
        step (checked key w) _ w (Err r) sound
        (ap (λ x. x >>= λ free. first_or_replay h key w before (replayed (own_intent (intent_of key h) w.who))) e)

    module _ (free : past_any_intent (intent_of key h) w ≡ Ok w) where
      -- past both a write is a replay, or is made for the first time
      pub write-past : (own : Option (Txn × Intent)) → replayed (own_intent (intent_of key h) w.who) ≡ own → write h key w ≡ first_or_replay h key w before own
      unfolding write
      write-past own is =
          step (checked key w) _ w (first_or_replay h key w before own) sound
          (step (past_any_intent (intent_of key h) w) _ w (first_or_replay h key w before own) free (ap (first_or_replay h key w before) is))

      module _ (own : Txn × Intent) (is : replayed (own_intent (intent_of key h) w.who) ≡ Some own) where
        -- a replay is refused as its rule says
        pub refused-replay : (why : Option Refusal) → Tells why (replay w.kind before (own.0).sequence (first_write own.0 own.1)) → Tells why (write h key w)
        refused-replay None e = tt
        refused-replay (Some r) e = write-past (Some own) is ∙ ap (unchanged h) e

        -- and answered so
        pub taken-replay : (answer : WriteAnswer) → replay w.kind before (own.0).sequence (first_write own.0 own.1) ≡ Ok answer → write h key w ≡ Ok (record { history = h; answer = answer })
        taken-replay answer e = write-past (Some own) is ∙ ap (unchanged h) e

      module _ (none : replayed (own_intent (intent_of key h) w.who) ≡ None) where
        -- a first write that is too old is refused so
        pub refused-old : (why : Option Refusal) → Tells why (past_newest (newest (items h key)) w) → Tells why (write h key w)
        refused-old None e = tt
        refused-old (Some r) e =
            write-past None none ∙ ap (λ x. x >>= λ recent.
            unless_fault (not (meets_condition w.kind before)) (ConditionFailed before) w >>= λ met.
            new_body w.kind before >>= λ body.
            written h key w.who w.local body >>= λ after.
            finish w before body after) e

        module _ (recent : past_newest (newest (items h key)) w ≡ Ok w) where
          -- what is left of the rule
          abbrev rest : Result (Changed WriteAnswer) Refusal
          rest =
              unless_fault (not (meets_condition w.kind before)) (ConditionFailed before) w >>= λ met.
              new_body w.kind before >>= λ body.
              written h key w.who w.local body >>= λ after.
              finish w before body after

          write-rest : write h key w ≡ rest
          write-rest = write-past None none ∙ step (past_newest (newest (items h key)) w) _ w rest recent refl

          -- one whose condition or sum fails is refused so
          pub refused-body : (why : Option Refusal) → Tells why (first_body w.kind before) → Tells why (write h key w)
          refused-body None e = tt
          refused-body (Some r) e = write-rest ∙ by (not (meets_condition w.kind before)) (new_body w.kind before) e
            where
              by : (b : Bool) (formed : Result Body Refusal) → (unless_fault b (ConditionFailed before) w.kind >>= λ met. formed) ≡ Err r
                  → (unless_fault b (ConditionFailed before) w >>= λ met. formed >>= λ body. written h key w.who w.local body >>= λ after. finish w before body after) ≡ Err r
              by true formed p = cc
              by false formed p = ap (λ x. x >>= λ body. written h key w.who w.local body >>= λ after. finish w before body after) p

          module _ (body : Body) (formed : first_body w.kind before ≡ Ok body) where
            -- its condition is met, and the value is the one that is formed
            pub formed-parts : (not (meets_condition w.kind before) ≡ false) × (new_body w.kind before ≡ Ok body)
            formed-parts =
                let parts = bind_ok (unless_fault (not (meets_condition w.kind before)) (ConditionFailed before) w.kind) _ body formed in
                ((unless_ok (not (meets_condition w.kind before)) (ConditionFailed before) w.kind parts.0 parts.1).0, parts.2)

            write-written : write h key w ≡ (written h key w.who w.local body >>= λ after. finish w before body after)
            write-written =
                write-rest
                ∙ step (unless_fault (not (meets_condition w.kind before)) (ConditionFailed before) w) _ w _ (unless_passes (not (meets_condition w.kind before)) (ConditionFailed before) w formed-parts.0)
                (step (new_body w.kind before) _ body _ formed-parts.1 refl)

            -- one whose record is too long is refused so
            pub refused-written : (why : Option Refusal) → Tells why (written h key w.who w.local body) → Tells why (write h key w)
            refused-written None e = tt
            refused-written (Some r) e = write-written ∙ ap (λ x. x >>= λ after. finish w before body after) e

            -- and else it is taken
            pub taken-first : (after : History) → written h key w.who w.local body ≡ Ok after → write h key w ≡ finish w before body after
            taken-first after e = write-written ∙ ap (λ x. x >>= λ g. finish w before body g) e

-- ---- the pairs

-- equal timestamps are one
same_time_is : (s t : Timestamp) → is_same_time s t ≡ true → s ≡ t
same_time_is s t h =
    let parts = and_parts _ _ h in
    let wall : s.wall ≡ t.wall = eqb-true _ _ parts.0 in
    let logical : s.logical ≡ t.logical = eqb-true _ _ parts.1 in
    λ i. record { wall = wall i; logical = logical i }

pair_cmp-total : IsTotalOrder pair_cmp
pair_cmp-total = on_total (λ p. p.name) name_cmp-total

-- a pair may be put after the one of its name was taken out
put-without_name : (p : Pair) (name : Name) (ps : List Pair) → p.name ≡ name → IsStrictlySortedBy pair_cmp ps → with_pair p (without_name name ps) ≡ with_pair p ps
put-without_name p name ps is sorted = subst (λ m. with_pair p (without_name m ps) ≡ with_pair p ps) is (put-without_tied pair_cmp-total p (λ q. not (is_same_name q.name p.name)) tied apart ps sorted)
  where
    tied : (q : Pair) → pair_cmp p q ≡ Equal → not (is_same_name q.name p.name) ≡ false
    tied q tie = ap (λ o. not (is_eq o)) (tied_back name_cmp-total p.name q.name tie)

    by : (q : Pair) (o : Ordering) → name_cmp q.name p.name ≡ o → (pair_cmp p q ≡ Equal → ⊥) → not (is_eq o) ≡ true
    by q Less e other = refl
    by q Greater e other = refl
    by q Equal e other = absurd (other (tied_back name_cmp-total q.name p.name e))

    apart : (q : Pair) → (pair_cmp p q ≡ Equal → ⊥) → not (is_same_name q.name p.name) ≡ true
    apart q other = by q (name_cmp q.name p.name) refl other

-- the points of an intent in the place of the old one are its pairs for those of the old one
pub intent_points-pairs : (old : Option Intent) (new : Intent) (ps : List Pair) → IsStrictlySortedBy pair_cmp ps → IfSome old (λ o. o.key ≡ new.key)
    → with_points (intent_points old new) ps ≡ with_record new (without_provisional old ps)
intent_points-pairs None new ps sorted of_key = refl
intent_points-pairs (Some o) new ps sorted of_key = by (is_same_time o.ts new.ts) refl
  where
    version : Pair
    version = stored_pair (VersionOf (provisional new))

    by : (b : Bool) → is_same_time o.ts new.ts ≡ b
        → with_points (set_point (stored_pair (RecordOf new)) ∷ set_point version ∷ cond b [] (cleared_point (version_name (provisional o)) ∷ [])) ps
        ≡ with_record new (without_name (version_name (provisional o)) ps)
    by false apart = refl
    by true same =
        let ts : o.ts ≡ new.ts = same_time_is o.ts new.ts same in
        let name : version.name ≡ version_name (provisional o) = λ i. record { key = sym of_key i; ts = sym ts i } in
        ap (with_pair (stored_pair (RecordOf new))) (sym (put-without_name version (version_name (provisional o)) ps name sorted))

-- ---- what is planned

-- a replay changes nothing
pub planned-replay : (h : History) (key : Key) (w : WriteRequest) (t : Txn) (change : KeyChange) → w.who ≡ In t → change.points ≡ []
    → write h key w ≡ Ok (record { history = h; answer = answer_of change.answer }) → IsPlanned h key w change
planned-replay h key w t change inside none taken = record {
  after = h;
  taken = taken;
  outcome = Replayed t inside refl;
  points = ap points_of none;
  pairs = sym (ap (λ ps. with_points (points_of ps) (stored_pairs h)) none);
}

module _ (h : History) (key : Key) (w : WriteRequest) (valid : IsValid h) (writable : IsWritable w) (sound : checked key w ≡ Ok w) (free : past_any_intent (intent_of key h) w ≡ Ok w)
    (none : replayed (own_intent (intent_of key h) w.who) ≡ None) (recent : past_newest (newest (items h key)) w ≡ Ok w) (body : Body) (formed : first_body w.kind (value_before h w.who key) ≡ Ok body)
    (change : KeyChange) (answered : answer_of change.answer ≡ answer_to w.kind (value_before h w.who key) body) (writes : Writes h key w body change.points) where
  is_checked : IsChecked key w
  is_checked = checked-is key w w sound

  body_stored : IsStoredBody body
  body_stored = new_body-stored w.kind (value_before h w.who key) body writable.kind is_checked.short (formed-parts h key w sound free none recent body formed).1

  abbrev after : History
  after = writes.after

  taken : write h key w ≡ Ok (record { history = after; answer = answer_of change.answer })
  taken = taken-first h key w sound free none recent body formed after writes.done ∙ ap (λ a. Ok (record { history = after; answer = a })) (sym answered)

  is_formed : IsFormed h key w (answer_of change.answer) body
  is_formed = record { formed = (formed-parts h key w sound free none recent body formed).1; answered = answered }

  time : IsStoredTime (write_time w.who)
  time = some_is_stored (write_time w.who) is_checked.some_time writable.time

  below : AreBelow (write_time w.who) (items h key)
  below = past_newest-below h key w w writable.who recent

  -- a first write is planned as the rule says
  pub planned-first : IsPlanned h key w change
  planned-first = by w.who refl writable.who time below none writes.done writes.points_are
    where
      by : (who : Actor) → w.who ≡ who → MayWrite who → IsStoredTime (write_time who) → AreBelow (write_time who) (items h key) → replayed (own_intent (intent_of key h) who) ≡ None
          → written h key who w.local body ≡ Ok after → points_of change.points ≡ points_by who (intent_of key h) key w.local body → IsPlanned h key w change
      by (At ts) who_is may timed above first done points =
          let is = version_written h key is_checked.key_stored w.local writable.local body body_stored ts after timed above (no_intent-outside (intent_of key h) ts w w who_is free) done in
          record {
            after = after;
            taken = taken;
            outcome = Added ts body who_is is_formed is;
            points = points;
            pairs = version_on_top_is_one_pair key h after (new_version key ts w.local body) is ∙ sym (ap (λ ps. with_points ps (stored_pairs h)) points);
          }
      by (In t) who_is may timed above first done points =
          let new : Intent = new_intent key t (intent_of key h) w.local body in
          let is = intent_written h key is_checked.key_stored w.local writable.local body body_stored t after valid may timed above (own_intent-inside (intent_of key h) t w w who_is free) first done in
          record {
            after = after;
            taken = taken;
            outcome = Left t body who_is is_formed is;
            points = points;
            pairs = intent_in_place_is_two_pairs key h after new valid is
                ∙ sym (ap (λ ps. with_points ps (stored_pairs h)) points ∙ intent_points-pairs (intent_of key h) new (stored_pairs h) (stored_pairs-rise h) (intent_key key h));
          }

-- what is refused is refused so
pub answers-err : (result : Result KeyChange WriteFault) (why : WriteFault) (h : History) (key : Key) (w : WriteRequest) → result ≡ Err why → Tells (refusal_of why) (write h key w) → Answers result h key w
answers-err result why h key w is tells = subst (λ r. Answers r h key w) (sym is) tells

-- ---- what is told of the key

-- it is this intent of which the write is a replay
pub record HasReplay (own : OwnIntent) (who : Actor) (intent : Option Intent) : Type 0 where
  pub i : Intent
  pub own_is : IsOwn own who i
  pub replays : replayed (own_intent intent who) ≡ Some (own.txn.now, i)

-- where the code finds a replay it is one
pub has_replay : (own : OwnIntent) (who : Actor) (intent : Option Intent) → ReplaysOwn own who intent → HasReplay own who intent
has_replay own who None h = absurd h
has_replay own who (Some i) h = record { i = i; own_is = h.own_is; replays = h.replays }

module _ (h : History) (key : Key) (told : KeyHistory) (is : key_history key h ≡ told) where
  intent_is : intent_of key h ≡ told.intent
  intent_is = ap (λ k. k.intent) is

  -- the own intent is that of the history
  pub own_told : (own : Option OwnIntent) (who : Actor) → AreOwn own who told.intent → AreOwn own who (intent_of key h)
  own_told own who are = subst (AreOwn own who) (sym intent_is) are

  -- no intent is in the way there
  pub free_told : (w : WriteRequest) → past_any_intent told.intent w ≡ Ok w → past_any_intent (intent_of key h) w ≡ Ok w
  free_told w free = subst (λ i. past_any_intent i w ≡ Ok w) (sym intent_is) free

  -- or the same one is
  pub met_told : (w : WriteRequest) (why : Option Refusal) → Tells why (past_any_intent told.intent w) → Tells why (past_any_intent (intent_of key h) w)
  met_told w why tells = subst (λ i. Tells why (past_any_intent i w)) (sym intent_is) tells

  -- the newest item is that of the history
  pub newest_told : (item : Option Newest) → option_map seen_newest item ≡ option_map stamped (newest told.items) → option_map seen_newest item ≡ option_map stamped (newest (items h key))
  newest_told item e = e ∙ sym (ap (λ k. option_map stamped (newest k.items)) is)

  -- the value before is that of the history
  pub before_told : (who : Actor) (value : Option Body) → value ≡ entry_or_item (own_entry (own_intent (intent_of key h) who)) (newest (items h key)) → value ≡ value_before h who key
  unfolding value_before
  before_told who value e = e

  -- and its key is the key
  pub key_told : told.key ≡ key
  key_told = sym (ap (λ k. k.key) is)

-- what is answered as the rule says is refused for its cause
pub answers-cause : (result : Result KeyChange WriteFault) (h : History) (key : Key) (w : WriteRequest) → Answers result h key w → IfErr result (λ why. IfSome (refusal_of why) (HasCause h key w))
answers-cause (Ok change) h key w answers = tt
answers-cause (Err why) h key w answers = by (refusal_of why) answers
  where
    by : (o : Option Refusal) → Tells o (write h key w) → IfSome o (HasCause h key w)
    by None e = tt
    by (Some r) e = refusals_have_causes h key w r e
