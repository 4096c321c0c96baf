-- A write in a transaction that is made again is a replay: it answers the same and changes nothing.
use Rattle.std.proofs.Common.{◌≡◌, ℕ, ◌<◌, Bool, true, false, cond, List, [], ◌∷◌, ◌++◌, Ok, refl, sym, ap, subst, ◌∙◌, append-nil, arith}
use Rattle.std.specs.Prelude.{not, ◌&&◌, ◌==◌, nat_lt, nat_le, length, filter, Option, Some, None, IfSome, find, option_map, unwrap_or, ⊤}
use Rattle.std.specs.List.{AllByRecursion}
use Rattle.std.proofs.lemmas.Bool.{le-leb, le-ltb, eq-eqb, ne_eqb}
use Rattle.std.proofs.lemmas.Bool.Decides.{Decides-int_eq}
use Rattle.std.proofs.lemmas.List.Elements.{filter-append}
use Rattle.std.proofs.lemmas.Slice.Eq.{bytes_eq-Decides}
use Rattle.mvcc_key.specs.Lists.{last}
use Rattle.mvcc_key.specs.Steps.{unless_fault}
use Rattle.mvcc_key.specs.Order.{Timestamp, Key}
use Rattle.mvcc_key.specs.Limits.{max_stored_length}
use Rattle.mvcc_key.specs.History.{Body, Deletion, Bytes, Int, Entry, Intent, History, Changed, with_intent, intent_of, SeqRange, is_ignored, without_ignored}
use Rattle.mvcc_key.specs.Items.{items, newest}
use Rattle.mvcc_key.specs.Refusal.{EpochFault, ReplayMismatch, ConditionFailed, IntentTooLong}
use Rattle.mvcc_key.proofs.ByteLaws.{bind_ok, unless_ok, unless_passes, step}
use Rattle.mvcc_key.proofs.HistoryLaws.{items-with_intent, intent_of-with_intent}
use Rattle.intent_meta.specs.Record.{record_bytes}
use Rattle.intent_meta.specs.StoredPairs.{provisional_sequence, intent_record}
use Rattle.intent_meta.specs.Valid.{IsStoredIntent, IsValid}
use Rattle.intent_meta.proofs.LentLaws.{last-append}
use Rattle.intent_meta.proofs.ChangedLaws.{some_intent-stored}
use Rattle.txn_state.specs.Transaction.{Txn, Actor, In, own_txn}
use Rattle.write_rule.specs.Write.{WriteKind, WriteRequest, WriteAnswer, is_same_body, of_epoch, own_intent, entry_below, own_entry, entry_or_item, value_before, new_body, meets_condition, answer_to, checked, past_intent, past_any_intent, replayed, first_write, is_body, replay, past_newest, kept_entries, new_intent, written, first_time, unchanged, first_or_replay, write}
use Rattle.write_rule.specs.Laws.{WriteMayRepeat}
use Rattle.write_rule.proofs.IntentLaws.{own_intent-is, kept_entries-below}
use Rattle.write_rule.proofs.WriteLaws.{unchanged-same}

-- ---- entries

-- where all others are below its sequence, the one behind them is found by it
find-behind : (es : List (Entry Body)) (e : Entry Body) → AllByRecursion (λ d. d.sequence < e.sequence) es → find (λ d. d.sequence == e.sequence) (es ++ e ∷ []) ≡ Some e
find-behind [] e below = rw (eq-eqb e.sequence e.sequence refl) refl
find-behind (d ∷ ds) e below =
    let other : (d.sequence == e.sequence) ≡ false = ne_eqb d.sequence e.sequence (λ same. omega (arith, below.0)) in
    rw other (find-behind ds e below.1)

-- what is below a sequence and not ignored
abbrev is_below_left : ℕ → List SeqRange → Entry Body → Bool
is_below_left sequence ranges e = nat_lt e.sequence sequence && not (is_ignored ranges e.sequence)

-- is so among those that are not ignored
below-left : (sequence : ℕ) (ranges : List SeqRange) (es : List (Entry Body)) → filter (is_below_left sequence ranges) (without_ignored ranges es) ≡ filter (is_below_left sequence ranges) es
below-left sequence ranges [] = refl
below-left sequence ranges (e ∷ es) = by (nat_lt e.sequence sequence) (is_ignored ranges e.sequence) refl refl (below-left sequence ranges es)
  where
    by : (a b : Bool) → nat_lt e.sequence sequence ≡ a → is_ignored ranges e.sequence ≡ b → filter (is_below_left sequence ranges) (without_ignored ranges es) ≡ filter (is_below_left sequence ranges) es
        → filter (is_below_left sequence ranges) (without_ignored ranges (e ∷ es)) ≡ filter (is_below_left sequence ranges) (e ∷ es)
    by true true p q rest = rw (q, p) rest
    by false true p q rest = rw (q, p) rest
    by true false p q rest = rw (q, p, q) (ap (λ ds. e ∷ ds) rest)
    by false false p q rest = rw (q, p) rest

-- the entry behind the others is not below its own sequence
entry_below-behind : (sequence : ℕ) (ranges : List SeqRange) (es : List (Entry Body)) (body : Body)
    → entry_below sequence ranges (es ++ record { sequence = sequence; value = body } ∷ []) ≡ entry_below sequence ranges es
entry_below-behind sequence ranges es body =
    let not_below : nat_lt sequence sequence ≡ false = le-ltb sequence sequence (omega arith) in
    ap last (filter-append (is_below_left sequence ranges) es (record { sequence = sequence; value = body } ∷ [])
    ∙ ap (λ b. filter (is_below_left sequence ranges) es ++ cond (b && not (is_ignored ranges sequence)) (record { sequence = sequence; value = body } ∷ []) []) not_below
    ∙ append-nil (filter (is_below_left sequence ranges) es))

-- a value is the same as itself
same_body : (body : Body) → is_same_body body body ≡ true
same_body Deletion = refl
same_body (Bytes bytes) = (bytes_eq-Decides bytes bytes).1 refl
same_body (Int number) = (Decides-int_eq number number).1 refl

-- ---- the own intent

module _ (h : History) (key : Key) (t : Txn) (local : Timestamp) (body : Body) (valid : IsValid h) (no_replay : replayed (own_intent (intent_of key h) (In t)) ≡ None) where
  -- the intent that the write left
  abbrev left : Intent
  left = new_intent key t (intent_of key h) local body

  -- and its entry
  abbrev entry : Entry Body
  entry = record { sequence = t.sequence; value = body }

  -- the entries before it
  abbrev kept : List (Entry Body)
  kept = kept_entries (own_intent (intent_of key h) (In t))

  kept-below : AllByRecursion (λ e. e.sequence < t.sequence) kept
  kept-below = (kept_entries-below h t (own_intent (intent_of key h) (In t)) (own_intent-is (IsStoredIntent h) (intent_of key h) t (some_intent-stored h key valid)) no_replay).below

  -- it is the writer's own, of its epoch
  own_intent-left : own_intent (intent_of key (with_intent left h)) (In t) ≡ Some (t, left)
  own_intent-left =
      ap (λ i. own_intent i (In t)) (intent_of-with_intent left h)
      ∙ ap (λ (b : Bool). of_epoch left (cond b (Some t) None)) ((bytes_eq-Decides t.id t.id).1 refl)
      ∙ ap (λ (b : Bool). cond b (Some (t, left)) None) (eq-eqb t.epoch t.epoch refl)

  -- so a write of the same sequence is a replay
  replayed-left : replayed (own_intent (intent_of key (with_intent left h)) (In t)) ≡ Some (t, left)
  replayed-left =
      let sequence : provisional_sequence left ≡ t.sequence = ap (λ e. unwrap_or (option_map (λ (d : Entry Body). d.sequence) e) 0) (last-append kept entry) in
      ap replayed own_intent-left
      ∙ ap (λ (n : ℕ). cond (nat_le t.sequence n) (Some (t, left)) None) sequence
      ∙ ap (λ (b : Bool). cond b (Some (t, left)) None) (le-leb t.sequence t.sequence (omega arith))

  -- it finds the entry that the first write left
  first_write-left : first_write t left ≡ Some entry
  first_write-left = find-behind kept entry kept-below

  -- the value before the write is still the one before it
  value_before-left : value_before (with_intent left h) (In t) key ≡ value_before h (In t) key
  unfolding value_before
  value_before-left =
      ap (λ own. entry_or_item (own_entry own) (newest (items (with_intent left h) key))) own_intent-left
      ∙ ap (λ is. entry_or_item (entry_below t.sequence t.ignored left.entries) (newest is)) (items-with_intent left h key)
      ∙ ap (λ e. entry_or_item e (newest (items h key))) (entry_below-behind t.sequence t.ignored kept body ∙ own (own_intent (intent_of key h) (In t)) (own_intent-is (λ i. ⊤) (intent_of key h) t (some (intent_of key h))))
    where
      some : (i : Option Intent) → IfSome i (λ j. ⊤)
      some None = tt
      some (Some i) = tt

      own : (o : Option (Txn × Intent)) → IfSome o (λ p. (p.0 ≡ t) × ⊤) → entry_below t.sequence t.ignored (kept_entries o) ≡ own_entry o
      own None is = refl
      own (Some p) is =
          let same = is.0 in
          ap (λ (u : Txn). entry_below u.sequence u.ignored (without_ignored (p.0).ignored (p.1).entries)) (sym same)
          ∙ ap last (below-left (p.0).sequence (p.0).ignored (p.1).entries)

  module _ (kind : WriteKind) (formed : new_body kind (value_before h (In t) key) ≡ Ok body) where
    -- the value that it would write is there
    replay-left : replay kind (value_before (with_intent left h) (In t) key) t.sequence (first_write t left) ≡ Ok (answer_to kind (value_before h (In t) key) body)
    replay-left =
        let same : not (is_body (new_body kind (value_before h (In t) key)) body) ≡ false = ap (λ r. not (is_body r body)) formed ∙ ap not (same_body body) in
        ap (λ b. replay kind b t.sequence (first_write t left)) value_before-left
        ∙ ap (replay kind (value_before h (In t) key) t.sequence) first_write-left
        ∙ unless_passes (not (is_body (new_body kind (value_before h (In t) key)) body)) (ReplayMismatch body) (answer_to kind (value_before h (In t) key) body) same

    -- the intent is in no way
    past_intent-left : (w : WriteRequest) → w.who ≡ In t → past_any_intent (intent_of key (with_intent left h)) w ≡ Ok w
    past_intent-left w inside =
        ap (λ i. past_any_intent i w) (intent_of-with_intent left h)
        ∙ ap (λ (who : Actor). past_intent left (own_txn t.id who) w) inside
        ∙ ap (λ (b : Bool). past_intent left (cond b (Some t) None) w) ((bytes_eq-Decides t.id t.id).1 refl)
        ∙ unless_passes (nat_lt t.epoch t.epoch) (EpochFault t.epoch t.epoch) w (le-ltb t.epoch t.epoch (omega arith))

    -- the write that is made again answers the same
    write-left : (sound : WriteRequest) → checked key (record { who = In t; kind = kind; local = local }) ≡ Ok sound
        → write (with_intent left h) key (record { who = In t; kind = kind; local = local }) ≡ Ok (record { history = with_intent left h; answer = answer_to kind (value_before h (In t) key) body })
    unfolding write
    write-left sound e =
        let w : WriteRequest = record { who = In t; kind = kind; local = local } in
        let before : Option Body = value_before (with_intent left h) (In t) key in
        step (checked key w) _ sound _ e
        (step (past_any_intent (intent_of key (with_intent left h)) w) _ w _ (past_intent-left w refl)
        (ap (first_or_replay (with_intent left h) key w before) replayed-left ∙ ap (unchanged (with_intent left h)) replay-left))

-- ---- a write made again

-- a first write is a replay where it is made again
first_time-again : (h : History) (key : Key) (t : Txn) (kind : WriteKind) (local : Timestamp) (sound : WriteRequest) (c : Changed WriteAnswer) → IsValid h
    → checked key (record { who = In t; kind = kind; local = local }) ≡ Ok sound → replayed (own_intent (intent_of key h) (In t)) ≡ None
    → first_time h key (record { who = In t; kind = kind; local = local }) (value_before h (In t) key) ≡ Ok c
    → write c.history key (record { who = In t; kind = kind; local = local }) ≡ Ok c
first_time-again h key t kind local sound c valid checks no_replay e =
    let w : WriteRequest = record { who = In t; kind = kind; local = local } in
    let before : Option Body = value_before h (In t) key in
    let recent = bind_ok (past_newest (newest (items h key)) w) _ c e in
    let met = bind_ok (unless_fault (not (meets_condition kind before)) (ConditionFailed before) w) _ c recent.2 in
    let body = bind_ok (new_body kind before) _ c met.2 in
    let after = bind_ok (written h key (In t) local body.0) _ c body.2 in
    let new : Intent = new_intent key t (intent_of key h) local body.0 in
    let size : ℕ = length (record_bytes (intent_record new)) in
    let put : with_intent new h ≡ after.0 = (unless_ok (nat_lt max_stored_length size) (IntentTooLong size) (with_intent new h) after.0 after.1).1 in
    let is : record { history = after.0; answer = answer_to kind before body.0 } ≡ c = cc (after.2) in
    subst (λ (d : Changed WriteAnswer). write d.history key w ≡ Ok d) is
    (subst (λ g. write g key w ≡ Ok (record { history = g; answer = answer_to kind before body.0 })) put (write-left h key t local body.0 valid no_replay kind body.1 sound checks))

-- a write in a transaction that is taken may be made again
pub write_may_repeat : WriteMayRepeat
unfolding write
write_may_repeat h key t kind local c valid e =
    let w : WriteRequest = record { who = In t; kind = kind; local = local } in
    let sound = bind_ok (checked key w) _ c e in
    let free = bind_ok (past_any_intent (intent_of key h) w) _ c sound.2 in
    by (replayed (own_intent (intent_of key h) (In t))) refl sound.0 sound.1 free.2
  where
    by : (own : Option (Txn × Intent)) → replayed (own_intent (intent_of key h) (In t)) ≡ own → (sound : WriteRequest) → checked key (record { who = In t; kind = kind; local = local }) ≡ Ok sound
        → first_or_replay h key (record { who = In t; kind = kind; local = local }) (value_before h (In t) key) own ≡ Ok c → write c.history key (record { who = In t; kind = kind; local = local }) ≡ Ok c
    by None is sound checks done = first_time-again h key t kind local sound c valid checks is done
    by (Some own) is sound checks done =
        subst (λ g. write g key (record { who = In t; kind = kind; local = local }) ≡ Ok c)
        (sym (unchanged-same h (replay kind (value_before h (In t) key) (own.0).sequence (first_write own.0 own.1)) c done)) e
