-- The record of the intent that a write leaves.
use Rattle.std.proofs.Common.{◌≡◌, ℕ, Bool, true, false, cond, List, [], ◌∷◌, length, map, Option, Some, None, refl, sym, ap, ◌∙◌, subst}
use Rattle.std.specs.Prelude.{◌==◌, option_map, unwrap_or, IfSome}
use Rattle.mvcc_key.specs.Lists.{before_last}
use Rattle.mvcc_key.specs.Order.{Timestamp, no_time, is_same_time, Key}
use Rattle.mvcc_key.specs.History.{Body, Deletion, is_deletion, version_name, Entry, Intent, kept_local}
use Rattle.mvcc_value.specs.Encoding.{value_bytes}
use Rattle.intent_meta.specs.PointPairs.{set_point, cleared_point}
use Rattle.intent_meta.specs.Record.{IntentRecord, record_bytes}
use Rattle.intent_meta.specs.StoredPairs.{RecordOf, VersionOf, stored_pair, plain_entry, provisional, provisional_body, provisional_sequence, stored_value, intent_record}
use Rattle.intent_meta.proofs.LentLaws.{last-append, before_last-append}
use Rattle.txn_state.specs.Transaction.{Txn, Actor, In}
use Rattle.write_rule.specs.Write.{of_epoch, own_intent, kept_entries, raised_time, new_intent}
use Rattle.write_rule.specs.Planned.{left_behind, intent_points}
use Rattle.write_rule.specs.views.Own.{IsOwn, AreOwn, time_behind}
use Rattle.write_rule.specs.views.Points.{pair_at, cleared_at, points_at}
use Rattle.write_rule.proofs.OpsLaws.{value_kept}
use Rattle.write_rule.specs.declared.own_intent.OwnIntent.{OwnIntent}

-- ---- the own intent

-- it is this one of the key
pub record HasOwn (own : OwnIntent) (who : Actor) (i : Option Intent) : Type 0 where
  pub intent : Intent
  pub is : i ≡ Some intent
  pub own_is : IsOwn own who intent

-- where there is one in the code there is one in the history
pub has_own : (own : OwnIntent) (o : Option OwnIntent) (who : Actor) (i : Option Intent) → o ≡ Some own → AreOwn o who i → HasOwn own who i
has_own own o who i is are = by i (subst (λ x. AreOwn x who i) is are)
  where
    by : (j : Option Intent) → AreOwn (Some own) who j → HasOwn own who j
    by None h = absurd h
    by (Some j) h = record { intent = j; is = refl; own_is = h }

-- of the writer's epoch it counts, and else it does not
pub own_counts : (own : OwnIntent) (who : Actor) (i : Intent) (b : Bool) → IsOwn own who i → (own.txn.now.epoch == i.epoch) ≡ b → own_intent (Some i) who ≡ (cond b (Some (own.txn.now, i)) None)
own_counts own who i b is epoch = ap (of_epoch i) is.mine ∙ ap (λ (c : Bool). cond c (Some (own.txn.now, i)) None) epoch

-- ---- the record

-- records with the same fields
pub same_fields : {id id' : List ℕ} {epoch epoch' sequence sequence' : ℕ} {ts : Timestamp} {deleted : Bool} {n : ℕ} {history : List (Entry (List ℕ))} → id ≡ id' → epoch ≡ epoch' → sequence ≡ sequence'
    → ◌≡◌ {A = IntentRecord} (record { id = id; epoch = epoch; sequence = sequence; ts = ts; deleted = deleted; value_length = n; history = history })
    (record { id = id'; epoch = epoch'; sequence = sequence'; ts = ts; deleted = deleted; value_length = n; history = history })
same_fields {ts} {deleted} {n} {history} ids epochs sequences = λ j. record { id = ids j; epoch = epochs j; sequence = sequences j; ts = ts; deleted = deleted; value_length = n; history = history }

-- what was left behind is cleared
cleared : (key : Key) (old : Option Intent) (new : Intent) → IfSome old (λ j. j.key ≡ key) → cleared_at key (time_behind new.ts old) ≡ left_behind old new
cleared key None new of_key = refl
cleared key (Some j) new of_key = by (is_same_time j.ts new.ts)
  where
    by : (b : Bool) → cleared_at key (cond b None (Some j.ts)) ≡ cond b [] (cleared_point (version_name (provisional j)) ∷ [])
    by true = refl
    by false = ap (λ k. cleared_point (record { key = k; ts = j.ts }) ∷ []) (sym of_key)

module _ (key : Key) (t : Txn) (i : Option Intent) (local : Timestamp) (body : Body) where
  abbrev new : Intent
  new = new_intent key t i local body

  abbrev kept : List (Entry Body)
  kept = kept_entries (own_intent i (In t))

  abbrev entry : Entry Body
  entry = record { sequence = t.sequence; value = body }

  -- its last entry is the value that is written
  pub new-body : provisional_body new ≡ body
  new-body = ap (λ e. unwrap_or (option_map (λ (d : Entry Body). d.value) e) Deletion) (last-append kept entry)

  pub new-sequence : provisional_sequence new ≡ t.sequence
  new-sequence = ap (λ e. unwrap_or (option_map (λ (d : Entry Body). d.sequence) e) 0) (last-append kept entry)

  -- the record of these fields is its record
  pub new_record-is : (ts : Timestamp) (deleted : Bool) (value_length : ℕ) (history : List (Entry (List ℕ))) → ts ≡ raised_time t.write_ts i → deleted ≡ is_deletion body
      → value_length ≡ length (stored_value (provisional new)) → history ≡ map plain_entry kept
      → record { id = t.id; epoch = t.epoch; sequence = t.sequence; ts = ts; deleted = deleted; value_length = value_length; history = history } ≡ intent_record new
  new_record-is ts deleted value_length history times deletes lengths entries =
      let deletion : deleted ≡ is_deletion (provisional_body new) = deletes ∙ ap is_deletion (sym new-body) in
      let before : history ≡ map plain_entry (before_last new.entries) = entries ∙ ap (map plain_entry) (sym (before_last-append kept entry)) in
      λ j. record { id = t.id; epoch = t.epoch; sequence = sym new-sequence j; ts = times j; deleted = deletion j; value_length = lengths j; history = before j }

  -- its provisional version has this value
  pub new-value : (ts : Timestamp) → ts ≡ raised_time t.write_ts i → stored_value (provisional new) ≡ value_bytes body local ts
  new-value ts times =
      let raised : Timestamp = raised_time t.write_ts i in
      ap (λ b. value_bytes b (kept_local local raised) raised) new-body ∙ value_kept body local raised ∙ ap (value_bytes body local) (sym times)

  -- ---- the points

  -- the points are those of the intent in the place of the old one
  pub put_points : (r : IntentRecord) (ts : Timestamp) (value : List ℕ) (left : Option Timestamp) → r ≡ intent_record new → ts ≡ raised_time t.write_ts i → value ≡ value_bytes body local ts
      → left ≡ time_behind ts i → IfSome i (λ j. j.key ≡ key) → points_at key (record_bytes r) ts value left ≡ intent_points i new
  put_points r ts value left records times values behind of_key =
      let head : set_point (pair_at key no_time (record_bytes r)) ≡ set_point (stored_pair (RecordOf new)) = ap (λ x. set_point (pair_at key no_time (record_bytes x))) records in
      let bytes : value ≡ stored_value (provisional new) = values ∙ sym (new-value ts times) in
      let version : set_point (pair_at key ts value) ≡ set_point (stored_pair (VersionOf (provisional new))) = λ j. set_point (pair_at key (times j) (bytes j)) in
      let rest : cleared_at key left ≡ left_behind i new = ap (cleared_at key) (behind ∙ ap (λ u. time_behind u i) times) ∙ cleared key i new of_key in
      λ j. head j ∷ version j ∷ rest j
