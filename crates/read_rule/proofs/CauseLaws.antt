-- Each refusal of a read comes exactly by its cause.
use Rattle.std.proofs.Common.{◌≡◌, Bool, true, false, cond, [], ◌∷◌, Option, Some, None, Err, refl, sym, ap, ◌∙◌}
use Rattle.std.specs.Prelude.{◌&&◌, not, nat_lt, find, is_some, ◌↔◌, IsTrue}
use Rattle.std.specs.List.{list_any}
use Rattle.mvcc_key.specs.Order.{Key}
use Rattle.mvcc_key.specs.History.{Body, Entry, Intent}
use Rattle.mvcc_key.specs.Items.{Item, newest_at}
use Rattle.mvcc_key.specs.Refusal.{seen as seen_of, Conflict, EpochFault, TooOld, Uncertain}
use Rattle.mvcc_key.proofs.FindLaws.{find-any}
use Rattle.intent_meta.specs.KeyHistory.{KeyHistory}
use Rattle.txn_state.specs.Transaction.{Txn, read_time, own_txn}
use Rattle.read_rule.specs.Read.{ReadRequest, Decision, item_row, past_uncertain, past_more_recent, by_items, is_more_recent, is_unsure, entry_of, entry_row, is_conflict, past_intent, past_any_intent, decision}
use Rattle.read_rule.specs.Causes.{is_foreign_conflict, meets_conflict, is_later_epoch, meets_later_epoch, is_past_intent, meets_more_recent, meets_uncertain}
use Rattle.read_rule.specs.views.Decided as seen
use Rattle.read_rule.specs.declared.decision.Decision.{Decision as Decided}
use Rattle.read_rule.specs.declared.decision.Decision.TheVariants as code

-- which refusal a decision is
abbrev conflicts : Decision → Bool
conflicts (Err (Conflict intents)) = true
conflicts other = false

abbrev faults : Decision → Bool
faults (Err (EpochFault own other)) = true
faults others = false

abbrev is_old : Decision → Bool
is_old (Err (TooOld ts)) = true
is_old other = false

abbrev doubts : Decision → Bool
doubts (Err (Uncertain ts local)) = true
doubts other = false

-- the part of a decision that each refusal's cause needs
record Told (d : Decision) (conflict epoch old unsure : Bool) : Type 0 where
  conflict_is : conflicts d ≡ conflict
  epoch_is : faults d ≡ epoch
  old_is : is_old d ≡ old
  unsure_is : doubts d ≡ unsure

-- an answer is no refusal
told_row : (key : Key) (o : Option Item) → Told (item_row key o) false false false false
told_row key None = record { conflict_is = refl; epoch_is = refl; old_is = refl; unsure_is = refl }
told_row key (Some i) = record { conflict_is = refl; epoch_is = refl; old_is = refl; unsure_is = refl }

told_items : (key : Key) (o n : Option Item) (row : Decision) → Told row false false false false
    → Told (past_more_recent o (past_uncertain n row)) false false (is_some o) (not (is_some o) && is_some n)
told_items key None None row h = h
told_items key None (Some i) row h = record { conflict_is = refl; epoch_is = refl; old_is = refl; unsure_is = refl }
told_items key (Some i) n row h = record { conflict_is = refl; epoch_is = refl; old_is = refl; unsure_is = refl }

told_by_items : (r : ReadRequest) (k : KeyHistory)
    → Told (by_items k.key r k.items) false false (list_any (is_more_recent r) k.items) (not (list_any (is_more_recent r) k.items) && list_any (is_unsure r) k.items)
told_by_items r k =
    rw (sym (find-any (is_more_recent r) k.items), sym (find-any (is_unsure r) k.items))
    (told_items k.key (find (is_more_recent r) k.items) (find (is_unsure r) k.items) (item_row k.key (newest_at (read_time r.who) k.items)) (told_row k.key (newest_at (read_time r.who) k.items)))

-- past an intent
told_entry : (i : Intent) (e : Option (Entry Body)) (others : Decision) (old unsure : Bool) → Told others false false old unsure
    → Told (entry_row i e others) false false (not (is_some e) && old) (not (is_some e) && unsure)
told_entry i None others old unsure h = h
told_entry i (Some e) others old unsure h = record { conflict_is = refl; epoch_is = refl; old_is = refl; unsure_is = refl }

told_intent : (r : ReadRequest) (i : Intent) (t : Option Txn) (others : Decision) (old unsure : Bool) → Told others false false old unsure
    → Told (past_intent r i t others) (is_foreign_conflict r i t) (is_later_epoch i t)
    (not (is_foreign_conflict r i t) && not (is_later_epoch i t) && not (is_some (entry_of i t)) && old)
    (not (is_foreign_conflict r i t) && not (is_later_epoch i t) && not (is_some (entry_of i t)) && unsure)
told_intent r i None others old unsure h = by (is_conflict r i)
  where
    by : (b : Bool) → Told (cond b (Err (Conflict (seen_of i ∷ []))) others) b false (not b && true && true && old) (not b && true && true && unsure)
    by true = record { conflict_is = refl; epoch_is = refl; old_is = refl; unsure_is = refl }
    by false = h
told_intent r i (Some t) others old unsure h = by (nat_lt t.epoch i.epoch) (told_entry i (entry_of i (Some t)) others old unsure h)
  where
    by : (b : Bool) → Told (entry_row i (entry_of i (Some t)) others) false false (not (is_some (entry_of i (Some t))) && old) (not (is_some (entry_of i (Some t))) && unsure)
        → Told (cond b (Err (EpochFault t.epoch i.epoch)) (entry_row i (entry_of i (Some t)) others)) false b
        (true && not b && not (is_some (entry_of i (Some t))) && old) (true && not b && not (is_some (entry_of i (Some t))) && unsure)
    by true h = record { conflict_is = refl; epoch_is = refl; old_is = refl; unsure_is = refl }
    by false h = h

told_any : (r : ReadRequest) (o : Option Intent) (others : Decision) (old unsure : Bool) → Told others false false old unsure
    → Told (past_any_intent r o others) (meets_conflict r o) (meets_later_epoch r o) (is_past_intent r o && old) (is_past_intent r o && unsure)
told_any r None others old unsure h = h
told_any r (Some i) others old unsure h = told_intent r i (own_txn i.id r.who) others old unsure h

told : (r : ReadRequest) (k : KeyHistory) → Told (decision r k) (meets_conflict r k.intent) (meets_later_epoch r k.intent) (meets_more_recent r k) (meets_uncertain r k)
told r k = told_any r k.intent (by_items k.key r k.items) (list_any (is_more_recent r) k.items) (not (list_any (is_more_recent r) k.items) && list_any (is_unsure r) k.items) (told_by_items r k)

-- what the code answers is the refusal that it is
record Same (r : ReadRequest) (k : KeyHistory) (d : Decided) : Type 0 where
  conflict_is : seen.is_conflict d ≡ conflicts (decision r k)
  epoch_is : seen.is_epoch_fault d ≡ faults (decision r k)
  old_is : seen.is_too_old d ≡ is_old (decision r k)
  unsure_is : seen.is_uncertain d ≡ doubts (decision r k)

same : (r : ReadRequest) (k : KeyHistory) (d : Decided) → seen.IsDecision r k d → Same r k d
same r k (code.Value bytes ts) h = record { conflict_is = ap conflicts (sym h.is); epoch_is = ap faults (sym h.is); old_is = ap is_old (sym h.is); unsure_is = ap doubts (sym h.is) }
same r k code.Nothing h = record { conflict_is = ap conflicts (sym h); epoch_is = ap faults (sym h); old_is = ap is_old (sym h); unsure_is = ap doubts (sym h) }
same r k (code.Conflict id ts) h = record { conflict_is = ap conflicts (sym h); epoch_is = ap faults (sym h); old_is = ap is_old (sym h); unsure_is = ap doubts (sym h) }
same r k (code.Uncertain ts local) h = record { conflict_is = ap conflicts (sym h); epoch_is = ap faults (sym h); old_is = ap is_old (sym h); unsure_is = ap doubts (sym h) }
same r k (code.TooOld ts) h = record { conflict_is = ap conflicts (sym h); epoch_is = ap faults (sym h); old_is = ap is_old (sym h); unsure_is = ap doubts (sym h) }
same r k (code.EpochFault own other) h = record { conflict_is = ap conflicts (sym h); epoch_is = ap faults (sym h); old_is = ap is_old (sym h); unsure_is = ap doubts (sym h) }

-- equal truth values
exactly : (a b : Bool) → a ≡ b → IsTrue a ↔ IsTrue b
exactly a b e = (λ h. sym e ∙ h, λ h. e ∙ h)

-- each refusal comes exactly by its cause
pub record HasCauses (r : ReadRequest) (k : KeyHistory) (d : Decided) : Type 0 where
  pub conflict : IsTrue (seen.is_conflict d) ↔ IsTrue (meets_conflict r k.intent)
  pub epoch : IsTrue (seen.is_epoch_fault d) ↔ IsTrue (meets_later_epoch r k.intent)
  pub too_old : IsTrue (seen.is_too_old d) ↔ IsTrue (meets_more_recent r k)
  pub uncertain : IsTrue (seen.is_uncertain d) ↔ IsTrue (meets_uncertain r k)

pub has_causes : (r : ReadRequest) (k : KeyHistory) (d : Decided) → seen.IsDecision r k d → HasCauses r k d
has_causes r k d h =
    let s = same r k d h in
    let t = told r k in
    record {
      conflict = exactly _ _ (s.conflict_is ∙ t.conflict_is);
      epoch = exactly _ _ (s.epoch_is ∙ t.epoch_is);
      too_old = exactly _ _ (s.old_is ∙ t.old_is);
      uncertain = exactly _ _ (s.unsure_is ∙ t.unsure_is);
    }
