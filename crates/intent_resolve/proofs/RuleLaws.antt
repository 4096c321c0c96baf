-- What the rule makes of an intent, case by case, told by what the code finds.
use Rattle.std.specs.Prelude.{◌≡◌, ℕ, ◌==◌, ◌<◌, ◌≤◌, nat_le, nat_lt, not, Bool, true, false, cond, List, [], ◌∷◌, length, map, Option, Some, None, option_map, unwrap_or, Result, Ok, Err}
use Rattle.std.specs.List.{AllByRecursion}
use Rattle.std.proofs.Common.{refl, sym, ap, ◌∙◌, subst}
use Rattle.std.proofs.lemmas.Bool.{le-leb}
use Rattle.mvcc_key.specs.Limits.{max_count}
use Rattle.mvcc_key.specs.Lists.{is_empty, last}
use Rattle.mvcc_key.specs.Order.{Timestamp, is_before, later}
use Rattle.mvcc_key.specs.History.{Body, Deletion, Entry, Intent, SeqRange, is_ignored, without_ignored, entry_at}
use Rattle.mvcc_key.specs.Refusal.{Refusal, CommitBelowIntent}
use Rattle.mvcc_key.specs.Steps.{unless_fault}
use Rattle.mvcc_key.proofs.EachLaws.{All-append, All-filter, All-unmap, All-weaker}
use Rattle.mvcc_key.proofs.FilterLaws.{filter-all}
use Rattle.mvcc_value.specs.Encoding.{value_bytes}
use Rattle.intent_meta.specs.Entries.{some_entries}
use Rattle.intent_meta.specs.Rules.{AreRecordEntries, IsRecord}
use Rattle.intent_meta.specs.StoredPairs.{plain_entry, provisional, provisional_body, intent_record}
use Rattle.intent_meta.specs.views.Lent.{LentIntent, lent_intent}
use Rattle.intent_meta.proofs.LentLaws.{entries_with-plain}
use Rattle.intent_resolve.specs.Resolve.{Committed, Pending, Update, Resolution, Gone, Stays, Becomes, dropped, moved, moved_local, committed, gone_or, has_no_entry, resolution}
use Rattle.intent_resolve.specs.views.Left as left
use Rattle.intent_resolve.specs.views.Left.{IsRuled, left_by}

-- ---- entries

-- the entries of a record have sequences of 31 bits
counts_of : (before : Option ℕ) (limit : ℕ) (es : List (Entry (List ℕ))) → AreRecordEntries before limit es → AllByRecursion (λ e. e.sequence ≤ max_count) es
counts_of before limit [] are = tt
counts_of before limit (e ∷ es) are = ((are.0).sequence, counts_of (Some e.sequence) limit es are.1)

-- so have those of the intent that it is of
entries-count : (seen : LentIntent) (i : Intent) → seen ≡ lent_intent i → IsRecord seen.head → 0 < length i.entries → AllByRecursion (λ (e : Entry Body). e.sequence ≤ max_count) i.entries
entries-count seen i lent rules some =
    let own : IsRecord (intent_record i) = subst (λ (l : LentIntent). IsRecord l.head) lent rules in
    All-unmap (λ (e : Entry (List ℕ)). e.sequence ≤ max_count) plain_entry i.entries
    (subst (AllByRecursion (λ (e : Entry (List ℕ)). e.sequence ≤ max_count)) (entries_with-plain i some)
    (All-append (λ (e : Entry (List ℕ)). e.sequence ≤ max_count) (intent_record i).history _ (counts_of None (intent_record i).sequence (intent_record i).history own.entries) (own.sequence, tt)))

-- the last entry that is not ignored is the one that is seen at the greatest sequence
pub last-seen : (seen : LentIntent) (i : Intent) (ranges : List SeqRange) → seen ≡ lent_intent i → IsRecord seen.head → 0 < length i.entries
    → entry_at max_count ranges i.entries ≡ last (without_ignored ranges i.entries)
last-seen seen i ranges lent rules some =
    ap last (filter-all (λ e. nat_le e.sequence max_count) (without_ignored ranges i.entries)
    (All-filter (λ (e : Entry Body). nat_le e.sequence max_count ≡ true) (λ e. not (is_ignored ranges e.sequence)) i.entries
    (All-weaker (λ (e : Entry Body). e.sequence ≤ max_count) (λ (e : Entry Body). nat_le e.sequence max_count ≡ true) i.entries (λ e low. le-leb e.sequence max_count low) (entries-count seen i lent rules some))))

-- a list without a last element is empty
no_last : {X V : Type 0} (f : X → V) (xs : List X) → None ≡ option_map f (last xs) → is_empty xs ≡ true
no_last f [] e = refl
no_last f (x ∷ []) e = absurd cc
no_last f (x ∷ y ∷ xs) e = no_last f (y ∷ xs) e

-- one with a last element is not
some_last : {X V : Type 0} (f : X → V) (v : V) (xs : List X) → Some v ≡ option_map f (last xs) → is_empty xs ≡ false
some_last f v [] e = absurd cc
some_last f v (x ∷ xs) e = refl

-- where no plain entries are left none are
none_kept : (xs : List (Entry Body)) → None ≡ some_entries (map plain_entry xs) → is_empty xs ≡ true
none_kept [] e = refl
none_kept (x ∷ xs) e = absurd cc

-- where some are left, those are
some_kept : (xs : List (Entry Body)) (es : List (Entry (List ℕ))) → Some es ≡ some_entries (map plain_entry xs) → (is_empty xs ≡ false) × (es ≡ map plain_entry xs)
some_kept [] es e = absurd cc
some_kept (x ∷ xs) es e = (refl, cc)

-- an intent whose ignored entries are dropped is it with other entries
dropped-form : (u : Update) (i : Intent) → dropped u i ≡ record i { entries = (dropped u i).entries }
dropped-form u i = by (u.epoch == i.epoch)
  where
    part : Intent
    part = record i { entries = without_ignored u.ignored i.entries }

    by : (b : Bool) → cond b part i ≡ record i { entries = (cond b part i).entries }
    by true = refl
    by false = refl

-- what holds of all entries holds of those that are left
pub dropped-all : (P : Entry Body → Type 0) (u : Update) (i : Intent) → AllByRecursion P i.entries → AllByRecursion P (dropped u i).entries
dropped-all P u i all = by (u.epoch == i.epoch)
  where
    part : Intent
    part = record i { entries = without_ignored u.ignored i.entries }

    by : (b : Bool) → AllByRecursion P (cond b part i).entries
    by true = All-filter P (λ e. not (is_ignored u.ignored e.sequence)) i.entries all
    by false = all

module _ (u : Update) (i : Intent) where
  -- ---- a commit

  abbrev pub part : Intent
  part = record i { entries = without_ignored u.ignored i.entries }

  abbrev value : Entry Body → Body
  value e = e.value

  -- of another epoch: the intent goes
  pub commit-other : (u.epoch == i.epoch) ≡ false → IsRuled (resolution Committed u i) left.Gone
  commit-other other = record {
    resolution_is = Gone;
    resolves = ap (λ (b : Bool). gone_or (not b) (gone_or (has_no_entry (dropped u i)) (committed u (dropped u i)))) other;
    left_is = refl;
  }

  -- of its epoch the entries that are left decide
  commit-same : (u.epoch == i.epoch) ≡ true → resolution Committed u i ≡ gone_or (is_empty part.entries) (committed u part)
  commit-same same = λ j. gone_or (not (same j)) (gone_or (has_no_entry (cond (same j) part i)) (committed u (cond (same j) part i)))

  -- without entries it goes
  pub commit-none : (u.epoch == i.epoch) ≡ true → None ≡ option_map value (last part.entries) → IsRuled (resolution Committed u i) left.Gone
  commit-none same none = record {
    resolution_is = Gone;
    resolves = commit-same same ∙ ap (λ (b : Bool). gone_or b (committed u part)) (no_last value part.entries none);
    left_is = refl;
  }

  -- with entries it is settled
  commit-some : (body : Body) → (u.epoch == i.epoch) ≡ true → Some body ≡ option_map value (last part.entries) → resolution Committed u i ≡ committed u part
  commit-some body same some = commit-same same ∙ ap (λ (b : Bool). gone_or b (committed u part)) (some_last value body part.entries some)

  abbrev refused : Timestamp → Result Resolution Refusal
  refused t = Err (CommitBelowIntent t)

  -- below it the commit is refused
  pub commit-below : (body : Body) (old : Timestamp) → (u.epoch == i.epoch) ≡ true → Some body ≡ option_map value (last part.entries) → old ≡ i.ts → is_before u.ts old ≡ true
      → resolution Committed u i ≡ Err (CommitBelowIntent old)
  commit-below body old same some is below =
      commit-some body same some
      ∙ ap (λ (b : Bool). unless_fault b (CommitBelowIntent i.ts) (Becomes (provisional (moved u.ts part)))) (ap (is_before u.ts) (sym is) ∙ below)
      ∙ ap refused (sym is)

  -- and else the last entry becomes a version
  pub commit-above : (body : Body) (old local : Timestamp) → (u.epoch == i.epoch) ≡ true → Some body ≡ option_map value (last part.entries) → old ≡ i.ts → is_before u.ts old ≡ false
      → local ≡ moved_local i u.ts → IsRuled (resolution Committed u i) (left.Becomes (record { ts = u.ts; value = value_bytes body local u.ts }))
  commit-above body old local same some is above times =
      let bodies : body ≡ provisional_body part = ap (λ o. unwrap_or o Deletion) some in
      record {
        resolution_is = Becomes (provisional (moved u.ts part));
        resolves = commit-some body same some
            ∙ ap (λ (b : Bool). unless_fault b (CommitBelowIntent i.ts) (Becomes (provisional (moved u.ts part)))) (ap (is_before u.ts) (sym is) ∙ above);
        left_is = λ j. left.Becomes (record { ts = u.ts; value = value_bytes (bodies j) (times j) u.ts });
      }

  -- ---- a transaction that goes on

  -- of a later epoch than the intent: it goes
  pub pending-later : nat_lt i.epoch u.epoch ≡ true → IsRuled (resolution Pending u i) left.Gone
  pending-later later_epoch = record {
    resolution_is = Gone;
    resolves = ap (λ (b : Bool). gone_or b (gone_or (has_no_entry (dropped u i)) (Ok (Stays (moved (later i.ts u.ts) (dropped u i)))))) later_epoch;
    left_is = refl;
  }

  -- without entries it goes
  pub pending-none : nat_lt i.epoch u.epoch ≡ false → None ≡ some_entries (map plain_entry (dropped u i).entries) → IsRuled (resolution Pending u i) left.Gone
  pending-none not_later none = record {
    resolution_is = Gone;
    resolves = λ j. gone_or (not_later j) (gone_or (none_kept (dropped u i).entries none j) (Ok (Stays (moved (later i.ts u.ts) (dropped u i)))));
    left_is = refl;
  }

  -- and else it moves
  pub pending-some : (l : left.Left) (ts : Timestamp) (es : List (Entry (List ℕ))) → nat_lt i.epoch u.epoch ≡ false → Some es ≡ some_entries (map plain_entry (dropped u i).entries)
      → ts ≡ later i.ts u.ts → (es ≡ map plain_entry (dropped u i).entries → l ≡ left_by (Stays (moved ts (record i { entries = (dropped u i).entries })))) → IsRuled (resolution Pending u i) l
  pending-some l ts es not_later some times is =
      let kept = some_kept (dropped u i).entries es some in
      record {
        resolution_is = Stays (moved (later i.ts u.ts) (dropped u i));
        resolves = λ j. gone_or (not_later j) (gone_or (kept.0 j) (Ok (Stays (moved (later i.ts u.ts) (dropped u i)))));
        left_is = is kept.1 ∙ λ j. left_by (Stays (moved (times j) (sym (dropped-form u i) j)));
      }
