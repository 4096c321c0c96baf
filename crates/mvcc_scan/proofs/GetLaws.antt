-- A look at a key is the answer of a read of it.
use Rattle.std.specs.Prelude.{ℕ, true, false, List, [], ◌∷◌, find, Option, Some, None, option_map, Result, Ok, Err}
use Rattle.std.proofs.Common.{◌≡◌, refl, sym, ap, ap₂, subst, ◌∙◌}
use Rattle.mvcc_key.specs.Steps.{◌>>=◌, unless_fault}
use Rattle.mvcc_key.specs.Order.{Timestamp, Key}
use Rattle.mvcc_key.specs.History.{Body, Deletion, Bytes, Int, Intent, History, intent_of}
use Rattle.mvcc_key.specs.Items.{Item, items, newest_at}
use Rattle.mvcc_key.specs.Refusal.{IntentSeen, Refusal, BadOptions, Conflict}
use Rattle.mvcc_key.specs.views.Seen.{time_of}
use Rattle.mvcc_key.proofs.HistoryLaws.{intent_of-key}
use Rattle.mvcc_value.specs.declared.value.OwnedValue.{OwnedValue}
use Rattle.mvcc_value.specs.declared.value.OwnedValue.TheVariants as owned
use Rattle.intent_meta.specs.KeyHistory.{key_history}
use Rattle.txn_state.specs.Transaction.{read_time}
use Rattle.read_rule.specs.Read.{ReadRequest, row_of, Decision, item_row, past_uncertain, past_more_recent, past_any_intent, by_items, is_unsure, is_more_recent, decision, decide, listed_of, listed, are_bad_options, GetAnswer, get}
use Rattle.mvcc_cursor.specs.KeyHistory.{HasAlike}
use Rattle.mvcc_scan.specs.declared.kept.Kept.{Kept}
use Rattle.mvcc_scan.specs.declared.kept.Kept.TheVariants as code
use Rattle.mvcc_scan.specs.declared.met.Met.{Met}
use Rattle.mvcc_scan.specs.declared.look.Looked.{Looked}
use Rattle.mvcc_scan.specs.views.Kept.{IsKept, IsLooked, listed_as, met_as, row_with}

-- ---- another key with the same items

-- a decision, told with another key
abbrev rekeyed : Key → Decision → Decision
rekeyed key (Ok None) = Ok None
rekeyed key (Ok (Some row)) = Ok (row_of key (row.found).body (row.found).ts row.stored)
rekeyed key (Err why) = Err why

row-rekeyed : (a b : Key) (body : Body) (ts : Timestamp) (stored : ℕ) → Ok (row_of b body ts stored) ≡ rekeyed b (Ok (row_of a body ts stored))
row-rekeyed a b Deletion ts stored = refl
row-rekeyed a b (Bytes bytes) ts stored = refl
row-rekeyed a b (Int number) ts stored = refl

items-rekeyed : (a b : Key) (m u n : Option Item) → past_more_recent m (past_uncertain u (item_row b n)) ≡ rekeyed b (past_more_recent m (past_uncertain u (item_row a n)))
items-rekeyed a b (Some i) u n = refl
items-rekeyed a b None (Some i) n = refl
items-rekeyed a b None None None = refl
items-rekeyed a b None None (Some i) = row-rekeyed a b i.body i.ts _

-- items are no intent in the way
pub no_conflict : (key : Key) (m u n : Option Item) (s : List IntentSeen) → past_more_recent m (past_uncertain u (item_row key n)) ≡ Err (Conflict s) → ⊥
no_conflict key (Some i) u n s e = absurd cc
no_conflict key None (Some i) n s e = absurd cc
no_conflict key None None None s e = absurd cc
no_conflict key None None (Some i) s e = absurd cc

-- the row of a value with another key
kept-rekeyed : (a b : Key) (value : OwnedValue) (ts : Timestamp) (stored : ℕ) → rekeyed b (Ok (Some (row_with a value ts stored))) ≡ Ok (Some (row_with b value ts stored))
kept-rekeyed a b (owned.Bytes bytes) ts stored = refl
kept-rekeyed a b (owned.Int number) ts stored = refl

module _ (h : History) (r : ReadRequest) (a b : Key) (alike : HasAlike h a b) where
  module _ (none : intent_of b h ≡ None) where
    -- without an intent the items decide
    decision-rekeyed : decision r (key_history b h) ≡ rekeyed b (decision r (key_history a h))
    decision-rekeyed =
        ap (λ o. past_any_intent r o (by_items b r (items h b))) none
        ∙ items-rekeyed a b (find (is_more_recent r) (items h b)) (find (is_unsure r) (items h b)) (newest_at (read_time r.who) (items h b))
        ∙ ap (λ is. rekeyed b (by_items a r is)) (sym alike.items)
        ∙ ap (λ o. rekeyed b (past_any_intent r o (by_items a r (items h a)))) (sym (alike.intent ∙ none))

    decided_a : decision r (key_history a h) ≡ by_items a r (items h a)
    decided_a = ap (λ o. past_any_intent r o (by_items a r (items h a))) (alike.intent ∙ none)

    kept-other : (k : Kept) → IsKept r (key_history a h) k → IsKept r (key_history b h) k
    kept-other (code.Row value ts stored) e = decision-rekeyed ∙ ap (rekeyed b) e ∙ kept-rekeyed a b value (time_of ts) stored
    kept-other code.Nothing e = decision-rekeyed ∙ ap (rekeyed b) e
    kept-other (code.Conflict met) e =
        absurd (no_conflict a (find (is_more_recent r) (items h a)) (find (is_unsure r) (items h a)) (newest_at (read_time r.who) (items h a)) (met_as a met ∷ []) (sym decided_a ∙ e))
    kept-other (code.Uncertain ts local) e = decision-rekeyed ∙ ap (rekeyed b) e
    kept-other (code.TooOld ts) e = decision-rekeyed ∙ ap (rekeyed b) e
    kept-other (code.EpochFault own other) e = decision-rekeyed ∙ ap (rekeyed b) e

    listed-other : (o : Option Met) → listed_as a o ≡ listed_of r (intent_of a h) → listed_as b o ≡ listed_of r (intent_of b h)
    listed-other None e = sym (ap (listed_of r) none)
    listed-other (Some m) e = let nothing : listed_as a (Some m) ≡ [] = e ∙ ap (listed_of r) (alike.intent ∙ none) in absurd cc

  -- a look at a key with the same intent and items is a look at the other
  pub looked-alike : (l : Looked) → IsLooked r (key_history a h) l → IsLooked r (key_history b h) l
  looked-alike l looked = by (intent_of b h) refl
    where
      by : (o : Option Intent) → intent_of b h ≡ o → IsLooked r (key_history b h) l
      by None e = record { kept = kept-other e l.kept looked.kept; listed = listed-other e l.listed looked.listed }
      by (Some i) e =
          let same : a ≡ b = sym (intent_of-key a h i (alike.intent ∙ e)) ∙ intent_of-key b h i e in
          subst (λ k. IsLooked r (key_history k h) l) same looked

-- ---- the answer

-- the answer that a decision is
abbrev pub as_get : List IntentSeen → Decision → Result GetAnswer Refusal
as_get intents d = d >>= (λ found. Ok (record { found = option_map (λ row. row.found) found; intents = intents }))

-- with good options a read answers what is decided
pub get-decided : (h : History) (r : ReadRequest) (key : Key) → are_bad_options r ≡ false → get h r key ≡ as_get (listed_of r (intent_of key h)) (decision r (key_history key h))
unfolding get decide listed
get-decided h r key good =
    ap (λ b. unless_fault b BadOptions r >>= (λ _. as_get (listed_of r (intent_of key h)) (decision r (key_history key h)))) good

-- with bad ones it is refused
pub get-bad : (h : History) (r : ReadRequest) (key : Key) → are_bad_options r ≡ true → get h r key ≡ Err BadOptions
unfolding get decide listed
get-bad h r key bad =
    ap (λ b. unless_fault b BadOptions r >>= (λ _. as_get (listed_of r (intent_of key h)) (decision r (key_history key h)))) bad

-- what a look says of a read
pub get-looked : (h : History) (r : ReadRequest) (key : Key) → are_bad_options r ≡ false → (d : Decision) → decision r (key_history key h) ≡ d → (intents : List IntentSeen) → intents ≡ listed_of r (intent_of key h)
    → get h r key ≡ as_get intents d
get-looked h r key good d is intents listed_is = get-decided h r key good ∙ ap₂ as_get (sym listed_is) is

-- a refusal needs no list
pub get-refused : (h : History) (r : ReadRequest) (key : Key) → are_bad_options r ≡ false → (why : Refusal) → decision r (key_history key h) ≡ Err why → get h r key ≡ Err why
get-refused h r key good why is = get-decided h r key good ∙ ap (as_get (listed_of r (intent_of key h))) is
