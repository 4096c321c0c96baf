-- Where a cursor stands at the key that is sought, and what is answered of it.
use Rattle.std.specs.Prelude.{◌≡◌, ℕ, ◌+◌, ◌*◌, ◌≤◌, List, Option, Some, None, Result, Ok, Err, Bool}
use Rattle.std.proofs.Common.{refl, sym, ap, ap₂, subst, ◌∙◌, arith}
use Rattle.mvcc_key.specs.Order.{Key}
use Rattle.mvcc_key.specs.History.{History, Intent, intent_of}
use Rattle.mvcc_key.specs.Refusal.{Refusal}
use Rattle.intent_meta.specs.Valid.{IsValid}
use Rattle.stat_delta.specs.declared.change.Change.{Change}
use Rattle.write_rule.specs.views.Seen.{Tells}
use Rattle.run_block.specs.RunFormat.{Run}
use Rattle.mvcc_cursor.specs.WellFormed.{history_in}
use Rattle.mvcc_cursor.specs.Standing.{Standing, Place, BeforeFirst, AtKey, PastLast, standing_over, at_place, anew, told, told_at, sought_key}
use Rattle.mvcc_cursor.proofs.LongKeyLaws.{long_keys-cut}
use Rattle.intent_resolve.specs.Resolve.{Update, of_update, resolve, resolve_found}
use Rattle.intent_resolve.specs.Planned.{Answers}
use Rattle.intent_resolve.specs.views.Seen.{refusal_of}
use Rattle.intent_resolve.specs.declared.fault.ResolveFault.{ResolveFault}

-- ---- where it stands

-- at the key, over the store, with no version given
pub record StandsAt (store : List Run) (key : Key) (s : Standing) : Type 0 where
  pub over : s.store ≡ store
  pub at_key : s.at ≡ AtKey key
  pub fresh : s ≡ anew s

-- after the key was sought
pub stands-at : (store : List Run) (key : Key) (first second : Standing) → first ≡ standing_over store → second ≡ at_place (AtKey key) first → StandsAt store key second
stands-at store key first second a b = record {
  over = ap (λ s. s.store) b ∙ ap (λ s. s.store) a;
  at_key = ap (λ s. s.at) b;
  fresh = b ∙ sym (ap anew b);
}

-- and after the versions were looked at
pub stands-still : (store : List Run) (key : Key) (second third : Standing) → StandsAt store key second → third ≡ anew second → StandsAt store key third
stands-still store key second third is c = record {
  over = ap (λ s. s.store) c ∙ is.over;
  at_key = ap (λ s. s.at) c ∙ is.at_key;
  fresh = c ∙ sym (ap anew c);
}

-- what is told there of the intent is what the history has
pub told-intent : (store : List Run) (key : Key) (s : Standing) → StandsAt store key s → (told s).intent ≡ intent_of key (history_in store)
told-intent store key s is = ap₂ (λ p (r : List Run). (told_at p (history_in r)).intent) is.at_key is.over

-- ---- what is answered

-- a key that is longer than any stored one is resolved as its first bytes are
resolve-cut : (h : History) (key : Key) (u : Update) → IsValid h → resolve h (sought_key key) u ≡ resolve h key u
unfolding resolve
resolve-cut h key u valid = ap (λ o. resolve_found u h (of_update u o)) (long_keys-cut h key valid).intent

-- so it is answered as those are
pub cut-answers : (r : Result (Change × Bool) ResolveFault) (h : History) (last : ℕ) (key : Key) (u : Update) → IsValid h → Answers r h last (sought_key key) u → Answers r h last key u
cut-answers (Ok planned) h last key u valid is = record { after = is.after; taken = sym (resolve-cut h key u valid) ∙ is.taken; change_is = is.change_is }
cut-answers (Err why) h last key u valid is = by (refusal_of why) is
  where
    by : (o : Option Refusal) → Tells o (resolve h (sought_key key) u) → Tells o (resolve h key u)
    by None e = tt
    by (Some r) e = sym (resolve-cut h key u valid) ∙ e

-- ---- looks

-- the looks of one seek and of two at versions
pub looks-within : (p s b seek more : ℕ) → seek ≤ 3 * (s + p) + b + 1 → more ≤ 2 * (s + p) → seek + more ≤ 8 * p + 6 * s + 4 * (b + 1)
looks-within p s b seek more first then = omega (arith, first, then)

-- ---- a refusal

-- a plan of the key that is refused is the answer
pub err-answers : (why : ResolveFault) (store : List Run) (s : Standing) (last : ℕ) (key : Key) (u : Update) → StandsAt store (sought_key key) s → IsValid (history_in store)
    → Tells (refusal_of why) (resolve (history_in s.store) (sought_key key) u) → Tells (refusal_of why) (resolve (history_in store) key u)
err-answers why store s last key u is valid e =
    cut-answers (Err why) (history_in store) last key u valid (subst (λ (r : List Run). Tells (refusal_of why) (resolve (history_in r) (sought_key key) u)) is.over e)

-- ---- at which key

-- the key at which it stands
pub record IsAt (s : Standing) : Type 0 where
  pub key : Key
  pub at : s.at ≡ AtKey key

-- where an intent is told it stands at a key
pub is_at : (s : Standing) (i : Intent) → (told s).intent ≡ Some i → IsAt s
is_at s i e = by s.at refl e
  where
    by : (p : Place) → s.at ≡ p → (told_at p (history_in s.store)).intent ≡ Some i → IsAt s
    by BeforeFirst is e = absurd cc
    by (AtKey key) is e = record { key = key; at = is }
    by PastLast is e = absurd cc

-- the intent that is told is that of the key
pub intent-there : (s : Standing) (key : Key) (i : Intent) → s.at ≡ AtKey key → (told s).intent ≡ Some i → intent_of key (history_in s.store) ≡ Some i
intent-there s key i at e = ap (λ p. (told_at p (history_in s.store)).intent) (sym at) ∙ e
