-- Why a resolution is refused.
use Rattle.std.specs.Prelude.{◌≡◌, ◌↔◌, ℕ, true, false, List, ◌∷◌, ◌++◌, Option, Some, Ok, Err}
use Rattle.mvcc_key.specs.Order.{Timestamp, is_before, Key}
use Rattle.mvcc_key.specs.History.{Intent, History, intent_of}
use Rattle.mvcc_key.specs.Refusal.{Refusal, BadSpan, CommitBelowIntent}
use Rattle.mvcc_key.specs.Spans.{is_bad_span}
use Rattle.intent_resolve.specs.Resolve.{Committed, Update, Resolution, dropped, has_no_entry, is_of, resolve, resolve_range}
use Rattle.intent_resolve.specs.Resolved.{own_within, resolutions}

-- the transaction has committed in the epoch of this intent, entries of it are left, and the commit is below its timestamp
pub record IsCommittedBelow (u : Update) (i : Intent) (ts : Timestamp) : Type 0 where
  pub commits : u.status ≡ Committed
  pub epoch : u.epoch ≡ i.epoch
  pub left : has_no_entry (dropped u i) ≡ false
  pub told : ts ≡ i.ts
  pub below : is_before u.ts i.ts ≡ true

-- so it is with the key's intent, which is the transaction's
pub record MeetsHigher (h : History) (key : Key) (u : Update) (ts : Timestamp) : Type 0 where
  pub intent : Intent
  pub here : intent_of key h ≡ Some intent
  pub own : is_of u intent ≡ true
  pub higher : IsCommittedBelow u intent ts

-- so it is with the first of the handled intents of the span of which it is so: those before it have their resolutions
pub record MeetsHigherWithin (h : History) (start end : Key) (u : Update) (max : Option ℕ) (ts : Timestamp) : Type 0 where
  pub span : is_bad_span start end ≡ false
  pub before : List Intent
  pub intent : Intent
  pub behind : List Intent
  pub handled : own_within u start end max h ≡ before ++ intent ∷ behind
  pub before_are : List Resolution
  pub resolves : resolutions u before ≡ Ok before_are
  pub higher : IsCommittedBelow u intent ts

-- the one refusal of the resolution of a key has its cause
abbrev pub HasCause : History → Key → Update → Refusal → Type 0
HasCause h key u (CommitBelowIntent ts) = MeetsHigher h key u ts
HasCause h key u other = ⊥

-- so have those of the resolution of a span
abbrev pub HasSpanCause : History → Key → Key → Update → Option ℕ → Refusal → Type 0
HasSpanCause h start end u max BadSpan = is_bad_span start end ≡ true
HasSpanCause h start end u max (CommitBelowIntent ts) = MeetsHigherWithin h start end u max ts
HasSpanCause h start end u max other = ⊥

-- the resolution of a key is refused exactly for its cause
abbrev pub RefusalsHaveCauses : Type 0
RefusalsHaveCauses = (h : History) (key : Key) (u : Update) (why : Refusal) → (resolve h key u ≡ Err why) ↔ HasCause h key u why

-- so is that of a span
abbrev pub SpanRefusalsHaveCauses : Type 0
SpanRefusalsHaveCauses =
    (h : History) (start end : Key) (u : Update) (max : Option ℕ) (why : Refusal) → (resolve_range h start end u max ≡ Err why) ↔ HasSpanCause h start end u max why
