-- A resolution is refused exactly for its cause.
use Rattle.std.specs.Prelude.{◌≡◌, ◌==◌, ℕ, nat_lt, not, Bool, true, false, cond, List, [], ◌∷◌, ◌++◌, length, Option, Some, None, Result, Ok, Err, ◌⊎◌}
use Rattle.std.proofs.Common.{refl, sym, ap, subst, ◌∙◌, inl, inr}
use Rattle.std.proofs.lemmas.Bool.{eqb-true, eq-eqb}
use Rattle.mvcc_key.specs.Steps.{◌>>=◌, unless_fault}
use Rattle.mvcc_key.specs.Order.{Timestamp, is_before, Key, later}
use Rattle.mvcc_key.specs.Spans.{Ranged, is_bad_span}
use Rattle.mvcc_key.specs.History.{Intent, History, Changed, intent_of, without_ignored}
use Rattle.mvcc_key.specs.Refusal.{Refusal, BadSpan, CommitBelowIntent}
use Rattle.mvcc_key.proofs.ByteLaws.{bind_ok, step}
use Rattle.mvcc_key.proofs.HistoryLaws.{intent_of-key}
use Rattle.intent_meta.specs.StoredPairs.{provisional}
use Rattle.intent_resolve.specs.Causes.{IsCommittedBelow, HasCause, HasSpanCause, RefusalsHaveCauses, SpanRefusalsHaveCauses}
use Rattle.intent_resolve.specs.Resolve.{TxnStatus, Committed, Aborted, Pending, Update, Resolution, Becomes, Stays, moved, dropped, committed, gone_or, has_no_entry, resolution, resolved, resolve, resolve_found, resolve_intent, resolve_range, is_of, of_update, rest_of_max, span_from}
use Rattle.intent_resolve.specs.Resolved.{own_within, own_intents, resolutions, resolved_all}
use Rattle.intent_resolve.proofs.RangeLaws.{resolve_range-bad_span, resolve_range-resolutions}
use Rattle.intent_resolve.proofs.ResolveLaws.{resolve-refused}

-- ---- steps that fail

-- the first step failed, or the ones behind it did
bind_err : {A B E : Type 0} (r : Result A E) (f : A → Result B E) (e : E) → (r >>= f) ≡ Err e → (r ≡ Err e) ⊎ ((x : A) × (r ≡ Ok x) × (f x ≡ Err e))
bind_err (Ok x) f e h = inr (x, refl, h)
bind_err (Err d) f e h = inl (let same : d ≡ e = cc in ap Err same)

-- the first step failed, since the one behind it cannot
mapped_err : {A B E : Type 0} (r : Result A E) (f : A → B) (e : E) → (r >>= λ x. Ok (f x)) ≡ Err e → r ≡ Err e
mapped_err (Ok x) f e h = absurd cc
mapped_err (Err d) f e h = let same : d ≡ e = cc in ap Err same

-- the steps fail where the first does
err_first : {A B E : Type 0} (r : Result A E) (f : A → Result B E) (e : E) → r ≡ Err e → (r >>= f) ≡ Err e
err_first r f e h = ap (λ x. x >>= f) h

-- a test that failed
unless_err : {A E : Type 0} (test : Bool) (fault e : E) (x : A) → unless_fault test fault x ≡ Err e → (test ≡ true) × (fault ≡ e)
unless_err true fault e x h = (refl, cc)
unless_err false fault e x h = absurd cc

-- an intent that does not go
gone_or_err : (b : Bool) (others : Result Resolution Refusal) (why : Refusal) → gone_or b others ≡ Err why → (b ≡ false) × (others ≡ Err why)
gone_or_err true others why e = absurd cc
gone_or_err false others why e = (refl, e)

-- a test whose negation fails holds
not_not : (b : Bool) → not b ≡ false → b ≡ true
not_not true e = refl
not_not false e = absurd cc

-- ---- one intent

-- dropping leaves the timestamp
dropped_ts : (u : Update) (i : Intent) → (dropped u i).ts ≡ i.ts
dropped_ts u i = by (u.epoch == i.epoch)
  where
    by : (b : Bool) → (cond b (record i { entries = without_ignored u.ignored i.entries }) i).ts ≡ i.ts
    by true = refl
    by false = refl

-- the refusal of an intent, and its cause
record IsRefused (u : Update) (i : Intent) (why : Refusal) : Type 0 where
  ts : Timestamp
  is : CommitBelowIntent ts ≡ why
  higher : IsCommittedBelow u i ts

-- what is refused is a commit
cause : (s : TxnStatus) (u : Update) (i : Intent) (why : Refusal) → u.status ≡ s → resolution s u i ≡ Err why → IsRefused u i why
cause Aborted u i why status e = absurd cc
cause Pending u i why status e =
    let one = gone_or_err (nat_lt i.epoch u.epoch) _ why e in
    let two = gone_or_err (has_no_entry (dropped u i)) (Ok (Stays (moved (later i.ts u.ts) (dropped u i)))) why one.1 in
    let never = two.1 in
    absurd cc
cause Committed u i why status e =
    let d : Intent = dropped u i in
    let one = gone_or_err (not (u.epoch == i.epoch)) (gone_or (has_no_entry d) (committed u d)) why e in
    let two = gone_or_err (has_no_entry d) (committed u d) why one.1 in
    let three = unless_err (is_before u.ts d.ts) (CommitBelowIntent d.ts) why (Becomes (provisional (moved u.ts d))) two.1 in
    record {
      ts = d.ts;
      is = three.1;
      higher = record {
        commits = status;
        epoch = eqb-true u.epoch i.epoch (not_not (u.epoch == i.epoch) one.0);
        left = two.0;
        told = dropped_ts u i;
        below = ap (is_before u.ts) (sym (dropped_ts u i)) ∙ three.0;
      };
    }

-- a commit below the intent is refused
refused_below : (u : Update) (i : Intent) (ts : Timestamp) → IsCommittedBelow u i ts → resolution u.status u i ≡ Err (CommitBelowIntent ts)
refused_below u i ts higher =
    let d : Intent = dropped u i in
    let refuses : Timestamp → Result Resolution Refusal = λ t. Err (CommitBelowIntent t) in
    ap (λ (s : TxnStatus). resolution s u i) higher.commits
    ∙ ap (λ (b : Bool). gone_or (not b) (gone_or (has_no_entry d) (committed u d))) (eq-eqb u.epoch i.epoch higher.epoch)
    ∙ ap (λ (b : Bool). gone_or b (committed u d)) higher.left
    ∙ ap (λ (b : Bool). unless_fault b (CommitBelowIntent d.ts) (Becomes (provisional (moved u.ts d)))) (ap (is_before u.ts) (dropped_ts u i) ∙ higher.below)
    ∙ ap refuses (dropped_ts u i ∙ sym higher.told)

-- ---- one key

-- a refused resolution of the key's intent is one of the intent
pub intent_err : (u : Update) (h : History) (i : Intent) (why : Refusal) → resolve_found u h (Some i) ≡ Err why → resolution u.status u i ≡ Err why
unfolding resolve_intent
intent_err u h i why e =
    let found : History → Changed Bool = λ after. record { history = after; answer = true } in
    mapped_err (resolution u.status u i) (resolved i.key h) why (mapped_err (resolve_intent u h i) found why e)

-- a refused resolution of a key meets an intent that the commit is below
refused_cause : (h : History) (key : Key) (u : Update) (why : Refusal) → resolve h key u ≡ Err why → HasCause h key u why
unfolding resolve
refused_cause h key u why e = by (intent_of key h) refl e
  where
    of_it : (i : Intent) (b : Bool) → intent_of key h ≡ Some i → is_of u i ≡ b → resolve_found u h (cond b (Some i) None) ≡ Err why → HasCause h key u why
    of_it i false here own p = absurd cc
    of_it i true here own p =
        let refused = cause u.status u i why refl (intent_err u h i why p) in
        subst (HasCause h key u) refused.is (record { intent = i; here = here; own = own; higher = refused.higher })

    by : (o : Option Intent) → intent_of key h ≡ o → resolve_found u h (of_update u o) ≡ Err why → HasCause h key u why
    by None here p = absurd cc
    by (Some i) here p = of_it i (is_of u i) here refl p

-- and where it meets one it is refused
cause_refuses : (h : History) (key : Key) (u : Update) (why : Refusal) → HasCause h key u why → resolve h key u ≡ Err why
cause_refuses h key u (CommitBelowIntent ts) met =
    let i : Intent = met.intent in
    let same : i.key ≡ key = intent_of-key key h i met.here in
    let there : intent_of i.key h ≡ Some i = subst (λ (k : Key). intent_of k h ≡ Some i) (sym same) met.here in
    subst (λ (k : Key). resolve h k u ≡ Err (CommitBelowIntent ts)) same (resolve-refused h u i (CommitBelowIntent ts) there met.own (refused_below u i ts met.higher))
cause_refuses h key u other met = absurd met

-- the resolution of a key is refused exactly for its cause
pub refusals_have_causes : RefusalsHaveCauses
refusals_have_causes h key u why = (refused_cause h key u why, cause_refuses h key u why)

-- ---- several intents

-- the first of intents that is refused
record FirstRefused (u : Update) (is : List Intent) (why : Refusal) : Type 0 where
  before : List Intent
  intent : Intent
  behind : List Intent
  are : is ≡ before ++ intent ∷ behind
  before_are : List Resolution
  resolves : resolutions u before ≡ Ok before_are
  refused : resolution u.status u intent ≡ Err why

-- there is one, where their resolutions are refused
first_refused : (u : Update) (is : List Intent) (why : Refusal) → resolutions u is ≡ Err why → FirstRefused u is why
first_refused u [] why e = absurd cc
first_refused u (i ∷ is) why e =
    elim (bind_err (resolution u.status u i) (λ r. resolutions u is >>= λ rs. Ok (r ∷ rs)) why e) [
      | inl here ↦ record { before = []; intent = i; behind = is; are = refl; before_are = []; resolves = refl; refused = here }
      | inr x ↦
          let r : Resolution = x.0 in
          let rest = first_refused u is why (mapped_err (resolutions u is) (λ rs. r ∷ rs) why x.2) in
          record {
            before = i ∷ rest.before;
            intent = rest.intent;
            behind = rest.behind;
            are = ap (λ (l : List Intent). i ∷ l) rest.are;
            before_are = r ∷ rest.before_are;
            resolves = step (resolution u.status u i) (λ q. resolutions u rest.before >>= λ rs. Ok (q ∷ rs)) r (Ok (r ∷ rest.before_are)) x.1
                (step (resolutions u rest.before) (λ rs. Ok (r ∷ rs)) rest.before_are (Ok (r ∷ rest.before_are)) rest.resolves refl);
            refused = rest.refused;
          }
    ]

-- and where there is one they are refused
refused_first : (u : Update) (before : List Intent) (i : Intent) (behind : List Intent) (why : Refusal) (rs : List Resolution) → resolutions u before ≡ Ok rs → resolution u.status u i ≡ Err why
    → resolutions u (before ++ i ∷ behind) ≡ Err why
refused_first u [] i behind why rs ok refused = err_first (resolution u.status u i) (λ r. resolutions u behind >>= λ qs. Ok (r ∷ qs)) why refused
refused_first u (j ∷ js) i behind why rs ok refused =
    let one = bind_ok (resolution u.status u j) (λ r. resolutions u js >>= λ qs. Ok (r ∷ qs)) rs ok in
    let r : Resolution = one.0 in
    let two = bind_ok (resolutions u js) (λ qs. Ok (r ∷ qs)) rs one.2 in
    step (resolution u.status u j) (λ q. resolutions u (js ++ i ∷ behind) >>= λ qs. Ok (q ∷ qs)) r (Err why) one.1
    (err_first (resolutions u (js ++ i ∷ behind)) (λ qs. Ok (r ∷ qs)) why (refused_first u js i behind why two.0 two.1 refused))

module _ (h : History) (start end : Key) (u : Update) (max : Option ℕ) where
  abbrev own : List Intent
  own = own_within u start end max h

  abbrev taken : List Resolution → Changed Ranged
  taken rs = record {
    history = resolved_all own rs h;
    answer = record { count = length own; resume = span_from end (rest_of_max max (own_intents u start end h)) };
  }

  -- a refused resolution of a span has its cause
  span_cause : (why : Refusal) → resolve_range h start end u max ≡ Err why → HasSpanCause h start end u max why
  span_cause why e = by (is_bad_span start end) refl
    where
      by : (b : Bool) → is_bad_span start end ≡ b → HasSpanCause h start end u max why
      by true bad =
          let both : Err BadSpan ≡ Err why = sym (resolve_range-bad_span h start end u max bad) ∙ e in
          let same : BadSpan ≡ why = cc in
          subst (HasSpanCause h start end u max) same bad
      by false good =
          let first = first_refused u own why (mapped_err (resolutions u own) taken why (sym (resolve_range-resolutions h start end u max good) ∙ e)) in
          let refused = cause u.status u first.intent why refl first.refused in
          subst (HasSpanCause h start end u max) refused.is (record {
            span = good;
            before = first.before;
            intent = first.intent;
            behind = first.behind;
            handled = first.are;
            before_are = first.before_are;
            resolves = first.resolves;
            higher = refused.higher;
          })

  -- and with its cause it is refused
  cause_refuses_span : (why : Refusal) → HasSpanCause h start end u max why → resolve_range h start end u max ≡ Err why
  cause_refuses_span BadSpan bad = resolve_range-bad_span h start end u max bad
  cause_refuses_span (CommitBelowIntent ts) met =
      let refuses : resolutions u own ≡ Err (CommitBelowIntent ts) =
      ap (resolutions u) met.handled ∙ refused_first u met.before met.intent met.behind (CommitBelowIntent ts) met.before_are met.resolves (refused_below u met.intent ts met.higher) in
      resolve_range-resolutions h start end u max met.span ∙ err_first (resolutions u own) (λ rs. Ok (taken rs)) (CommitBelowIntent ts) refuses
  cause_refuses_span other met = absurd met

-- the resolution of a span is refused exactly for its cause
pub span_refusals_have_causes : SpanRefusalsHaveCauses
span_refusals_have_causes h start end u max why = (span_cause h start end u max why, cause_refuses_span h start end u max why)
