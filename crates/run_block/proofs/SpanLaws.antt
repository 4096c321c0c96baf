-- The span of timestamps has the least and the greatest of them.
use Rattle.std.proofs.Common.{◌≡◌, Bool, true, false, cond, List, [], ◌∷◌, ◌++◌, refl, sym, ap, subst, ◌∙◌, append_assoc, arith}
use Rattle.std.specs.Prelude.{Option, Some, None, IsNone, IfSome, ◌↔◌, fold, MatchOption}
use Rattle.std.specs.List.{Contains}
use Rattle.std.specs.declared.cmp.Ordering.{Ordering}
use Rattle.std.specs.declared.cmp.Ordering.TheVariants.{Less, Equal, Greater}
use Rattle.std.specs.Ordering.{is_lt, is_le, ordering_reverse}
use Rattle.std.proofs.lemmas.List.{append-nil}
use Rattle.std.proofs.lemmas.List.Elements.{All-nil, All-cons, All-append, All-weaker, Contains-append_left, Contains-append_right}
use Rattle.mvcc_key.specs.Order.{Timestamp, time_cmp, is_before, is_up_to, later}
use Rattle.mvcc_key.specs.views.Seen.{time_of}
use Rattle.mvcc_key.specs.declared.timestamp.Timestamp.{Timestamp as Declared}
use Rattle.mvcc_key.proofs.OrderLaws.{time_cmp-total, time_cmp-IsAntisymmetric}
use Rattle.run_block.specs.TimeSpan.{IsLeast, IsGreatest, earlier, widened, span_of}
use Rattle.run_block.specs.views.Places.{span_seen}

-- ---- the order of timestamps

up_to_itself : (t : Timestamp) → is_up_to t t ≡ true
up_to_itself t = by (time_cmp t t) (time_cmp-total.antisymm t t)
  where
    by : (o : Ordering) → o ≡ ordering_reverse o → is_le o ≡ true
    by Less e = absurd cc
    by Equal e = refl
    by Greater e = absurd cc

up_to_of_before : (s t : Timestamp) → is_before s t ≡ true → is_up_to s t ≡ true
up_to_of_before s t h = by (time_cmp s t) h
  where
    by : (o : Ordering) → is_lt o ≡ true → is_le o ≡ true
    by Less e = refl
    by Equal e = refl
    by Greater e = absurd cc

up_to_of_not_before : (s t : Timestamp) → is_before s t ≡ false → is_up_to t s ≡ true
up_to_of_not_before s t h = ap is_le (time_cmp-total.antisymm t s) ∙ by (time_cmp s t) h
  where
    by : (o : Ordering) → is_lt o ≡ false → is_le (ordering_reverse o) ≡ true
    by Less e = absurd cc
    by Equal e = refl
    by Greater e = refl

up_to_along : (s t u : Timestamp) → is_up_to s t ≡ true → is_up_to t u ≡ true → is_up_to s u ≡ true
up_to_along s t u p q = by (time_cmp s t) refl (time_cmp t u) refl p q
  where
    by : (a : Ordering) → time_cmp s t ≡ a → (b : Ordering) → time_cmp t u ≡ b → is_le a ≡ true → is_le b ≡ true → is_up_to s u ≡ true
    by Less ea Less eb p q = ap is_le (time_cmp-total.trans s t u ea eb)
    by Less ea Equal eb p q = (let same : t ≡ u = time_cmp-IsAntisymmetric t u eb in subst (λ (v : Timestamp). is_up_to s v ≡ true) same (ap is_le ea))
    by Less ea Greater eb p q = absurd cc
    by Equal ea b eb p q = (let same : s ≡ t = time_cmp-IsAntisymmetric s t ea in subst (λ (v : Timestamp). is_up_to v u ≡ true) (sym same) (ap is_le eb ∙ q))
    by Greater ea b eb p q = absurd cc

-- ---- one timestamp more

contains_end : (times : List Timestamp) (t : Timestamp) → Contains (times ++ t ∷ []) t
contains_end times t = Contains-append_right times (t ∷ []) t (0, omega arith, refl)

least-more : (times : List Timestamp) (s t : Timestamp) → IsLeast times s → IsLeast (times ++ t ∷ []) (earlier s t)
least-more times s t h = by (is_before t s) refl
  where
    by : (b : Bool) → is_before t s ≡ b → IsLeast (times ++ t ∷ []) (cond b t s)
    by true e = record {
      one = contains_end times t;
      least = All-append (λ u. is_up_to t u ≡ true) times (t ∷ [])
          (All-weaker (λ u. is_up_to s u ≡ true) (λ u. is_up_to t u ≡ true) (λ u le. up_to_along t s u (up_to_of_before t s e) le) times h.least)
          (All-cons (λ u. is_up_to t u ≡ true) t [] (up_to_itself t) (All-nil (λ u. is_up_to t u ≡ true)));
    }
    by false e = record {
      one = Contains-append_left times (t ∷ []) s h.one;
      least = All-append (λ u. is_up_to s u ≡ true) times (t ∷ []) h.least
          (All-cons (λ u. is_up_to s u ≡ true) t [] (up_to_of_not_before t s e) (All-nil (λ u. is_up_to s u ≡ true)));
    }

greatest-more : (times : List Timestamp) (s t : Timestamp) → IsGreatest times s → IsGreatest (times ++ t ∷ []) (later s t)
greatest-more times s t h = by (is_before s t) refl
  where
    by : (b : Bool) → is_before s t ≡ b → IsGreatest (times ++ t ∷ []) (cond b t s)
    by true e = record {
      one = contains_end times t;
      greatest = All-append (λ u. is_up_to u t ≡ true) times (t ∷ [])
          (All-weaker (λ u. is_up_to u s ≡ true) (λ u. is_up_to u t ≡ true) (λ u le. up_to_along u s t le (up_to_of_before s t e)) times h.greatest)
          (All-cons (λ u. is_up_to u t ≡ true) t [] (up_to_itself t) (All-nil (λ u. is_up_to u t ≡ true)));
    }
    by false e = record {
      one = Contains-append_left times (t ∷ []) s h.one;
      greatest = All-append (λ u. is_up_to u s ≡ true) times (t ∷ []) h.greatest
          (All-cons (λ u. is_up_to u s ≡ true) t [] (up_to_of_not_before s t e) (All-nil (λ u. is_up_to u s ≡ true)));
    }

-- ---- spans

-- the span of the timestamps
abbrev IsSpanOf : List Timestamp → Option (Timestamp × Timestamp) → Type 0
IsSpanOf times span = MatchOption span (times ≡ []) (λ s. IsLeast times s.0 × IsGreatest times s.1)

span-more : (times : List Timestamp) (span : Option (Timestamp × Timestamp)) (t : Timestamp) → IsSpanOf times span → IsSpanOf (times ++ t ∷ []) (widened span t)
span-more times None t none =
    subst (λ (ts : List Timestamp). IsSpanOf (ts ++ t ∷ []) (Some (t, t))) (sym none) (
      record { one = (0, omega arith, refl); least = All-cons (λ u. is_up_to t u ≡ true) t [] (up_to_itself t) (All-nil (λ u. is_up_to t u ≡ true)) },
      record { one = (0, omega arith, refl); greatest = All-cons (λ u. is_up_to u t ≡ true) t [] (up_to_itself t) (All-nil (λ u. is_up_to u t ≡ true)) },
    )
span-more times (Some span) t h = (least-more times span.0 t h.0, greatest-more times span.1 t h.1)

span-fold : (times more : List Timestamp) (span : Option (Timestamp × Timestamp)) → IsSpanOf times span → IsSpanOf (times ++ more) (fold widened span more)
span-fold times [] span h = subst (λ (ts : List Timestamp). IsSpanOf ts span) (sym (append-nil times)) h
span-fold times (t ∷ more) span h =
    subst (λ (ts : List Timestamp). IsSpanOf ts (fold widened (widened span t) more)) (append_assoc times (t ∷ []) more)
    (span-fold (times ++ t ∷ []) more (widened span t) (span-more times span t h))

-- what a span that is kept says
pub record TellsSpan (span : Option (Declared × Declared)) (times : List Timestamp) : Type 0 where
  pub none : IsNone span ↔ (times ≡ [])
  pub least : IfSome span (λ s. IsLeast times (time_of s.0))
  pub greatest : IfSome span (λ s. IsGreatest times (time_of s.1))

none_contains : (times : List Timestamp) (t : Timestamp) → Contains times t → times ≡ [] → ⊥
none_contains [] t c e = (let lt = c.1 in omega arith)
none_contains (u ∷ times) t c e = cc

-- it has the least and the greatest of the timestamps, where there are any
pub tells-span : (span : Option (Declared × Declared)) (times : List Timestamp) → span_seen span ≡ span_of times → TellsSpan span times
tells-span span times is = by span (subst (IsSpanOf times) (sym is) (span-fold [] times None refl))
  where
    by : (span : Option (Declared × Declared)) → IsSpanOf times (span_seen span) → TellsSpan span times
    by None h = record { none = (λ e. h, λ e. refl); least = tt; greatest = tt }
    by (Some s) h = record { none = (λ e. absurd cc, λ e. absurd (none_contains times (time_of s.0) (h.0).one e)); least = h.0; greatest = h.1 }
