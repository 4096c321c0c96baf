-- What is known where a command was not refused.
use Rattle.std.proofs.Common.{◌≡◌, ◌≤◌, Bool, true, false, ltb, List, [], ◌∷◌, length, Result, Ok, refl, sym, subst}
use Rattle.std.specs.Prelude.{◌||◌, not, filter}
use Rattle.std.specs.List.{AllByRecursion}
use Rattle.std.proofs.lemmas.Bool.{or_parts, not-false, ltb-false, false_from_ne_true}
use Rattle.mvcc_key.specs.Steps.{◌>>=◌, unless_fault}
use Rattle.mvcc_key.specs.Lists.{is_empty, in_order}
use Rattle.mvcc_key.specs.Limits.{max_bound_length}
use Rattle.mvcc_key.specs.Order.{Timestamp, is_up_to, newer_first, Key, is_below}
use Rattle.mvcc_key.specs.Spans.{is_bad_span}
use Rattle.mvcc_key.specs.History.{Intent}
use Rattle.mvcc_key.specs.Refusal.{Refusal, unless_conflict, unless_too_old, at_or_above}
use Rattle.mvcc_key.proofs.EachLaws.{All-from_in_order, All-weaker, unfiltered}

-- a span of which a command may speak
pub record IsGoodSpan (start end : Key) : Type 0 where
  pub span : is_below start end ≡ true
  pub start_length : length start ≤ max_bound_length
  pub end_length : length end ≤ max_bound_length

-- a span that is not refused
pub good_span : (start end : Key) → is_bad_span start end ≡ false → IsGoodSpan start end
good_span start end h =
    let all = or_parts (not (is_below start end) || ltb max_bound_length (length start)) (ltb max_bound_length (length end)) h in
    let two = or_parts (not (is_below start end)) (ltb max_bound_length (length start)) all.0 in
    record { span = not-false _ two.0; start_length = ltb-false _ _ two.1; end_length = ltb-false _ _ all.1 }

-- it has a key
pub span_has_key : (start end : Key) → is_bad_span start end ≡ false → is_below start end ≡ true
span_has_key start end h = (good_span start end h).span

-- a step that tests, and did not refuse
pub past_test : {A B E : Type 0} (test : Bool) (fault : E) (x : A) (f : A → Result B E) (y : B) → (unless_fault test fault x >>= f) ≡ Ok y → (test ≡ false) × (f x ≡ Ok y)
past_test true fault x f y e = absurd cc
past_test false fault x f y e = (refl, e)

-- a step that no intent refused
pub past_conflict : {A B : Type 0} (intents : List Intent) (x : A) (f : A → Result B Refusal) (y : B) → (unless_conflict intents x >>= f) ≡ Ok y
    → (is_empty intents ≡ true) × (f x ≡ Ok y)
past_conflict intents x f y e = let r = past_test (not (is_empty intents)) _ x f y e in (not-false _ r.0, r.1)

-- a step that no timestamp refused
pub past_too_old : {A B : Type 0} (times : List Timestamp) (x : A) (f : A → Result B Refusal) (y : B) → (unless_too_old times x >>= f) ≡ Ok y
    → (times ≡ []) × (f x ≡ Ok y)
past_too_old [] x f y e = (refl, e)
past_too_old (t ∷ ts) x f y e = absurd cc

-- where no timestamps are in order, there are none
pub none_in_order : (times : List Timestamp) → in_order newer_first times ≡ [] → AllByRecursion (λ t. ⊥) times
none_in_order times h = All-from_in_order newer_first (λ t. ⊥) (λ s t e p. p) times (subst (AllByRecursion (λ t. ⊥)) (sym h) tt)

-- where ts is up to none of those that it is up to, it is up to none
pub none_newer : (ts : Timestamp) (times : List Timestamp) → AllByRecursion (λ t. ⊥) (filter (is_up_to ts) times) → AllByRecursion (λ t. is_up_to ts t ≡ false) times
none_newer ts times none =
    All-weaker (λ t. is_up_to ts t ≡ true → ⊥) (λ t. is_up_to ts t ≡ false) times (λ t. false_from_ne_true (is_up_to ts t)) (unfiltered (λ t. ⊥) (is_up_to ts) times none)

-- where none of some timestamps is at or above ts, ts is up to none of them
pub none_at_or_above : (ts : Timestamp) (times : List Timestamp) → at_or_above ts times ≡ [] → AllByRecursion (λ t. is_up_to ts t ≡ false) times
none_at_or_above ts times h = none_newer ts times (none_in_order (filter (is_up_to ts) times) h)
