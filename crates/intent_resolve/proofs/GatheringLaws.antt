-- A walk over a transaction's intents of a span gathers them in order, and what it has gathered at its end is the answer.
use Rattle.std.specs.Prelude.{◌≡◌, ℕ, ◌<◌, Bool, true, false, List, [], ◌∷◌, ◌++◌, length, take, Option, Some, None, Result, Ok, Err, IsTrue}
use Rattle.std.specs.List.{AllByRecursion}
use Rattle.std.proofs.Common.{refl, sym, ap, subst, ◌∙◌, arith, zero, suc}
use Rattle.std.proofs.lemmas.Bool.{ltb-true, ltb-false}
use Rattle.mvcc_key.specs.Lists.{first}
use Rattle.mvcc_key.specs.Steps.{◌>>=◌}
use Rattle.mvcc_key.specs.Order.{Key, is_in_range}
use Rattle.mvcc_key.specs.Refusal.{Refusal}
use Rattle.mvcc_key.specs.Spans.{Span, Ranged, is_bad_span}
use Rattle.mvcc_key.specs.History.{Intent, History, Changed, intent_of}
use Rattle.mvcc_key.proofs.HistoryLaws.{intent_of-key}
use Rattle.intent_meta.proofs.AcceptedLaws.{good_span}
use Rattle.stat_delta.specs.Moments.{IsStoredBy}
use Rattle.stat_delta.specs.declared.change.Change.{Change}
use Rattle.write_rule.specs.views.Seen.{Tells}
use Rattle.run_block.specs.RunFormat.{Run}
use Rattle.mvcc_cursor.specs.KeyPoints.{key_in, key_from}
use Rattle.mvcc_cursor.specs.Standing.{Standing, AtKey, anew, here, told, told_at, stored, standing_over, at_place, or_past, next_place, sought_key}
use Rattle.mvcc_cursor.specs.WellFormed.{IsWellFormed, history_in}
use Rattle.intent_resolve.specs.Resolve.{Update, is_of, resolution, resolve, resolve_found, resolve_each, first_of_max, rest_of_max, span_from, resolve_range}
use Rattle.intent_resolve.specs.Resolved.{own_intents}
use Rattle.intent_resolve.specs.Planned.{IsPlannedRange}
use Rattle.intent_resolve.specs.views.Gathered.{Done, IsDone, IsGathered, IsGatheredWith, IsChangeOfAll, handled_of, after_all}
use Rattle.intent_resolve.specs.views.Seen.{refusal_of}
use Rattle.intent_resolve.specs.views.Walked.{own_from, StandsStored, StandsAtOwn, HasCome, is_room, span_if}
use Rattle.intent_resolve.specs.declared.fault.ResolveFault.{ResolveFault}
use Rattle.intent_resolve.specs.declared.gathered.Gathered.{Gathered}
use Rattle.intent_resolve.proofs.CauseLaws.{intent_err}
use Rattle.intent_resolve.proofs.GatherLaws.{resolve_each-done, resolve_each-refused}
use Rattle.intent_resolve.proofs.LookLaws.{own_of}
use Rattle.intent_resolve.proofs.ResolveLaws.{of_update-own}
use Rattle.intent_resolve.proofs.SpanPlanLaws.{IsUpTo, IsFull, append-one, handled-length, parted-end, parted-full, range-planned}
use Rattle.intent_resolve.proofs.WalkLaws.{seek-own, next-own, own-first, shown-key}

-- ---- how many may be handled

-- none may be
up-none : (max : Option ℕ) → IsUpTo max 0
up-none None = tt
up-none (Some n) = omega arith

-- where there is room, one more
up-more : (max : Option ℕ) (n count : ℕ) → count ≡ n → is_room max count ≡ true → IsUpTo max (suc n)
up-more None n count same room = tt
up-more (Some m) n count same room = let less = ltb-true count m room in omega (arith, same, less)

-- and where there is none, no more
full-here : (max : Option ℕ) (n count : ℕ) → count ≡ n → is_room max count ≡ false → IsFull max n
full-here None n count same room = absurd cc
full-here (Some m) n count same room = let up = ltb-false count m room in omega (arith, same, up)

-- an intent behind others is among the first so many, where more are than the others
take-more : (xs : List Intent) (y : Intent) (ys : List Intent) (n : ℕ) → length xs < n → (js : List Intent) × (take n (xs ++ y ∷ ys) ≡ xs ++ y ∷ js)
take-more [] y ys zero less = absurd (omega (arith, less))
take-more [] y ys (suc n) less = (take n ys, refl)
take-more (x ∷ xs) y ys zero less = absurd (omega (arith, less))
take-more (x ∷ xs) y ys (suc n) less = let rest = take-more xs y ys n (omega (arith, less)) in (rest.0, ap (λ (l : List Intent). x ∷ l) rest.1)

first-more : (max : Option ℕ) (xs : List Intent) (y : Intent) (ys : List Intent) → IsUpTo max (suc (length xs)) → (js : List Intent) × (first_of_max max (xs ++ y ∷ ys) ≡ xs ++ y ∷ js)
first-more None xs y ys up = (ys, refl)
first-more (Some n) xs y ys up = take-more xs y ys n (omega (arith, up))

-- ---- a refusal

-- a refused resolution of a key is one of its intent
resolution-refused : (h : History) (key : Key) (u : Update) (i : Intent) (why : Refusal) → intent_of key h ≡ Some i → is_of u i ≡ true → resolve h key u ≡ Err why → resolution u.status u i ≡ Err why
unfolding resolve
resolution-refused h key u i why is own e = intent_err u h i why (sym (ap (resolve_found u h) (of_update-own h key u i is own)) ∙ e)

-- where one of those to be handled is refused, the span is
range-refused : (h : History) (start end : Key) (u : Update) (max : Option ℕ) (ds : List Done) (i : Intent) (rest : List Intent) (why : Refusal) → is_bad_span start end ≡ false
    → own_intents u start end h ≡ handled_of ds ++ i ∷ rest → IsUpTo max (suc (length ds)) → AllByRecursion (IsDone u h) ds → resolution u.status u i ≡ Err why
    → resolve_range h start end u max ≡ Err why
unfolding resolve_range
range-refused h start end u max ds i rest why good own up each refused =
    let more = first-more max (handled_of ds) i rest (subst (λ n. IsUpTo max (suc n)) (sym (handled-length ds)) up) in
    rw good (ap (λ (x : Result History Refusal). x >>= answered)
    (ap (λ (js : List Intent). resolve_each u h (first_of_max max js)) own
    ∙ ap (resolve_each u h) more.1
    ∙ resolve_each-refused u h (handled_of ds) more.0 (after_all ds h) i why (resolve_each-done u h ds each) refused))
  where
    answered : History → Result (Changed Ranged) Refusal
    answered after = Ok (record {
      history = after;
      answer = record { count = length (first_of_max max (own_intents u start end h)); resume = span_from end (rest_of_max max (own_intents u start end h)) };
    })

-- ---- the walk

-- it has come to the next of the intents from a place on, or there is none
record HasComeIn (u : Update) (end : Key) (store : List Run) (old new : Standing) (found : Bool) : Type 0 where
  pub over : new.store ≡ store
  pub stands : StandsStored new
  pub left : own_from u new.at end (history_in store) ≡ own_from u old.at end (history_in store)
  pub at_own : found ≡ true → StandsAtOwn u end new
  pub none : found ≡ false → own_from u new.at end (history_in store) ≡ []

come-in : (u : Update) (end : Key) (store : List Run) (old new : Standing) (found : Bool) → old.store ≡ store → HasCome u end old new found → HasComeIn u end store old new found
come-in u end store old new found e come = record {
  over = come.over ∙ e;
  stands = come.stands;
  left = subst (λ (r : List Run). own_from u new.at end (history_in r) ≡ own_from u old.at end (history_in r)) e come.left;
  at_own = come.at_own;
  none = λ f. subst (λ (r : List Run). own_from u new.at end (history_in r) ≡ []) e (come.left ∙ come.none f);
}

-- the intents before the cursor are gathered, and the others are ahead of it
pub record IsGathering (u : Update) (start end : Key) (store : List Run) (last : ℕ) (max : Option ℕ) (s : Standing) (g : Gathered) (found : Bool) : Type 0 where
  pub over : s.store ≡ store
  pub stands : StandsStored s
  pub ds : List Done
  pub each : AllByRecursion (IsDone u (history_in store)) ds
  pub gathered : IsGathered (history_in store) last u ds g
  pub own : own_intents u start end (history_in store) ≡ handled_of ds ++ own_from u s.at end (history_in store)
  pub up_to : IsUpTo max (length ds)
  pub at_own : found ≡ true → StandsAtOwn u end s
  pub none : found ≡ false → own_from u s.at end (history_in store) ≡ []

module _ (u : Update) (start end : Key) (store : List Run) (last : ℕ) (max : Option ℕ) (formed : IsWellFormed (history_in store) store) (good : is_bad_span start end ≡ false) where
  abbrev h : History
  h = history_in store

  formed-in : (s : Standing) → s.store ≡ store → IsWellFormed (history_in s.store) s.store
  formed-in s over = subst (λ (r : List Run). IsWellFormed (history_in r) r) (sym over) formed

  -- after the seek nothing is gathered
  pub gathering-begins : (begun sought new : Standing) (g : Gathered) (found : Bool) → begun ≡ standing_over store → sought ≡ at_place (or_past (key_from (sought_key start) (stored begun))) begun
      → HasCome u end sought new found → IsGathered h last u [] g → IsGathering u start end store last max new g found
  gathering-begins begun sought new g found a b come gathered =
      let over : begun.store ≡ store = ap (λ x. x.store) a in
      let is = come-in u end store sought new found (ap (λ x. x.store) b ∙ over) come in
      let ahead = subst (λ (r : List Run). own_from u sought.at end (history_in r) ≡ own_intents u start end (history_in r)) over
      (seek-own u start end begun sought (formed-in begun over) (good_span start end good).start_length b) in
      record {
        over = is.over;
        stands = is.stands;
        ds = [];
        each = tt;
        gathered = gathered;
        own = sym ahead ∙ sym is.left;
        up_to = up-none max;
        at_own = is.at_own;
        none = is.none;
      }

  -- the first of the intents ahead is that at which the cursor stands
  record IsAhead (s : Standing) : Type 0 where
    key : Key
    intent : Intent
    rest : List Intent
    at_key : s.at ≡ AtKey key
    there : intent_of key h ≡ Some intent
    own : is_of u intent ≡ true
    first_is : own_from u s.at end h ≡ intent ∷ rest

  is-ahead : (s : Standing) → s.store ≡ store → StandsAtOwn u end s → IsAhead s
  is-ahead s over at_own =
      let o = own_of u (told s).intent at_own.own in
      let there : intent_of at_own.key h ≡ Some o.intent =
      subst (λ (r : List Run). intent_of at_own.key (history_in r) ≡ Some o.intent) over (sym (ap (λ p. (told_at p (history_in s.store)).intent) at_own.at_key) ∙ o.is) in
      record {
        key = at_own.key;
        intent = o.intent;
        rest = _;
        at_key = at_own.at_key;
        there = there;
        own = o.own;
        first_is = ap (λ p. own_from u p end h) at_own.at_key ∙ own-first store formed u at_own.key end o.intent there o.own at_own.below;
      }

  -- one more is gathered, and one fewer is ahead
  pub record HasGatheredOne (s new : Standing) (g : Gathered) (found : Bool) : Type 0 where
    pub gathering : IsGathering u start end store last max new g found
    pub less : length (own_from u new.at end h) < length (own_from u s.at end h)

  pub gathering-goes_on : (s looked next new : Standing) (old g : Gathered) (before found : Bool) → before ≡ true → IsGathering u start end store last max s old before → is_room max old.count ≡ true → looked ≡ anew s
      → ((ds : List Done) (key : Key) → s.at ≡ AtKey key → IsGathered (history_in s.store) last u ds old → IsGatheredWith (history_in s.store) last u ds key g)
      → next ≡ at_place (next_place looked.at (stored looked)) looked → HasCome u end next new found → HasGatheredOne s new g found
  gathering-goes_on s looked next new old g before found holds is room a gathers b come =
      let own : StandsAtOwn u end s = is.at_own holds in
      let with_it = gathers is.ds own.key own.at_key (subst (λ (r : List Run). IsGathered (history_in r) last u is.ds old) (sym is.over) is.gathered) in
      let one = subst (λ (r : List Run). IsGatheredWith (history_in r) last u is.ds own.key g) is.over with_it in
      let i : Intent = one.done.intent in
      let from : next ≡ at_place (next_place s.at (stored s)) s = subst (λ (x : Standing). next ≡ at_place (next_place x.at (stored x)) x) (a ∙ sym is.stands.fresh) b in
      let tells : (told s).intent ≡ Some i =
      ap (λ p. (told_at p (history_in s.store)).intent) own.at_key ∙ ap (λ (r : List Run). intent_of own.key (history_in r)) is.over ∙ one.was in
      let come_in = come-in u end store next new found (ap (λ x. x.store) from ∙ is.over) come in
      let ahead : own_from u s.at end h ≡ i ∷ own_from u new.at end h =
      subst (λ (r : List Run). own_from u s.at end (history_in r) ≡ i ∷ own_from u next.at end (history_in r)) is.over (next-own u end s next i (formed-in s is.over) own tells from)
      ∙ ap (λ (js : List Intent). i ∷ js) (sym come_in.left) in
      let fewer : length (own_from u s.at end h) ≡ suc (length (own_from u new.at end h)) = ap length ahead in
      record {
        gathering = record {
          over = come_in.over;
          stands = come_in.stands;
          ds = one.done ∷ is.ds;
          each = (one.is_done, is.each);
          gathered = one.gathered;
          own = is.own ∙ ap (λ (js : List Intent). handled_of is.ds ++ js) ahead ∙ sym (append-one (handled_of is.ds) i (own_from u new.at end h));
          up_to = up-more max (length is.ds) old.count (is.gathered).count room;
          at_own = come_in.at_own;
          none = come_in.none;
        };
        less = omega (arith, fewer);
      }

  -- or the intent is refused, and with it the span
  pub gathering-refused : (s : Standing) (g : Gathered) (found : Bool) (why : ResolveFault) → found ≡ true → IsGathering u start end store last max s g found → is_room max g.count ≡ true
      → ((ds : List Done) (key : Key) → s.at ≡ AtKey key → IsGathered (history_in s.store) last u ds g → Tells (refusal_of why) (resolve (history_in s.store) key u))
      → Tells (refusal_of why) (resolve_range h start end u max)
  gathering-refused s g found why holds is room refused =
      let a = is-ahead s is.over (is.at_own holds) in
      by a (refusal_of why)
      (subst (λ (r : List Run). Tells (refusal_of why) (resolve (history_in r) a.key u)) is.over
      (refused is.ds a.key a.at_key (subst (λ (r : List Run). IsGathered (history_in r) last u is.ds g) (sym is.over) is.gathered)))
    where
      by : (a : IsAhead s) (o : Option Refusal) → Tells o (resolve h a.key u) → Tells o (resolve_range h start end u max)
      by a None e = tt
      by a (Some why) e =
          range-refused h start end u max is.ds a.intent a.rest why good (is.own ∙ ap (λ (js : List Intent). handled_of is.ds ++ js) a.first_is)
          (up-more max (length is.ds) g.count (is.gathered).count room) is.each (resolution-refused h a.key u a.intent why a.there a.own e)

  -- at the end the span is planned
  module _ (range : IsTrue (is_in_range u.ts)) (stored_by : IsStoredBy last h) (s : Standing) (g : Gathered) (change : Change) (all : (ds : List Done) → IsGathered h last u ds g → IsChangeOfAll h last u ds change)
      (resume : Option Span) (found : Bool) (is : IsGathering u start end store last max s g found) (rest : resume ≡ span_if found end (key_in (first (here s)))) where
    -- no intent is left
    pub gathering-ends : found ≡ false → IsPlannedRange h last start end u max change (record { count = g.count; resume = resume })
    gathering-ends fails =
        range-planned u h start end max good is.ds [] (is.own ∙ ap (λ (js : List Intent). handled_of is.ds ++ js) (is.none fails)) is.each last change _ formed.valid range stored_by (all is.ds is.gathered)
        (parted-end max (handled_of is.ds) (subst (IsUpTo max) (sym (handled-length is.ds)) is.up_to))
        (λ j. record { count = (is.gathered).count j; resume = (rest ∙ ap (λ f. span_if f end (key_in (first (here s)))) fails) j })

    -- or no more may be handled
    pub gathering-fills : found ≡ true → is_room max g.count ≡ false → IsPlannedRange h last start end u max change (record { count = g.count; resume = resume })
    gathering-fills holds room =
        let a = is-ahead s is.over (is.at_own holds) in
        let begins : resume ≡ span_from end (own_from u s.at end h) =
        rest ∙ ap (λ f. span_if f end (key_in (first (here s)))) holds ∙ ap (span_if true end) (shown-key s a.key is.stands a.at_key)
        ∙ ap (λ (k : Key). Some (record { start = k; end = end })) (sym (intent_of-key a.key h a.intent a.there))
        ∙ sym (ap (span_from end) a.first_is) in
        range-planned u h start end max good is.ds (own_from u s.at end h) is.own is.each last change _ formed.valid range stored_by (all is.ds is.gathered)
        (parted-full max (handled_of is.ds) (own_from u s.at end h) (subst (IsUpTo max) (sym (handled-length is.ds)) is.up_to)
        (subst (IsFull max) (sym (handled-length is.ds)) (full-here max (length is.ds) g.count (is.gathered).count room)))
        (λ j. record { count = (is.gathered).count j; resume = begins j })
