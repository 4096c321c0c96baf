-- What is gathered of a span is the answer of its resolution.
use Rattle.std.specs.Prelude.{◌≡◌, ℕ, ◌≤◌, false, List, [], ◌∷◌, ◌++◌, length, take, drop, Option, Some, None, Result, Ok, IsTrue, ⊤}
use Rattle.std.specs.List.{AllByRecursion}
use Rattle.std.specs.List.Sorted.{IsStrictlySortedBy}
use Rattle.std.specs.declared.cmp.Ordering.TheVariants.{Less}
use Rattle.std.proofs.Common.{refl, sym, ap, subst, ◌∙◌, arith, zero, suc}
use Rattle.std.proofs.lemmas.List.Kept.{IsStrictlySortedBy-filter}
use Rattle.mvcc_key.specs.Steps.{◌>>=◌}
use Rattle.mvcc_key.specs.Order.{Key, is_same_key, is_in_range, is_within}
use Rattle.mvcc_key.specs.Refusal.{Refusal}
use Rattle.mvcc_key.specs.Spans.{Ranged, is_bad_span}
use Rattle.mvcc_key.specs.History.{Intent, intent_cmp, History, Changed, intents_within}
use Rattle.mvcc_key.proofs.EachLaws.{All-split, All-weaker}
use Rattle.mvcc_key.proofs.SameKeyLaws.{below_differs}
use Rattle.intent_meta.specs.Valid.{IsValid}
use Rattle.intent_meta.specs.StoredPairs.{stored_pairs}
use Rattle.intent_meta.specs.PointPairs.{with_points}
use Rattle.stat_delta.specs.Moments.{IsStoredBy}
use Rattle.stat_delta.specs.PointChange.{IsPointChange}
use Rattle.stat_delta.specs.declared.change.Change.{Change}
use Rattle.intent_resolve.specs.Resolve.{Update, resolve_each, first_of_max, rest_of_max, span_from, resolve_range}
use Rattle.intent_resolve.specs.Resolved.{own_intents}
use Rattle.intent_resolve.specs.Planned.{IsPlannedRange}
use Rattle.intent_resolve.specs.views.Gathered.{Done, IsDone, IsChangeOfAll, handled_of, after_all}
use Rattle.intent_resolve.proofs.GatherLaws.{AreDone, AreDistinct, after-is, pairs-all, change-all, resolve_each-done}
use Rattle.intent_resolve.proofs.GatherMomentLaws.{moment-all}

-- ---- the change

-- what is gathered is the change from the history to the one after all of them
pub change-of-all : (u : Update) (h : History) (last : ℕ) (ds : List Done) (change : Change) → IsValid h → IsTrue (is_in_range u.ts) → IsStoredBy last h → AreDone u h ds
    → IsChangeOfAll h last u ds change → IsPointChange last h (after_all ds h) change
change-of-all u h last ds change valid range by is all =
    let after = after-is u h valid range ds is in
    record {
      valid = after.valid;
      pairs = pairs-all u h ds valid range is ∙ ap (λ ps. with_points ps (stored_pairs h)) (sym all.points);
      ranges = all.ranges;
      tombstones = after.tombstones;
      moment = all.moment ∙ moment-all u h last valid range by ds is;
      delta = λ f. all.delta f ∙ change-all u h change.last f ds valid range is;
    }

-- ---- distinct keys

-- of a list in strict order the front is in strict order, and before each that follows
front-sorted : (xs : List Intent) (y : Intent) (ys : List Intent) → IsStrictlySortedBy intent_cmp (xs ++ y ∷ ys) → AllByRecursion (λ x. intent_cmp x y ≡ Less) xs
unfolding IsStrictlySortedBy
front-sorted [] y ys sorted = tt
front-sorted (x ∷ xs) y ys sorted = ((All-split (λ z. intent_cmp x z ≡ Less) xs (y ∷ ys) sorted.0).1.0, front-sorted xs y ys sorted.1)

pub append-one : (xs : List Intent) (y : Intent) (ys : List Intent) → (xs ++ y ∷ []) ++ ys ≡ xs ++ y ∷ ys
append-one [] y ys = refl
append-one (x ∷ xs) y ys = ap (λ (l : List Intent). x ∷ l) (append-one xs y ys)

-- what holds of all intents that were handled holds of each that is done
all-done : (P : Intent → Type 0) (ds : List Done) → AllByRecursion P (handled_of ds) → AllByRecursion (λ d. P d.intent) ds
all-done P [] all = tt
all-done P (d ∷ ds) all = let two = All-split P (handled_of ds) (d.intent ∷ []) all in (two.1.0, all-done P ds two.0)

-- intents that were handled in order have distinct keys
pub handled-distinct : (ds : List Done) (rest : List Intent) → IsStrictlySortedBy intent_cmp (handled_of ds ++ rest) → AreDistinct ds
handled-distinct [] rest sorted = tt
handled-distinct (d ∷ ds) rest sorted =
    let whole = subst (IsStrictlySortedBy intent_cmp) (append-one (handled_of ds) d.intent rest) sorted in (
      All-weaker (λ e. intent_cmp e.intent d.intent ≡ Less) (λ e. is_same_key e.intent.key d.intent.key ≡ false) ds
          (λ e less. below_differs e.intent.key d.intent.key less)
          (all-done (λ i. intent_cmp i d.intent ≡ Less) ds (front-sorted (handled_of ds) d.intent rest whole)),
      handled-distinct ds (d.intent ∷ rest) whole,
    )

-- the transaction's intents of a span are in order
own-sorted : (u : Update) (start end : Key) (h : History) → IsValid h → IsStrictlySortedBy intent_cmp (own_intents u start end h)
own-sorted u start end h valid =
    IsStrictlySortedBy-filter intent_cmp _ (intents_within start end h) (IsStrictlySortedBy-filter intent_cmp (λ i. is_within start end i.key) h.intents valid.intents_in_order)

-- ---- how many

length-more : (xs : List Intent) (y : Intent) → length (xs ++ y ∷ []) ≡ suc (length xs)
length-more [] y = refl
length-more (x ∷ xs) y = ap suc (length-more xs y)

-- as many were handled as are done
pub handled-length : (ds : List Done) → length (handled_of ds) ≡ length ds
handled-length [] = refl
handled-length (d ∷ ds) = length-more (handled_of ds) d.intent ∙ ap suc (handled-length ds)

-- so many may be handled
abbrev pub IsUpTo : Option ℕ → ℕ → Type 0
IsUpTo None n = ⊤
IsUpTo (Some max) n = n ≤ max

-- no more may be
abbrev pub IsFull : Option ℕ → ℕ → Type 0
IsFull None n = ⊥
IsFull (Some max) n = max ≤ n

take-all : (xs : List Intent) (n : ℕ) → length xs ≤ n → take n xs ≡ xs
take-all [] zero up = refl
take-all [] (suc n) up = refl
take-all (x ∷ xs) zero up = absurd (omega (arith, up))
take-all (x ∷ xs) (suc n) up = ap (λ (l : List Intent). x ∷ l) (take-all xs n (omega (arith, up)))

drop-all : (xs : List Intent) (n : ℕ) → length xs ≤ n → drop n xs ≡ []
drop-all [] zero up = refl
drop-all [] (suc n) up = refl
drop-all (x ∷ xs) zero up = absurd (omega (arith, up))
drop-all (x ∷ xs) (suc n) up = drop-all xs n (omega (arith, up))

take-front : (xs ys : List Intent) (n : ℕ) → n ≡ length xs → take n (xs ++ ys) ≡ xs
take-front [] ys zero same = refl
take-front [] ys (suc n) same = absurd (omega (arith, same))
take-front (x ∷ xs) ys zero same = absurd (omega (arith, same))
take-front (x ∷ xs) ys (suc n) same = ap (λ (l : List Intent). x ∷ l) (take-front xs ys n (omega (arith, same)))

drop-front : (xs ys : List Intent) (n : ℕ) → n ≡ length xs → drop n (xs ++ ys) ≡ ys
drop-front [] ys zero same = refl
drop-front [] ys (suc n) same = absurd (omega (arith, same))
drop-front (x ∷ xs) ys zero same = absurd (omega (arith, same))
drop-front (x ∷ xs) ys (suc n) same = drop-front xs ys n (omega (arith, same))

-- of all of them, where all were handled or no more may be, those that were are the first, and the others are left
pub record Parted (max : Option ℕ) (handled rest : List Intent) : Type 0 where
  pub first_are : first_of_max max (handled ++ rest) ≡ handled
  pub rest_are : rest_of_max max (handled ++ rest) ≡ rest

append-none : (xs : List Intent) → xs ++ [] ≡ xs
append-none [] = refl
append-none (x ∷ xs) = ap (λ (l : List Intent). x ∷ l) (append-none xs)

pub parted-end : (max : Option ℕ) (handled : List Intent) → IsUpTo max (length handled) → Parted max handled []
parted-end None handled up = record { first_are = append-none handled; rest_are = refl }
parted-end (Some n) handled up = record {
  first_are = ap (take n) (append-none handled) ∙ take-all handled n up;
  rest_are = ap (drop n) (append-none handled) ∙ drop-all handled n up;
}

pub parted-full : (max : Option ℕ) (handled rest : List Intent) → IsUpTo max (length handled) → IsFull max (length handled) → Parted max handled rest
parted-full None handled rest up full = absurd full
parted-full (Some n) handled rest up full =
    let same : n ≡ length handled = omega (arith, up, full) in
    record { first_are = take-front handled rest n same; rest_are = drop-front handled rest n same }

-- ---- the answer

module _ (u : Update) (h : History) (start end : Key) (max : Option ℕ) (good : is_bad_span start end ≡ false) (ds : List Done) (rest : List Intent)
    (own : own_intents u start end h ≡ handled_of ds ++ rest) (each : AllByRecursion (IsDone u h) ds) where
  -- what was handled is the resolution of the span
  pub range-is : Parted max (handled_of ds) rest
      → resolve_range h start end u max ≡ Ok (record { history = after_all ds h; answer = record { count = length ds; resume = span_from end rest } })
  unfolding resolve_range
  range-is parts =
      let first = ap (first_of_max max) own ∙ parts.first_are in
      let behind = ap (rest_of_max max) own ∙ parts.rest_are in
      rw good (
      ap (λ (x : Result History Refusal). x >>= answered) (ap (resolve_each u h) first ∙ resolve_each-done u h ds each)
      ∙ (λ j. Ok (record { history = after_all ds h; answer = record { count = (ap length first ∙ handled-length ds) j; resume = span_from end (behind j) } }))
      )
    where
      answered : History → Result (Changed Ranged) Refusal
      answered after = Ok (record {
        history = after;
        answer = record { count = length (first_of_max max (own_intents u start end h)); resume = span_from end (rest_of_max max (own_intents u start end h)) };
      })

  -- with the change it is a planned one
  pub range-planned : (last : ℕ) (change : Change) (answer : Ranged) → IsValid h → IsTrue (is_in_range u.ts) → IsStoredBy last h → IsChangeOfAll h last u ds change → Parted max (handled_of ds) rest
      → answer ≡ record { count = length ds; resume = span_from end rest } → IsPlannedRange h last start end u max change answer
  range-planned last change answer valid range by all parts is = record {
    after = after_all ds h;
    taken = range-is parts ∙ ap (λ a. Ok (record { history = after_all ds h; answer = a })) (sym is);
    change_is = change-of-all u h last ds change valid range by
        (record { each = each; distinct = handled-distinct ds rest (subst (IsStrictlySortedBy intent_cmp) own (own-sorted u start end h valid)) }) all;
  }
