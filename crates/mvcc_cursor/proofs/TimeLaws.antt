-- Timestamps from the newest on.
use Rattle.std.proofs.Common.{◌≡◌, ℕ, zero, suc, ◌<◌, ◌≤◌, Bool, true, false, cond, List, [], ◌∷◌, length, get_or, drop, refl, sym, ap, ◌∙◌, arith}
use Rattle.std.specs.Prelude.{◌&&◌, ◌||◌, map, find, Some, None, slice_get}
use Rattle.std.specs.declared.option.Option.{Option}
use Rattle.std.specs.Option.{option_map}
use Rattle.std.specs.List.{AllByRecursion, AllWithin}
use Rattle.std.specs.List.Sorted.{IsStrictlySortedBy, IsPartitionedBy, IsPartitionPoint}
use Rattle.std.specs.declared.cmp.Ordering.TheVariants.{Less}
use Rattle.std.specs.Ordering.{is_lt}
use Rattle.mvcc_key.specs.Lists.{first}
use Rattle.mvcc_key.specs.Order.{Timestamp, newer_first, is_before, is_up_to, is_no_time}
use Rattle.mvcc_key.specs.Items.{tombstone_item}
use Rattle.intent_meta.specs.KeyHistory.{is_uncertain}
use Rattle.intent_meta.specs.views.Lent.{item_times}
use Rattle.mvcc_cursor.proofs.ItemLaws.{find-tombstones}
use Rattle.mvcc_key.specs.declared.timestamp.Timestamp.{Timestamp as Declared}
use Rattle.mvcc_key.specs.views.Seen.{time_of}
use Rattle.mvcc_key.proofs.FindLaws.{find-none}
use Rattle.mvcc_key.proofs.OrderLaws.{not_up_to-before}
use Rattle.mvcc_key.proofs.TimeLaws.{not_before, before_along, before_up_to, up_to_along, up_to_not_before}

-- the first timestamp
pub first-time : (ts : List Declared) → option_map time_of (slice_get ts 0) ≡ first (map time_of ts)
first-time [] = refl
first-time (t ∷ ts) = refl

-- a timestamp in the list is older than what is newer than all
older-at : (x : Timestamp) (ts : List Declared) (j : ℕ) (d : Declared) → AllByRecursion (λ t. newer_first x t ≡ Less) (map time_of ts) → j < length ts → is_before (time_of (get_or ts j d)) x ≡ true
older-at x [] j d all within = absurd (omega arith)
older-at x (t ∷ ts) zero d all within = ap is_lt all.0
older-at x (t ∷ ts) (suc j) d all within = older-at x ts j d all.1 (omega arith)

-- those above a timestamp stand in front
pub times-parted : (ts : Timestamp) (xs : List Declared) → IsStrictlySortedBy newer_first (map time_of xs) → IsPartitionedBy (λ x. is_before ts (time_of x)) xs
unfolding IsStrictlySortedBy
times-parted ts xs sorted i j d le within passes = by xs i j sorted le within passes
  where
    by : (xs : List Declared) (i j : ℕ) → IsStrictlySortedBy newer_first (map time_of xs) → i ≤ j → j < length xs → is_before ts (time_of (get_or xs j d)) ≡ true → is_before ts (time_of (get_or xs i d)) ≡ true
    by [] i j sorted le within passes = absurd (omega arith)
    by (x ∷ xs) zero zero sorted le within passes = passes
    by (x ∷ xs) zero (suc j) sorted le within passes = before_along ts (time_of (get_or xs j d)) (time_of x) passes (before_up_to (time_of (get_or xs j d)) (time_of x) (older-at (time_of x) xs j d sorted.0 (omega arith)))
    by (x ∷ xs) (suc i) zero sorted le within passes = absurd (omega arith)
    by (x ∷ xs) (suc i) (suc j) sorted le within passes = by xs i j sorted.1 (omega arith) (omega arith) passes

-- and the first behind them is the newest up to it
pub time-found : (ts : Timestamp) (xs : List Declared) (n : ℕ) → IsPartitionPoint (λ x. is_before ts (time_of x) ≡ true) (λ x. is_before ts (time_of x) ≡ false) xs n
    → option_map time_of (slice_get (drop n xs) 0) ≡ find (λ t. is_up_to t ts) (map time_of xs)
time-found ts xs n h = by xs n h.0 h.1
  where
    by : (xs : List Declared) (n : ℕ) → AllWithin (λ x. is_before ts (time_of x) ≡ true) xs 0 n → AllWithin (λ x. is_before ts (time_of x) ≡ false) xs n (length xs)
        → option_map time_of (slice_get (drop n xs) 0) ≡ find (λ t. is_up_to t ts) (map time_of xs)
    by [] zero above below = refl
    by [] (suc n) above below = refl
    by (x ∷ xs) zero above below =
        (let up : is_up_to (time_of x) ts ≡ true = not_before ts (time_of x) (below 0 x (omega arith) (omega arith)) in
        sym (ap (λ (b : Bool). cond b (Some (time_of x)) (find (λ t. is_up_to t ts) (map time_of xs))) up))
    by (x ∷ xs) (suc n) above below =
        (let not_up : is_up_to (time_of x) ts ≡ false = not_up_to-before ts (time_of x) (above 0 x (omega arith) (omega arith)) in
        by xs n (λ k d le lt. above (suc k) d (omega arith) (omega arith)) (λ k d le lt. below (suc k) d (omega arith) (omega arith))
        ∙ sym (ap (λ (b : Bool). cond b (Some (time_of x)) (find (λ t. is_up_to t ts) (map time_of xs))) not_up))

-- the newest above one timestamp and up to another
abbrev pub if_above : Timestamp → Option Timestamp → Option Timestamp
if_above above None = None
if_above above (Some t) = cond (is_before above t) (Some t) None

pub window-found : (above limit : Timestamp) (test : Timestamp → Bool) → ((t : Timestamp) → test t ≡ (is_before above t && is_up_to t limit)) → (ts : List Timestamp) → IsStrictlySortedBy newer_first ts
    → find test ts ≡ if_above above (find (λ t. is_up_to t limit) ts)
unfolding IsStrictlySortedBy
window-found above limit test is [] sorted = refl
window-found above limit test is (t ∷ ts) sorted =
    ap (λ (b : Bool). cond b (Some t) (find test ts)) (is t) ∙ by (is_up_to t limit) (is_before above t) refl (window-found above limit test is ts sorted.1)
  where
    by : (u b : Bool) → is_before above t ≡ b → find test ts ≡ if_above above (find (λ t. is_up_to t limit) ts)
        → cond (b && u) (Some t) (find test ts) ≡ if_above above (cond u (Some t) (find (λ t. is_up_to t limit) ts))
    by false true e rest = rest
    by false false e rest = rest
    by true true e rest = sym (ap (λ (c : Bool). cond c (Some t) None) e)
    by true false e rest = find-none test ts (none ts sorted.0) ∙ sym (ap (λ (c : Bool). cond c (Some t) None) e)
      where
        none : (us : List Timestamp) → AllByRecursion (λ u. newer_first t u ≡ Less) us → AllByRecursion (λ u. test u ≡ false) us
        none [] all = tt
        none (u ∷ us) all = (
          let lower : is_up_to u above ≡ true = up_to_along u t above (before_up_to u t (ap is_lt all.0)) (not_before above t e) in
              is u ∙ ap (λ (c : Bool). c && is_up_to u limit) (up_to_not_before u above lower),
          none us all.1,
        )

-- the timestamps of the newest uncertain tombstone
pub uncertain-found : (above limit local last : Timestamp) (ts : List Timestamp) → IsStrictlySortedBy newer_first ts
    → ((t : Timestamp) → is_up_to t last ≡ (is_up_to t limit && (is_no_time local || is_up_to t local)))
    → (o : Option Timestamp) → o ≡ find (λ t. is_up_to t last) ts
    → option_map (λ t. (t, t)) (if_above above o) ≡ option_map item_times (find (is_uncertain above limit local) (map tombstone_item ts))
uncertain-found above limit local last ts sorted same o is =
    ap (λ p. option_map (λ t. (t, t)) (if_above above p)) is
    ∙ ap (option_map (λ t. (t, t))) (sym (window-found above last (λ t. is_uncertain above limit local (tombstone_item t)) (λ t. together (is_before above t) (is_up_to t limit) (is_no_time local || is_up_to t local) ∙ ap (λ b. is_before above t && b) (sym (same t))) ts sorted))
    ∙ by (find (λ t. is_uncertain above limit local (tombstone_item t)) ts)
    ∙ ap (option_map item_times) (sym (find-tombstones (is_uncertain above limit local) ts))
  where
    together : (a b c : Bool) → ((a && b) && c) ≡ (a && (b && c))
    together true b c = refl
    together false b c = refl

    by : (p : Option Timestamp) → option_map (λ t. (t, t)) p ≡ option_map item_times (option_map tombstone_item p)
    by None = refl
    by (Some t) = refl
