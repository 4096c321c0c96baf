-- The latest moment of all that is stored.
use Rattle.std.specs.Prelude.{◌≡◌, ℕ, ◌≤◌, max, List, [], ◌∷◌, ◌++◌, map, fold}
use Rattle.std.specs.List.{AllByRecursion}
use Rattle.std.specs.declared.cmp.Ordering.{Ordering}
use Rattle.std.specs.declared.cmp.Ordering.TheVariants.{Less, Equal, Greater}
use Rattle.std.specs.Ordering.{match_ordering}
use Rattle.std.proofs.Common.{refl, sym, ap, subst, ◌∙◌, arith}
use Rattle.mvcc_key.specs.Lists.{put_in_order, in_order}
use Rattle.mvcc_key.specs.Order.{Timestamp, no_time, Pair}
use Rattle.mvcc_key.specs.History.{Version, version_cmp, with_version, Intent, intent_cmp, with_intent, RangeTombstone, History}
use Rattle.mvcc_key.specs.Fragments.{Fragment, fragments, tombstones_of}
use Rattle.mvcc_key.proofs.EachLaws.{All-put, All-in_order, All-append, All-split, All-map, All-unmap, All-weaker, All-every}
use Rattle.mvcc_key.proofs.TombstonesOfLaws.{fragments-again}
use Rattle.intent_meta.specs.StoredPairs.{Stored, RecordOf, VersionOf, provisional, stored_cmp, stored_name, stored_pair, stored_pairs}
use Rattle.intent_meta.specs.Valid.{IsStoredTombstone, IsValid}
use Rattle.intent_meta.proofs.SpanTimesLaws.{times-all_decided, HaveSpans}
use Rattle.intent_meta.proofs.WithinLaws.{stored_fragments}
use Rattle.stat_core.specs.Laws.{PairsAreBy, FragmentsAreBy}
use Rattle.stat_delta.specs.Moments.{stored_walls, greatest, IsStoredBy}
use Rattle.stat_delta.specs.MomentLaws.{StoredIsBy, GreatestIsLast, NothingMoves, VersionMoves, IntentMoves}

-- ---- the greatest of a number and a list

-- it is at least the number
above_first : (n : ℕ) (walls : List ℕ) → n ≤ greatest n walls
above_first n [] = omega arith
above_first n (w ∷ ws) = let up = above_first (max n w) ws in omega (arith, up)

-- and at least each of the list
above_each : (n : ℕ) (walls : List ℕ) → AllByRecursion (λ w. w ≤ greatest n walls) walls
above_each n [] = tt
above_each n (w ∷ ws) = let up = above_first (max n w) ws in (omega (arith, up), above_each (max n w) ws)

-- and at most what all of them are at most
below_bound : (n m : ℕ) (walls : List ℕ) → n ≤ m → AllByRecursion (λ w. w ≤ m) walls → greatest n walls ≤ m
below_bound n m [] up all = up
below_bound n m (w ∷ ws) up all = below_bound (max n w) m ws (omega (arith, up, all.0)) all.1

-- the greatest of all is not before the moment
pub last_is_up_to : (last : ℕ) (h : History) → last ≤ greatest last (stored_walls h)
last_is_up_to last h = above_first last (stored_walls h)

-- nothing is after the greatest of all
pub greatest_is_last : GreatestIsLast
greatest_is_last last h = above_each last (stored_walls h)

-- where nothing is after a moment, that is the greatest
pub nothing_moves : NothingMoves
nothing_moves last h by =
    let low : greatest last (stored_walls h) ≤ last = below_bound last last (stored_walls h) (omega arith) by in
    let high = above_first last (stored_walls h) in
    omega (arith, low, high)

-- ---- one more wall time

-- what is put among others is one of them
put_is_in : {X : Type 0} (cmp : X → X → Ordering) (wall : X → ℕ) (x : X) (m : ℕ) (xs : List X) → AllByRecursion (λ w. w ≤ m) (map wall (put_in_order cmp x xs)) → wall x ≤ m
put_is_in cmp wall x m [] all = all.0
put_is_in cmp wall x m (y ∷ ys) all =
    elim (cmp x y) as (λ o. AllByRecursion (λ w. w ≤ m) (map wall (match_ordering o (x ∷ y ∷ ys) (x ∷ ys) (y ∷ put_in_order cmp x ys))) → wall x ≤ m) [
      | Less ↦ λ a. a.0
      | Equal ↦ λ a. a.0
      | Greater ↦ λ a. put_is_in cmp wall x m ys a.1
    ] all

-- the three lists of wall times
record AreBy (m : ℕ) (h : History) : Type 0 where
  versions : AllByRecursion (λ v. v.ts.wall ≤ m) h.versions
  intents : AllByRecursion (λ i. i.ts.wall ≤ m) h.intents
  tombstones : AllByRecursion (λ t. t.ts.wall ≤ m) h.tombstones

parts_by : (m : ℕ) (h : History) → IsStoredBy m h → AreBy m h
parts_by m h by =
    let two = All-split (λ w. w ≤ m) (map (λ v. v.ts.wall) h.versions ++ map (λ i. i.ts.wall) h.intents) (map (λ t. t.ts.wall) h.tombstones) by in
    let one = All-split (λ w. w ≤ m) (map (λ v. v.ts.wall) h.versions) (map (λ i. i.ts.wall) h.intents) two.0 in
    record {
      versions = All-unmap (λ w. w ≤ m) (λ v. v.ts.wall) h.versions one.0;
      intents = All-unmap (λ w. w ≤ m) (λ i. i.ts.wall) h.intents one.1;
      tombstones = All-unmap (λ w. w ≤ m) (λ t. t.ts.wall) h.tombstones two.1;
    }

whole_by : (m : ℕ) (h : History) → AreBy m h → IsStoredBy m h
whole_by m h by =
    All-append (λ w. w ≤ m) (map (λ v. v.ts.wall) h.versions ++ map (λ i. i.ts.wall) h.intents) (map (λ t. t.ts.wall) h.tombstones)
    (All-append (λ w. w ≤ m) (map (λ v. v.ts.wall) h.versions) (map (λ i. i.ts.wall) h.intents)
    (All-map (λ w. w ≤ m) (λ v. v.ts.wall) h.versions by.versions)
    (All-map (λ w. w ≤ m) (λ i. i.ts.wall) h.intents by.intents))
    (All-map (λ w. w ≤ m) (λ t. t.ts.wall) h.tombstones by.tombstones)

-- nothing is after a later moment either
parts_later : (m n : ℕ) (h : History) → m ≤ n → AreBy m h → AreBy n h
parts_later m n h up by = record {
  versions = All-weaker (λ v. v.ts.wall ≤ m) (λ v. v.ts.wall ≤ n) h.versions (λ v le. omega (arith, le, up)) by.versions;
  intents = All-weaker (λ i. i.ts.wall ≤ m) (λ i. i.ts.wall ≤ n) h.intents (λ i le. omega (arith, le, up)) by.intents;
  tombstones = All-weaker (λ t. t.ts.wall ≤ m) (λ t. t.ts.wall ≤ n) h.tombstones (λ t le. omega (arith, le, up)) by.tombstones;
}

-- nothing is after a later moment
pub stored_later : (m n : ℕ) (h : History) → m ≤ n → IsStoredBy m h → IsStoredBy n h
stored_later m n h up by = whole_by n h (parts_later m n h up (parts_by m h by))

-- where the greatest is bounded by the last moment and one wall time that is among all, it is the later of these
between : (last wall : ℕ) (walls : List ℕ) → AllByRecursion (λ w. w ≤ max last wall) walls → ((m : ℕ) → AllByRecursion (λ w. w ≤ m) walls → wall ≤ m) → greatest last walls ≡ max last wall
between last wall walls all in_it =
    let high : greatest last walls ≤ max last wall = below_bound last (max last wall) walls (omega arith) all in
    let low = above_first last walls in
    let own : wall ≤ greatest last walls = in_it (greatest last walls) (above_each last walls) in
    omega (arith, high, low, own)

-- where a version comes, the greatest is the last moment or its wall time
pub version_moves : VersionMoves
version_moves last h v by =
    let m : ℕ = max last v.ts.wall in
    let later : AreBy m h = parts_later last m h (omega arith) (parts_by last h by) in
    between last v.ts.wall (stored_walls (with_version v h))
    (whole_by m (with_version v h) (record {
      versions = All-put version_cmp (λ w. w.ts.wall ≤ m) v h.versions (omega arith) later.versions;
      intents = later.intents;
      tombstones = later.tombstones;
    }))
    (λ n all. put_is_in version_cmp (λ w. w.ts.wall) v n h.versions (All-map (λ w. w ≤ n) (λ w. w.ts.wall) (with_version v h).versions (parts_by n (with_version v h) all).versions))

-- where an intent comes, or one replaces another
pub intent_moves : IntentMoves
intent_moves last h i by =
    let m : ℕ = max last i.ts.wall in
    let later : AreBy m h = parts_later last m h (omega arith) (parts_by last h by) in
    between last i.ts.wall (stored_walls (with_intent i h))
    (whole_by m (with_intent i h) (record {
      versions = later.versions;
      intents = All-put intent_cmp (λ j. j.ts.wall ≤ m) i h.intents (omega arith) later.intents;
      tombstones = later.tombstones;
    }))
    (λ n all. put_is_in intent_cmp (λ j. j.ts.wall) i n h.intents (All-map (λ w. w ≤ n) (λ j. j.ts.wall) (with_intent i h).intents (parts_by n (with_intent i h) all).intents))

-- ---- what is stored

-- the pair of something stored is not after what it stands at
abbrev IsBy : ℕ → Stored → Type 0
IsBy m x = (stored_name x).ts.wall ≤ m

pairs_by : (m : ℕ) (h : History) → AreBy m h → PairsAreBy m (stored_pairs h)
unfolding stored_pairs
pairs_by m h by =
    All-map (λ p. p.name.ts.wall ≤ m) stored_pair (in_order stored_cmp (map RecordOf h.intents ++ map (λ i. VersionOf (provisional i)) h.intents ++ map VersionOf h.versions))
    (All-in_order stored_cmp (IsBy m) (map RecordOf h.intents ++ map (λ i. VersionOf (provisional i)) h.intents ++ map VersionOf h.versions)
    (All-append (IsBy m) (map RecordOf h.intents ++ map (λ i. VersionOf (provisional i)) h.intents) (map VersionOf h.versions)
    (All-append (IsBy m) (map RecordOf h.intents) (map (λ i. VersionOf (provisional i)) h.intents)
    (All-map (IsBy m) RecordOf h.intents (All-every (λ i. IsBy m (RecordOf i)) h.intents (λ i. omega arith)))
    (All-map (IsBy m) (λ i. VersionOf (provisional i)) h.intents by.intents))
    (All-map (IsBy m) VersionOf h.versions by.versions)))

-- what holds of the times of the tombstones that fragments stand for holds of their stacks
each_stack : (P : Timestamp → Type 0) (fs : List Fragment) → AllByRecursion P (map (λ t. t.ts) (tombstones_of fs)) → AllByRecursion (λ f. AllByRecursion P f.stack) fs
each_stack P [] all = tt
each_stack P (f ∷ fs) all =
    let parts = All-split (λ t. P t.ts) (map (λ t. record { start = f.start; end = f.end; ts = t }) f.stack) (tombstones_of fs) (All-unmap P (λ t. t.ts) (tombstones_of (f ∷ fs)) all) in (
      All-unmap (λ t. P t.ts) (λ t. record { start = f.start; end = f.end; ts = t }) f.stack parts.0,
      each_stack P fs (All-map P (λ t. t.ts) (tombstones_of fs) parts.1),
    )

fragments_by : (m : ℕ) (h : History) → IsValid h → AreBy m h → FragmentsAreBy m (fragments h.tombstones)
fragments_by m h valid by =
    let again : List RangeTombstone = tombstones_of (fragments h.tombstones) in
    let spans : HaveSpans again = All-weaker IsStoredTombstone (λ t. _) again (λ t s. s.span) (stored_fragments h.tombstones valid.tombstones) in
    each_stack (λ t. t.wall ≤ m) (fragments h.tombstones)
    (times-all_decided h.tombstones again spans (sym (fragments-again h.tombstones)) (λ t. t.wall ≤ m)
    (All-map (λ t. t.wall ≤ m) (λ t. t.ts) h.tombstones by.tombstones))

-- neither a pair nor a tombstone of a fragment is after what nothing stored is after
pub stored_is_by : StoredIsBy
stored_is_by m h valid by = let parts = parts_by m h by in (pairs_by m h parts, fragments_by m h valid parts)
