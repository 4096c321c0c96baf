-- The store of the test of time is that of a valid history, however many versions its key has.
use Rattle.std.proofs.Common.{◌≡◌, ℕ, zero, suc, ◌+◌, ◌^◌, ◌<◌, ◌≤◌, false, true, List, [], ◌∷◌, refl, sym, ap, subst, ◌∙◌, arith}
use Rattle.std.proofs.lemmas.Bool.Decides.{nat_tests}
use Rattle.std.specs.Prelude.{map, Some}
use Rattle.std.specs.List.{AllByRecursion}
use Rattle.std.specs.List.Sorted.{IsStrictlySortedBy}
use Rattle.std.specs.declared.cmp.Ordering.TheVariants.{Less}
use Rattle.mvcc_key.specs.Lists.{put_in_order, in_order}
use Rattle.mvcc_key.specs.Order.{Pair, is_no_time, is_before, is_in_range}
use Rattle.mvcc_key.specs.History.{Version, version_cmp, version_name}
use Rattle.mvcc_key.specs.Points.{Point, point_cmp}
use Rattle.mvcc_key.specs.Fragments.{fragments}
use Rattle.mvcc_key.specs.KeyFormat.{encoded_name, name_of}
use Rattle.mvcc_key.specs.Encoded.{known_name, name_in}
use Rattle.mvcc_key.specs.declared.batch.Batch.{Batch}
use Rattle.mvcc_key.specs.views.Building.{empty_batch, with_point}
use Rattle.mvcc_key.specs.views.SeenPoint.{point_of, points_of}
use Rattle.mvcc_key.specs.views.SeenRange.{range_ops_of}
use Rattle.mvcc_key.proofs.HistoryLaws.{version_cmp-total, newer_is_first}
use Rattle.mvcc_key.proofs.KeyFormatLaws.{name_of-encoded_name}
use Rattle.mvcc_key.proofs.SortedLaws.{IsBelowAll, below_more}
use Rattle.intent_meta.specs.StoredPairs.{VersionOf, stored_cmp, stored_pair, stored_pairs}
use Rattle.intent_meta.specs.Valid.{HasOwnTime, IsStoredTime, IsStoredVersion, IsValid}
use Rattle.intent_meta.proofs.StoredLaws.{in_order-versions}
use Rattle.range_key.specs.RangeOps.{fragments_after}
use Rattle.merge_cursor.specs.Visible.{visible}
use Rattle.merge_cursor.specs.Merged.{merged}
use Rattle.run_block.specs.RunFormat.{Run}
use Rattle.lsm_store.specs.Shown.{shown, first_runs, fragments_in, pairs_of, visible_points, with_batch}
use Rattle.mvcc_value.specs.Encoding.{value_bytes}
use Rattle.mvcc_cursor.specs.WellFormed.{IsWellFormed, history_in}
use Rattle.mvcc_cursor.specs.views.Filled.{plain, time}
use Rattle.mvcc_cursor.specs.views.Many.{key, version, set_version, many_from, versions_with, many, version_point, points_with, first_batch, HoldsMany}
use Rattle.mvcc_cursor.proofs.ReadBackLaws.{histories-read}

-- ---- their order

-- the version of versions/c at a time
abbrev at : ℕ → Version
at wall = version (key 99) wall

-- a later version of the key stands before an earlier one
later-first : (n : ℕ) → version_cmp (at (suc (suc n))) (at (suc n)) ≡ Less
later-first n =
    let timed : is_no_time (time (suc (suc n))) ≡ false = grind (arith, nat_tests) in
    let timed' : is_no_time (time (suc n)) ≡ false = grind (arith, nat_tests) in
    let earlier : is_before (time (suc n)) (time (suc (suc n))) ≡ true = grind (arith, nat_tests) in
    newer_is_first (at (suc (suc n))) (at (suc n)) timed timed' refl earlier

-- the newest one stands before all others, and before the last key
newest-first : (n : ℕ) → IsBelowAll version_cmp (at (suc n)) (many_from n)
unfolding many_from
newest-first zero = (refl, tt)
newest-first (suc n) = (later-first n, below_more version_cmp-total (at (suc (suc n))) (at (suc n)) (many_from n) (later-first n) (newest-first n))

-- so they are in order
many-sorted : (n : ℕ) → IsStrictlySortedBy version_cmp (many_from n)
unfolding many_from IsStrictlySortedBy
many-sorted zero = (tt, tt)
many-sorted (suc n) = (newest-first n, many-sorted n)

-- a version of a key before all of them
before-many : (last wall n : ℕ) → ((m : ℕ) → version_cmp (version (key last) wall) (at m) ≡ Less) → version_cmp (version (key last) wall) (version (key 100) 1) ≡ Less
    → IsBelowAll version_cmp (version (key last) wall) (many_from n)
unfolding many_from
before-many last wall zero each end = (end, tt)
before-many last wall (suc n) each end = (each (suc n), before-many last wall n each end)

-- all versions are in order
versions-sorted : (n : ℕ) → IsStrictlySortedBy version_cmp (versions_with n)
unfolding IsStrictlySortedBy
versions-sorted n = (
  (refl, (refl, before-many 97 1 n (λ m. refl) refl)),
  ((refl, before-many 98 2 n (λ m. refl) refl), (before-many 98 1 n (λ m. refl) refl, many-sorted n)),
)

-- ---- the history

-- a version with a wall time may be stored
stored : (last wall : ℕ) → IsStoredTime (time wall) → IsStoredVersion (version (key last) wall)
stored last wall timed =
    let some : 0 < 10 = omega arith in
    let within-key : 10 ≤ 4096 = omega arith in
    let within-bytes : 1 ≤ 1048576 = omega arith in
    record { key = (some, within-key); ts = timed; local = refl; body = within-bytes }

-- a wall time that may be stored
timed : (n : ℕ) → suc n < 2 ^ 63 → IsStoredTime (time (suc n))
timed n below = grind (arith, nat_tests)

-- each version of the key may be stored
many-stored : (n : ℕ) → n < 2 ^ 63 → AllByRecursion IsStoredVersion (many_from n)
unfolding many_from
many-stored zero below = (stored 100 1 refl, tt)
many-stored (suc n) below = (let rest : n < 2 ^ 63 = omega arith in (stored 99 (suc n) (timed n below), many-stored n rest))

-- no tombstone has the time of a version, as there is none
own-times : (vs : List Version) → AllByRecursion (HasOwnTime []) vs
own-times [] = tt
own-times (v ∷ vs) = (tt, own-times vs)

-- the history is valid
many-valid : (n : ℕ) → n < 2 ^ 63 → IsValid (many n)
unfolding IsStrictlySortedBy
many-valid n below = record {
  versions_in_order = versions-sorted n;
  intents_in_order = tt;
  versions = (stored 97 1 refl, (stored 98 2 refl, (stored 98 1 refl, many-stored n below)));
  intents = tt;
  tombstones = tt;
  own_times = own-times (versions_with n);
}

-- ---- what is stored of it

-- the points of versions are the pairs that they are stored as
pairs-versions : (vs : List Version) → pairs_of (map version_point vs) ≡ map stored_pair (map VersionOf vs)
unfolding pairs_of
pairs-versions [] = refl
pairs-versions (v ∷ vs) = ap (λ (ps : List Pair). stored_pair (VersionOf v) ∷ ps) (pairs-versions vs)

-- the points are the pairs of the history
many-pairs : (n : ℕ) → pairs_of (points_with n) ≡ stored_pairs (many n)
unfolding stored_pairs
many-pairs n =
    pairs-versions (versions_with n)
    ∙ ap (map stored_pair) (sym (in_order-versions stored_cmp VersionOf (λ v w. refl) (versions_with n) (versions-sorted n)))

-- a store of them is well formed
pub many-well_formed : (n : ℕ) (store : List Run) → n < 2 ^ 63 → HoldsMany n store → IsWellFormed (history_in store) store
unfolding fragments
many-well_formed n store below holds = histories-read (many n) (shown store) (fragments_in store) (record {
  valid = many-valid n below;
  pairs = ap pairs_of holds.shows ∙ many-pairs n;
  fragments = holds.none;
})

-- a store that shows the same holds the same
pub holds-same : (n : ℕ) (old new : List Run) → HoldsMany n old → shown new ≡ shown old → fragments_in new ≡ fragments_in old → HoldsMany n new
holds-same n old new holds shows pieces = record { shows = shows ∙ holds.shows; none = pieces ∙ holds.none }

-- ---- one version more

-- points of versions are all seen
visible-versions : (vs : List Version) → visible (map version_point vs) ≡ map version_point vs
visible-versions [] = refl
visible-versions (v ∷ vs) = ap (λ (ps : List Point). version_point v ∷ ps) (visible-versions vs)

-- the name of a version is read from its encoding
named : (n : ℕ) → suc n < 2 ^ 63 → point_of (set_version (key 99) (suc n)) ≡ version_point (at (suc n))
named n below =
    let range : is_in_range (time (suc n)) ≡ true = grind (arith, nat_tests) in
    let read : name_in (encoded_name (version_name (at (suc n)))) ≡ version_name (at (suc n)) = ap known_name (name_of-encoded_name (version_name (at (suc n))) range) in
    λ i. record { name = read i; value = Some (plain 120 (suc n)) }

-- the points of versions in order are in order
in-order : (vs : List Version) → IsStrictlySortedBy version_cmp vs → in_order point_cmp (map version_point vs) ≡ map version_point vs
in-order vs sorted = in_order-versions point_cmp version_point (λ v w. refl) vs sorted

-- the next version goes before those of its key, and behind the first three
put-more : (n : ℕ) → put_in_order point_cmp (version_point (at (suc n))) (points_with n) ≡ points_with (suc n)
unfolding many_from
put-more n = ap
    (λ (ps : List Point). version_point (version (key 97) 1) ∷ version_point (version (key 98) 2) ∷ version_point (version (key 98) 1) ∷ ps)
    (ap (put_in_order point_cmp (version_point (at (suc n)))) (sym (in-order (many_from n) (many-sorted n))) ∙ in-order (many_from (suc n)) (many-sorted (suc n)))

-- the next version is shown with the others
shown-more : (n : ℕ) → suc n < 2 ^ 63 → with_batch (points_of (set_version (key 99) (suc n) ∷ [])) (points_with n) ≡ points_with (suc n)
unfolding with_batch
shown-more n below =
    ap (λ (p : Point). with_batch (p ∷ []) (points_with n)) (named n below)
    ∙ ap (λ (ps : List Point). visible (put_in_order point_cmp (version_point (at (suc n))) ps)) (in-order (versions_with n) (versions-sorted n))
    ∙ ap visible (put-more n)
    ∙ visible-versions (versions_with (suc n))

-- a store that takes the next version up holds one more
pub holds-more : (n : ℕ) (old new : List Run) (batch : Batch) → n + 1 < 2 ^ 63 → HoldsMany n old → batch ≡ with_point empty_batch (set_version (key 99) (n + 1))
    → shown new ≡ with_batch (points_of batch.points) (shown old) → fragments_in new ≡ fragments_after (fragments_in old) (range_ops_of batch.ranges) → HoldsMany (n + 1) new
holds-more n old new batch below holds made shows pieces =
    let next : n + 1 ≡ suc n = omega arith in
    let fits : suc n < 2 ^ 63 = omega arith in
    let one : batch ≡ with_point empty_batch (set_version (key 99) (suc n)) = made ∙ ap (λ (m : ℕ). with_point empty_batch (set_version (key 99) m)) next in
    subst (λ m. HoldsMany m new) (sym next) (record {
      shows = shows ∙ (λ i. with_batch (points_of (one i).points) (holds.shows i)) ∙ shown-more n fits;
      none = pieces ∙ (λ i. fragments_after (fragments_in old) (range_ops_of (one i).ranges)) ∙ holds.none;
    })

-- a new store with the versions of all other keys
pub shown-first : with_batch (points_of first_batch.points) (shown first_runs) ≡ points_with 0
unfolding with_batch many_from visible_points merged value_bytes encoded_name name_of
shown-first = refl
