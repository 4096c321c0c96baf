-- The keys of a span, and what stands above all that is kept of them.
use Rattle.std.specs.Prelude.{◌≡◌, Bool, true, false, ◌&&◌, ◌||◌, cond, List, [], ◌∷◌, ◌++◌, filter, map, None, option_map}
use Rattle.std.specs.declared.cmp.Ordering.TheVariants.{Less}
use Rattle.std.specs.List.{AllByRecursion, list_any}
use Rattle.std.proofs.Common.{refl, sym, ap, subst, ◌∙◌}
use Rattle.std.proofs.lemmas.Cmp.{tied_itself}
use Rattle.std.proofs.lemmas.Simd.{map-map}
use Rattle.mvcc_key.specs.Lists.{put_in_order, first}
use Rattle.mvcc_key.specs.Order.{Timestamp, newer_first, is_before, is_up_to, Key, key_cmp, is_same_key, is_below, is_at_or_below, is_within, Pair}
use Rattle.mvcc_key.specs.History.{Version, Intent, RangeTombstone, History, versions_of, intent_of, intents_within}
use Rattle.mvcc_key.specs.Items.{covers, tombstones_over}
use Rattle.mvcc_key.proofs.OrderLaws.{key_cmp-total, key_cmp-IsAntisymmetric}
use Rattle.mvcc_key.proofs.FragmentLaws.{same_key}
use Rattle.mvcc_key.proofs.SortedLaws.{IsBelowAll, put_in_order-first, in_order-sorted}
use Rattle.mvcc_key.proofs.StackLaws.{same_key_is, both_true}
use Rattle.mvcc_key.proofs.SpanCutLaws.{low_up}
use Rattle.mvcc_key.proofs.EachLaws.{All-in_order, All-from_in_order, All-split, All-map, All-unmap, All-weaker, All-passing, unfiltered}
use Rattle.mvcc_key.proofs.TimeLaws.{before_less, not_up_to}
use Rattle.intent_meta.specs.StoredPairs.{VersionOf, stored_pair}
use Rattle.intent_meta.specs.KeyPairs.{key_pairs}
use Rattle.intent_meta.proofs.KeyPairsLaws.{key_pairs-are}
use Rattle.intent_meta.proofs.AcceptedLaws.{none_at_or_above}
use Rattle.stat_core.specs.DeadSince.{shape_of}
use Rattle.stat_core.specs.ComputeStats.{keys_of}
use Rattle.stat_core.specs.Laws.{pairs_in}
use Rattle.stat_core.proofs.KeyChangeLaws.{keys_of-filter}
use Rattle.stat_delta.specs.Shapes.{version_shape}
use Rattle.stat_delta.specs.SpanChanges.{HaveKeys, IsAboveSpan}
use Rattle.stat_delta.specs.SpanLaws.{KeysAreWithin, OneKeyFirst, FirstPairTells, NothingAtOrAbove, PairsTellVersions}

-- ---- the keys of pairs

-- each key of a list is among them
each_among : (keys : List Key) → AllByRecursion (λ k. list_any (is_same_key k) keys ≡ true) keys
each_among [] = tt
each_among (k ∷ keys) = (
  ap (λ t. t || list_any (is_same_key k) keys) (same_key k),
  All-weaker (λ x. list_any (is_same_key x) keys ≡ true) (λ x. (is_same_key x k || list_any (is_same_key x) keys) ≡ true) keys
      (λ x e. or_true (is_same_key x k) (list_any (is_same_key x) keys) e) (each_among keys),
)
  where
    or_true : (s t : Bool) → t ≡ true → (s || t) ≡ true
    or_true true t e = refl
    or_true false t e = e

-- the keys of pairs are among the keys of these
have_own_keys : (pairs : List Pair) → HaveKeys (keys_of pairs) pairs
have_own_keys pairs =
    All-unmap (λ k. list_any (is_same_key k) (keys_of pairs) ≡ true) (λ p. p.name.key) pairs
    (All-from_in_order key_cmp (λ k. list_any (is_same_key k) (keys_of pairs) ≡ true)
    (λ x y tie is. subst (λ k. list_any (is_same_key k) (keys_of pairs) ≡ true) (key_cmp-IsAntisymmetric x y tie) is)
    (map (λ p. p.name.key) pairs) (each_among (keys_of pairs)))

-- the keys of the pairs of a span are keys of the span, and every key of which something is stored is among them
pub keys_of-within : KeysAreWithin
keys_of-within start end pairs = (
  record {
    ascending = in_order-sorted key_cmp-total (map (λ p. p.name.key) (pairs_in (is_within start end) pairs));
    within = subst (AllByRecursion (λ key. is_within start end key ≡ true)) (sym (keys_of-filter (is_within start end) pairs))
        (passing (keys_of pairs));
  },
  have_own_keys (pairs_in (is_within start end) pairs),
)
  where
    passing : (keys : List Key) → AllByRecursion (λ key. is_within start end key ≡ true) (filter (is_within start end) keys)
    passing [] = tt
    passing (k ∷ keys) = by (is_within start end k) refl (passing keys)
      where
        by : (t : Bool) → is_within start end k ≡ t → AllByRecursion (λ key. is_within start end key ≡ true) (filter (is_within start end) keys)
            → AllByRecursion (λ key. is_within start end key ≡ true) (cond t (k ∷ filter (is_within start end) keys) (filter (is_within start end) keys))
        by true e rest = (e, rest)
        by false e rest = rest

-- ---- what is kept of a key of the span

-- a key of a span without intents has none
pub no_intent-within : (h : History) (start end key : Key) → intents_within start end h ≡ [] → is_within start end key ≡ true → intent_of key h ≡ None
no_intent-within h start end key none within = ap first (by h.intents none)
  where
    by : (is : List Intent) → filter (λ i. is_within start end i.key) is ≡ [] → filter (λ i. is_same_key i.key key) is ≡ []
    by [] e = refl
    by (i ∷ is) e = step (is_within start end i.key) (is_same_key i.key key) refl refl e (by is)
      where
        step : (s t : Bool) → is_within start end i.key ≡ s → is_same_key i.key key ≡ t
            → cond s (i ∷ filter (λ j. is_within start end j.key) is) (filter (λ j. is_within start end j.key) is) ≡ []
            → (filter (λ j. is_within start end j.key) is ≡ [] → filter (λ j. is_same_key j.key key) is ≡ [])
            → cond t (i ∷ filter (λ j. is_same_key j.key key) is) (filter (λ j. is_same_key j.key key) is) ≡ []
        step true t a b e rest = cc
        step false true a b e rest =
            let clash : is_within start end i.key ≡ true = ap (is_within start end) (same_key_is i.key key b) ∙ within in cc
        step false false a b e rest = rest e

-- what holds of the versions of the keys of a span holds of those of a key of it
pub versions_of-within : (P : Version → Type 0) (h : History) (start end key : Key) → AllByRecursion (λ v. is_within start end v.key ≡ true → P v) h.versions
    → is_within start end key ≡ true → AllByRecursion P (versions_of key h)
versions_of-within P h start end key all within =
    All-weaker (λ v. (is_same_key v.key key ≡ true) × (is_within start end v.key ≡ true → P v)) P (versions_of key h)
    (λ v own. own.1 (ap (is_within start end) (same_key_is v.key key own.0) ∙ within))
    (All-passing (λ v. is_within start end v.key ≡ true → P v) (λ v. is_same_key v.key key) h.versions all)

-- the tombstones over a key of a span are below what is above the span
pub stack-below : (h : History) (start end key : Key) (ts : Timestamp) → IsAboveSpan h start end ts → is_within start end key ≡ true
    → IsBelowAll newer_first ts (tombstones_over h.tombstones key)
stack-below h start end key ts above within =
    All-in_order newer_first (λ s. newer_first ts s ≡ Less) (map (λ t. t.ts) (filter (covers key) h.tombstones))
    (All-map (λ s. newer_first ts s ≡ Less) (λ t. t.ts) (filter (covers key) h.tombstones)
    (All-weaker (λ t. (covers key t ≡ true) × (is_below t.start end ≡ true → is_below start t.end ≡ true → is_before t.ts ts ≡ true)) (λ t. newer_first ts t.ts ≡ Less)
    (filter (covers key) h.tombstones) (λ t own. by t own.0 own.1)
    (All-passing (λ t. is_below t.start end ≡ true → is_below start t.end ≡ true → is_before t.ts ts ≡ true) (covers key) h.tombstones above.tombstones)))
  where
    by : (t : RangeTombstone) → covers key t ≡ true → (is_below t.start end ≡ true → is_below start t.end ≡ true → is_before t.ts ts ≡ true) → newer_first ts t.ts ≡ Less
    by t over before =
        let own = both_true (is_at_or_below t.start key) (is_below key t.end) over in
        let span = both_true (is_at_or_below start key) (is_below key end) within in
        before_less t.ts ts
        (before (low_up t.start key end own.0 span.1) (low_up start key t.end span.0 own.1))

-- ---- how a walk over pairs meets the keys

-- the keys of pairs of one key in front of those of higher keys
pub keys_of-one_first : OneKeyFirst
keys_of-one_first key p [] rest is behind =
    ap (λ k. put_in_order key_cmp k (keys_of rest)) is.0
    ∙ put_in_order-first key_cmp key (keys_of rest)
    (All-in_order key_cmp (λ k. key_cmp key k ≡ Less) (map (λ q. q.name.key) rest) (All-map (λ k. key_cmp key k ≡ Less) (λ q. q.name.key) rest behind))
keys_of-one_first key p (q ∷ own) rest is behind =
    (λ i. put_in_order key_cmp (is.0 i) (keys_of-one_first key q own rest is.1 behind i))
    ∙ rw (tied_itself key_cmp-total key) refl

-- the newest version of a key without an intent is what its first pair tells
pub newest_shape-first : FirstPairTells
newest_shape-first h key valid none =
    by (versions_of key h)
    ∙ ap (λ ps. option_map shape_of (first ps)) (sym (key_pairs-are h key valid ∙ ap (λ o. key_pairs o (versions_of key h)) none))
  where
    by : (vs : List Version) → option_map version_shape (first vs) ≡ option_map shape_of (first (map (λ v. stored_pair (VersionOf v)) vs))
    by [] = refl
    by (v ∷ vs) = refl

-- and all its versions are what its pairs tell
pub versions-pairs : PairsTellVersions
versions-pairs h key valid none =
    sym (map-map shape_of (λ v. stored_pair (VersionOf v)) (versions_of key h))
    ∙ ap (map shape_of) (sym (key_pairs-are h key valid ∙ ap (λ o. key_pairs o (versions_of key h)) none))

-- ---- what an accepted deletion of a span says

-- where no version of the span and no tombstone that overlaps it is at or above the timestamp, it is above the span
pub above_span-accepted : NothingAtOrAbove
above_span-accepted h start end ts none = record {
  versions = unfiltered (λ v. is_before v.ts ts ≡ true) (λ v. is_within start end v.key) h.versions
      (All-unmap (λ s. is_before s ts ≡ true) (λ v. v.ts) (filter (λ v. is_within start end v.key) h.versions) both.0);
  tombstones = All-weaker (λ t. (is_below t.start end && is_below start t.end) ≡ true → is_before t.ts ts ≡ true)
      (λ t. is_below t.start end ≡ true → is_below start t.end ≡ true → is_before t.ts ts ≡ true) h.tombstones
      (λ t passes low high. passes (ap (λ p. p && is_below start t.end) low ∙ high))
      (unfiltered (λ t. is_before t.ts ts ≡ true) (λ t. is_below t.start end && is_below start t.end) h.tombstones
      (All-unmap (λ s. is_before s ts ≡ true) (λ t. t.ts) (filter (λ t. is_below t.start end && is_below start t.end) h.tombstones) both.1));
}
  where
    of_versions : List Timestamp
    of_versions = map (λ v. v.ts) (filter (λ v. is_within start end v.key) h.versions)

    of_tombstones : List Timestamp
    of_tombstones = map (λ t. t.ts) (filter (λ t. is_below t.start end && is_below start t.end) h.tombstones)

    both : AllByRecursion (λ s. is_before s ts ≡ true) (map (λ v. v.ts) (filter (λ v. is_within start end v.key) h.versions))
        × AllByRecursion (λ s. is_before s ts ≡ true) (map (λ t. t.ts) (filter (λ t. is_below t.start end && is_below start t.end) h.tombstones))
    both =
        All-split (λ s. is_before s ts ≡ true) of_versions of_tombstones
        (All-weaker (λ s. is_up_to ts s ≡ false) (λ s. is_before s ts ≡ true) (of_versions ++ of_tombstones) (λ s. not_up_to ts s)
        (none_at_or_above ts (of_versions ++ of_tombstones) none))
