-- What a newer version makes of the versions of its key.
use Rattle.std.specs.Prelude.{◌≡◌, true, false, List, [], ◌∷◌, Option, Some, None, IfSome}
use Rattle.std.specs.List.{AllByRecursion}
use Rattle.std.specs.List.Sorted.{IsStrictlySortedBy}
use Rattle.std.specs.declared.cmp.Ordering.{Ordering}
use Rattle.std.specs.declared.cmp.Ordering.TheVariants.{Less, Equal, Greater}
use Rattle.std.specs.Ordering.{is_lt, ordering_reverse}
use Rattle.std.proofs.Common.{refl, sym, ap, subst, ◌∙◌}
use Rattle.std.proofs.lemmas.List.Kept.{IsStrictlySortedBy-filter}
use Rattle.mvcc_key.specs.Lists.{first}
use Rattle.mvcc_key.specs.Order.{Timestamp, is_no_time, is_before, time_cmp, Key, key_cmp, is_same_key}
use Rattle.mvcc_key.specs.History.{Version, version_cmp, Intent, History, with_version, versions_of, intent_of}
use Rattle.mvcc_key.proofs.FragmentLaws.{same_key}
use Rattle.mvcc_key.proofs.OrderLaws.{time_cmp-total, time_cmp-IsAntisymmetric}
use Rattle.mvcc_key.proofs.SortedLaws.{IsBelowAll, below_more}
use Rattle.mvcc_key.proofs.EachLaws.{first-some}
use Rattle.mvcc_key.proofs.SameKeyLaws.{same_keys-tie}
use Rattle.mvcc_key.proofs.PlaceLaws.{filter-put_first}
use Rattle.mvcc_key.proofs.HistoryLaws.{version_cmp-total}
use Rattle.mvcc_key.proofs.StackLaws.{same_key_is}
use Rattle.intent_meta.specs.StoredPairs.{provisional, VersionOf, stored_cmp, stored_pair}
use Rattle.intent_meta.specs.Valid.{IsValid}
use Rattle.intent_meta.proofs.BlockLaws.{IsAbove}
use Rattle.intent_meta.proofs.KeyPairsLaws.{own_intent, own_versions, intent_above}
use Rattle.stat_core.proofs.PutLaws.{newer_first}

-- a version that is newer than the newest of its key stands before all of them
newest_first : (v : Version) (vs : List Version) → IsStrictlySortedBy version_cmp vs
    → AllByRecursion (λ w. (is_same_key w.key v.key ≡ true) × (is_no_time w.ts ≡ false)) vs → IfSome (first vs) (λ w. is_before w.ts v.ts ≡ true)
    → IsBelowAll version_cmp v vs
unfolding IsStrictlySortedBy
newest_first v [] sorted own newer = tt
newest_first v (w ∷ ws) sorted own newer =
    let less : version_cmp v w ≡ Less = newer_first (stored_pair (VersionOf v)) (stored_pair (VersionOf w)) (same_key_is w.key v.key (own.0).0) (own.0).1 newer in
    (less, below_more version_cmp-total v w ws less sorted.0)

-- the versions of a key after a newer one came
pub versions_of-on_top : (v : Version) (h : History) → IsValid h → IfSome (first (versions_of v.key h)) (λ w. is_before w.ts v.ts ≡ true)
    → versions_of v.key (with_version v h) ≡ v ∷ versions_of v.key h
versions_of-on_top v h valid newer =
    filter-put_first version_cmp (λ w. is_same_key w.key v.key) v h.versions (same_key v.key)
    (newest_first v (versions_of v.key h) (IsStrictlySortedBy-filter version_cmp (λ w. is_same_key w.key v.key) h.versions valid.versions_in_order)
    (own_versions h v.key valid) newer)

-- the provisional version of an intent is newer than a version of its key that it stands before
older_than_intent : (i : Intent) (w : Version) (key : Key) → is_same_key i.key key ≡ true → is_same_key w.key key ≡ true → is_no_time i.ts ≡ false → is_no_time w.ts ≡ false
    → stored_cmp (VersionOf (provisional i)) (VersionOf w) ≡ Less → time_cmp w.ts i.ts ≡ Less
older_than_intent i w key is is' timed timed' behind =
    let tie : key_cmp i.key w.key ≡ Equal = same_keys-tie i.key w.key key is is' in
    rw (tie, timed, timed') at behind

-- what is older than another timestamp is older than each that is not before that
older_than_later : (s t u : Timestamp) → time_cmp s t ≡ Less → is_before u t ≡ false → is_before s u ≡ true
older_than_later s t u older late = by (time_cmp u t) refl late
  where
    by : (o : Ordering) → time_cmp u t ≡ o → is_lt o ≡ false → is_before s u ≡ true
    by Less e late = absurd cc
    by Equal e late = subst (λ w. is_before s w ≡ true) (sym (time_cmp-IsAntisymmetric u t e)) (ap is_lt older)
    by Greater e late = ap is_lt (time_cmp-total.trans s t u older (time_cmp-total.antisymm t u ∙ ap ordering_reverse e))

-- the versions of a key are older than what is not before its intent
pub older_than_commit : (h : History) (i : Intent) (key : Key) (ts : Timestamp) → IsValid h → intent_of key h ≡ Some i → is_before ts i.ts ≡ false
    → IfSome (first (versions_of key h)) (λ w. is_before w.ts ts ≡ true)
older_than_commit h i key ts valid some late =
    let own : (is_same_key i.key key ≡ true) × IsAbove h.versions i = subst (λ o. IfSome o (λ j. (is_same_key j.key key ≡ true) × IsAbove h.versions j)) some (own_intent h key valid) in
    by (first (versions_of key h)) own
    (first-some (λ w. (is_same_key w.key key ≡ true) × (is_no_time w.ts ≡ false)) (versions_of key h) (own_versions h key valid))
    (first-some (λ w. stored_cmp (VersionOf (provisional i)) (VersionOf w) ≡ Less) (versions_of key h) (intent_above key i h.versions own.0 own.1))
  where
    by : (newest : Option Version) → (is_same_key i.key key ≡ true) × IsAbove h.versions i → IfSome newest (λ w. (is_same_key w.key key ≡ true) × (is_no_time w.ts ≡ false))
        → IfSome newest (λ w. stored_cmp (VersionOf (provisional i)) (VersionOf w) ≡ Less) → IfSome newest (λ w. is_before w.ts ts ≡ true)
    by None own timed behind = tt
    by (Some w) own timed behind = older_than_later w.ts i.ts ts (older_than_intent i w key own.0 timed.0 (own.1).timed timed.1 behind) late
