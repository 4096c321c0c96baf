-- What of a span has a timestamp in a window goes: by how much that changes the statistics.
use Rattle.std.specs.Prelude.{◌≡◌, ◌+ℤ◌, Bool, true, false, ◌&&◌, not, List, ◌++◌, filter, length, map}
use Rattle.std.specs.List.{AllByRecursion, list_any}
use Rattle.std.proofs.Common.{refl, sym, ap, subst, ◌∙◌}
use Rattle.mvcc_key.specs.Order.{Timestamp, Key, is_same_key, is_below, is_within}
use Rattle.mvcc_key.specs.History.{Version, Intent, History, versions_of}
use Rattle.mvcc_key.specs.Fragments.{fragments, stack_at, take_out}
use Rattle.mvcc_key.proofs.OrderLaws.{name_cmp-key}
use Rattle.mvcc_key.proofs.EachLaws.{All-append, All-split, All-in_order, All-from_in_order, All-map, All-unmap, All-weaker, All-filter}
use Rattle.mvcc_key.proofs.FilterLaws.{filter-map, filter-twice, filter-swap}
use Rattle.mvcc_key.proofs.StackLaws.{same_key_is}
use Rattle.intent_meta.specs.StoredPairs.{provisional, Stored, RecordOf, VersionOf, stored_name, stored_cmp, stored_pair, stored_pairs}
use Rattle.intent_meta.specs.LeftAlone.{LeavesOutside}
use Rattle.intent_meta.proofs.BlockLaws.{stored_of}
use Rattle.intent_meta.proofs.KeyPairsLaws.{stored_pairs-filter}
use Rattle.intent_meta.proofs.LeftAloneLaws.{take_out-leaves}
use Rattle.stat_delta.specs.Shapes.{key_change, shape_of_versions, version_shape}
use Rattle.stat_delta.specs.Laws.{shape_with}
use Rattle.stat_delta.specs.SpanChanges.{changes_over, kept_change, HaveKeysWithin}
use Rattle.stat_delta.specs.Removals.{without_window, change_by_window, WindowGoes}
use Rattle.stat_delta.proofs.ChangesOverLaws.{changes_over-same}
use Rattle.stat_delta.proofs.SpanKeysLaws.{no_intent-within}
use Rattle.stat_delta.proofs.SpanHistoryLaws.{history_change-span}
use Rattle.stat_delta.proofs.SpanTombstoneLaws.{stack_at-middle}
use Rattle.stat_delta.proofs.SpanThinningLaws.{stack_at-uncovered, fragments_change-taken_out}

-- ---- keys of which something is kept

-- what is kept of a span has these keys
record KeptHaveKeys (start end : Key) (keys : List Key) (intents : List Intent) (versions : List Version) : Type 0 where
  of_intents : AllByRecursion (λ i. list_any (is_same_key i.key) keys ≡ true) (filter (λ i. is_within start end i.key) intents)
  of_versions : AllByRecursion (λ v. list_any (is_same_key v.key) keys ≡ true) (filter (λ v. is_within start end v.key) versions)

module _ (start end : Key) (keys : List Key) (h : History) where
  -- its key is one of the keys
  abbrev has : Stored → Type 0
  has x = list_any (is_same_key (stored_name x).key) keys ≡ true

  -- the intents of the span
  abbrev is : List Intent
  is = filter (λ i. is_within start end i.key) h.intents

  -- and its versions
  abbrev vs : List Version
  vs = filter (λ v. is_within start end v.key) h.versions

  -- what is stored has the keys of what is kept
  have_keys-stored : KeptHaveKeys start end keys h.intents h.versions → HaveKeysWithin start end keys (stored_pairs h)
  have_keys-stored have =
      subst (AllByRecursion (λ p. list_any (is_same_key p.name.key) keys ≡ true)) (sym (stored_pairs-filter (is_within start end) h))
      (All-map (λ p. list_any (is_same_key p.name.key) keys ≡ true) stored_pair (stored_of is vs)
      (All-in_order stored_cmp has (map RecordOf is ++ map (λ i. VersionOf (provisional i)) is ++ map VersionOf vs)
      (All-append has (map RecordOf is ++ map (λ i. VersionOf (provisional i)) is) (map VersionOf vs)
      (All-append has (map RecordOf is) (map (λ i. VersionOf (provisional i)) is)
      (All-map has RecordOf is have.of_intents) (All-map has (λ i. VersionOf (provisional i)) is have.of_intents))
      (All-map has VersionOf vs have.of_versions))))

  -- and the other way round
  have_keys-kept : HaveKeysWithin start end keys (stored_pairs h) → KeptHaveKeys start end keys h.intents h.versions
  have_keys-kept have =
      record { of_intents = All-unmap has RecordOf is (of_rest.0); of_versions = All-unmap has VersionOf vs of_all.1 }
    where
      of_all : AllByRecursion has (map RecordOf is ++ map (λ i. VersionOf (provisional i)) is) × AllByRecursion has (map VersionOf vs)
      of_all =
          All-split has (map RecordOf is ++ map (λ i. VersionOf (provisional i)) is) (map VersionOf vs)
          (All-from_in_order stored_cmp has
          (λ x y tie own. subst (λ k. list_any (is_same_key k) keys ≡ true) (name_cmp-key (stored_name x) (stored_name y) tie) own)
          (map RecordOf is ++ map (λ i. VersionOf (provisional i)) is ++ map VersionOf vs)
          (All-unmap (λ p. list_any (is_same_key p.name.key) keys ≡ true) stored_pair (stored_of is vs)
          (subst (AllByRecursion (λ p. list_any (is_same_key p.name.key) keys ≡ true)) (stored_pairs-filter (is_within start end) h) have)))

      of_rest : AllByRecursion has (map RecordOf is) × AllByRecursion has (map (λ i. VersionOf (provisional i)) is)
      of_rest = All-split has (map RecordOf is) (map (λ i. VersionOf (provisional i)) is) of_all.0

-- what holds of those that pass a test holds of those of some of a list that pass it
some_pass : {X : Type 0} (P : X → Type 0) (test stays : X → Bool) (xs : List X) → AllByRecursion P (filter test xs) → AllByRecursion P (filter test (filter stays xs))
some_pass P test stays xs all = subst (AllByRecursion P) (filter-swap stays test xs) (All-filter P stays (filter test xs) all)

-- ---- what goes

-- the versions of a key of the span after it went
versions_of-window : (h : History) (start end key : Key) (test : Timestamp → Bool) → is_within start end key ≡ true
    → versions_of key (without_window start end test h) ≡ filter (λ v. not (test v.ts)) (versions_of key h)
versions_of-window h start end key test within =
    filter-twice (λ v. is_same_key v.key key) (λ v. not (is_within start end v.key && test v.ts)) (λ v. is_same_key v.key key && not (test v.ts)) h.versions
    (λ v. by v (is_same_key v.key key) refl)
    ∙ sym (filter-twice (λ v. not (test v.ts)) (λ v. is_same_key v.key key) (λ v. is_same_key v.key key && not (test v.ts)) h.versions (λ v. refl))
  where
    and_true : (t : Bool) → (t && true) ≡ t
    and_true true = refl
    and_true false = refl

    and_false : (t : Bool) → (t && false) ≡ false
    and_false true = refl
    and_false false = refl

    by : (v : Version) (s : Bool) → is_same_key v.key key ≡ s → (not (is_within start end v.key && test v.ts) && s) ≡ (s && not (test v.ts))
    by v true e = and_true (not (is_within start end v.key && test v.ts)) ∙ ap (λ t. not (t && test v.ts)) (ap (is_within start end) (same_key_is v.key key e) ∙ within)
    by v false e = and_false (not (is_within start end v.key && test v.ts))

-- the keys outside the span keep what they have
outside-window : (h : History) (start end : Key) (test : Timestamp → Bool) → is_below start end ≡ true → LeavesOutside start end h (without_window start end test h)
outside-window h start end test span = record {
  versions = filter-twice (λ v. not (is_within start end v.key)) (λ v. not (is_within start end v.key && test v.ts)) (λ v. not (is_within start end v.key)) h.versions
      (λ v. by (is_within start end v.key) (test v.ts));
  intents = refl;
  stacks = (take_out-leaves h start end test span).stacks;
}
  where
    by : (s t : Bool) → (not (s && t) && not s) ≡ not s
    by true true = refl
    by true false = refl
    by false t = refl

-- the shapes of versions that stay
shapes-stay : (test : Timestamp → Bool) (vs : List Version) → map version_shape (filter (λ v. not (test v.ts)) vs) ≡ filter (λ v. not (test v.ts)) (map version_shape vs)
shapes-stay test vs = sym (filter-map (λ v. not (test v.ts)) version_shape vs)

-- what of a span without intents has a timestamp that passes the test goes
pub history_change-window : WindowGoes
history_change-window now h start end test keys left mid right f valid valid' span none are have is ends starts =
    history_change-span now h (without_window start end test h) start end keys f valid valid' (outside-window h start end test span) are have have'
    ∙ λ i. by_keys i +ℤ fragments_change-taken_out now start end test h.tombstones left mid right f span is ends starts i
  where
    have' : HaveKeysWithin start end keys (stored_pairs (without_window start end test h))
    have' =
        let kept = have_keys-kept start end keys h have in
        have_keys-stored start end keys (without_window start end test h) (record {
          of_intents = kept.of_intents;
          of_versions = some_pass (λ v. list_any (is_same_key v.key) keys ≡ true) (λ v. is_within start end v.key) (λ v. not (is_within start end v.key && test v.ts)) h.versions kept.of_versions;
        })

    of_key : (key : Key) → is_within start end key ≡ true
        → kept_change now h (without_window start end test h) key f ≡ change_by_window now (length key) (stack_at mid key) test (map version_shape (versions_of key h)) f
    of_key key within =
        let none' = no_intent-within h start end key none within in
        (λ i. key_change now (shape_with (fragments h.tombstones) key (none' i) (versions_of key h))
        (shape_with (fragments (take_out start end (λ t. test t.ts) h.tombstones)) key (none' i) (versions_of-window h start end key test within i)) f)
        ∙ (λ i. key_change now (shape_of_versions (length key) (stack_at (fragments h.tombstones) key) (map version_shape (versions_of key h)))
        (shape_of_versions (length key) (stack_at-uncovered h start end key test span within i) (shapes-stay test (versions_of key h) i)) f)
        ∙ ap (λ stack. change_by_window now (length key) stack test (map version_shape (versions_of key h)) f)
        (stack_at-middle h.tombstones left mid right start end key is ends starts within)

    by_keys : changes_over (kept_change now h (without_window start end test h)) keys f
        ≡ changes_over (λ key. change_by_window now (length key) (stack_at mid key) test (map version_shape (versions_of key h))) keys f
    by_keys =
        changes_over-same (kept_change now h (without_window start end test h))
        (λ key. change_by_window now (length key) (stack_at mid key) test (map version_shape (versions_of key h))) keys f
        (All-weaker (λ key. is_within start end key ≡ true)
        (λ key. kept_change now h (without_window start end test h) key f
        ≡ change_by_window now (length key) (stack_at mid key) test (map version_shape (versions_of key h)) f) keys of_key are.within)
