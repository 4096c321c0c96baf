-- The pairs of one key in what a history is stored as.
use Rattle.std.specs.Prelude.{◌≡◌, Bool, true, false, List, [], ◌∷◌, filter, map, Option, Some, None, IfSome, option_to_list}
use Rattle.std.specs.List.{AllByRecursion}
use Rattle.std.specs.List.Sorted.{IsStrictlySortedBy}
use Rattle.std.specs.declared.cmp.Ordering.TheVariants.{Less, Equal}
use Rattle.std.proofs.Common.{refl, sym, ap, ◌∙◌, inl, inr}
use Rattle.std.proofs.lemmas.Cmp.{tied_itself, on_total}
use Rattle.std.proofs.lemmas.Simd.{map-map}
use Rattle.std.proofs.lemmas.List.Kept.{IsStrictlySortedBy-filter}
use Rattle.mvcc_key.specs.Lists.{put_in_order, first}
use Rattle.mvcc_key.specs.Order.{is_no_time, Key, key_cmp, is_same_key}
use Rattle.mvcc_key.specs.History.{Version, version_cmp, Intent, intent_cmp, History, versions_of, intent_of}
use Rattle.mvcc_key.proofs.OrderLaws.{key_cmp-total, name_cmp-total}
use Rattle.mvcc_key.proofs.SortedLaws.{IsBelowAll, put_in_order-first, below_more}
use Rattle.mvcc_key.proofs.EachLaws.{All-map, All-weaker, All-passing, first-some}
use Rattle.mvcc_key.proofs.ByKeyLaws.{same_by_keys}
use Rattle.mvcc_key.proofs.SameKeyLaws.{same_keys-tie}
use Rattle.intent_meta.specs.StoredPairs.{provisional, RecordOf, VersionOf, stored_cmp, stored_pair, stored_pairs}
use Rattle.intent_meta.specs.Valid.{IsValid}
use Rattle.intent_meta.specs.KeyPairs.{KeyPairsAre, KeyPairsTell, key_pairs}
use Rattle.intent_meta.proofs.StoredLaws.{stored_cmp-total, in_order-versions, OfVersion, IsPlaced}
use Rattle.intent_meta.proofs.BlockLaws.{IsAbove, stored_of}
use Rattle.intent_meta.proofs.ReadBackLaws.{versions_timed, intents_above, stored_pairs-rise}
use Rattle.intent_meta.proofs.PairsLaws.{pairs_of_keys}

-- the pairs of the keys that pass a test are what the intents and versions of these keys are stored as
pub stored_pairs-filter : (test : Key → Bool) (h : History)
    → filter (λ p. test p.name.key) (stored_pairs h)
    ≡ map stored_pair (stored_of (filter (λ i. test i.key) h.intents) (filter (λ v. test v.key) h.versions))
unfolding stored_pairs
stored_pairs-filter test h = pairs_of_keys test h

-- of intents in order one at most is of the key
one_intent : (key : Key) (P : Intent → Type 0) (is : List Intent) → IsStrictlySortedBy intent_cmp is
    → AllByRecursion (λ i. (is_same_key i.key key ≡ true) × P i) is → is ≡ option_to_list (first is)
unfolding IsStrictlySortedBy
one_intent key P [] sorted all = refl
one_intent key P (i ∷ []) sorted all = refl
one_intent key P (i ∷ j ∷ is) sorted all =
    let tie : key_cmp i.key j.key ≡ Equal = same_keys-tie i.key j.key key all.0.0 all.1.0.0 in
    let less : key_cmp i.key j.key ≡ Less = (sorted.0).0 in
    cc

-- a version that stands apart from an intent of its key stands behind the provisional version
behind_provisional : (i : Intent) (v : Version) (key : Key) → is_same_key i.key key ≡ true → is_same_key v.key key ≡ true → IsPlaced i (OfVersion v)
    → stored_cmp (VersionOf (provisional i)) (VersionOf v) ≡ Less
behind_provisional i v key is is' (inl above) = let tie : key_cmp i.key v.key ≡ Equal = same_keys-tie i.key v.key key is is' in cc
behind_provisional i v key is is' (inr behind) = behind

-- the record stands before the provisional version
record_before : (i : Intent) → is_no_time i.ts ≡ false → stored_cmp (RecordOf i) (VersionOf (provisional i)) ≡ Less
record_before i timed = let same : key_cmp i.key i.key ≡ Equal = tied_itself key_cmp-total i.key in rw (same, timed) refl

-- an intent, if there is one, and versions behind it, are stored in this order
key_pairs-in_order : (intent : Option Intent) (vs : List Version) → IsStrictlySortedBy version_cmp vs
    → IfSome intent (λ i. (is_no_time i.ts ≡ false) × AllByRecursion (λ v. stored_cmp (VersionOf (provisional i)) (VersionOf v) ≡ Less) vs)
    → map stored_pair (stored_of (option_to_list intent) vs) ≡ key_pairs intent vs
key_pairs-in_order None vs sorted above = ap (map stored_pair) (in_order-versions stored_cmp VersionOf (λ v w. refl) vs sorted) ∙ map-map stored_pair VersionOf vs
key_pairs-in_order (Some i) vs sorted above =
    let behind : IsBelowAll stored_cmp (VersionOf (provisional i)) (map VersionOf vs) = All-map (λ x. stored_cmp (VersionOf (provisional i)) x ≡ Less) VersionOf vs above.1 in
    ap (λ xs. map stored_pair (put_in_order stored_cmp (RecordOf i) (put_in_order stored_cmp (VersionOf (provisional i)) xs)))
    (in_order-versions stored_cmp VersionOf (λ v w. refl) vs sorted)
    ∙ ap (λ xs. map stored_pair (put_in_order stored_cmp (RecordOf i) xs)) (put_in_order-first stored_cmp (VersionOf (provisional i)) (map VersionOf vs) behind)
    ∙ ap (map stored_pair) (put_in_order-first stored_cmp (RecordOf i) (VersionOf (provisional i) ∷ map VersionOf vs)
    (record_before i above.0, below_more stored_cmp-total (RecordOf i) (VersionOf (provisional i)) (map VersionOf vs) (record_before i above.0) behind))
    ∙ ap (λ ps. stored_pair (RecordOf i) ∷ stored_pair (VersionOf (provisional i)) ∷ ps) (map-map stored_pair VersionOf vs)

-- an intent of the key stands above the key's versions
pub intent_above : (key : Key) (i : Intent) (vs : List Version) → is_same_key i.key key ≡ true → IsAbove vs i
    → AllByRecursion (λ v. stored_cmp (VersionOf (provisional i)) (VersionOf v) ≡ Less) (filter (λ v. is_same_key v.key key) vs)
intent_above key i vs is above =
    All-weaker (λ v. (is_same_key v.key key ≡ true) × IsPlaced i (OfVersion v)) (λ v. stored_cmp (VersionOf (provisional i)) (VersionOf v) ≡ Less)
    (filter (λ v. is_same_key v.key key) vs)
    (λ v h. behind_provisional i v key is h.0 h.1)
    (All-passing (λ v. IsPlaced i (OfVersion v)) (λ v. is_same_key v.key key) vs above.placed)

-- the intents of a key in a valid history stand above its versions
own_intents : (h : History) (key : Key) → IsValid h
    → AllByRecursion (λ i. (is_same_key i.key key ≡ true) × IsAbove h.versions i) (filter (λ i. is_same_key i.key key) h.intents)
own_intents h key valid = All-passing (IsAbove h.versions) (λ i. is_same_key i.key key) h.intents (intents_above h valid)

-- so does the intent of the key, if there is one
pub own_intent : (h : History) (key : Key) → IsValid h → IfSome (intent_of key h) (λ i. (is_same_key i.key key ≡ true) × IsAbove h.versions i)
own_intent h key valid =
    first-some (λ i. (is_same_key i.key key ≡ true) × IsAbove h.versions i) (filter (λ i. is_same_key i.key key) h.intents) (own_intents h key valid)

-- the versions of a key in a valid history have timestamps
pub own_versions : (h : History) (key : Key) → IsValid h → AllByRecursion (λ v. (is_same_key v.key key ≡ true) × (is_no_time v.ts ≡ false)) (versions_of key h)
own_versions h key valid = All-passing (λ v. is_no_time v.ts ≡ false) (λ v. is_same_key v.key key) h.versions (versions_timed h valid)

-- the intents of a key in a valid history: its intent, if there is one
pub intents_are : (h : History) (key : Key) → IsValid h → filter (λ i. is_same_key i.key key) h.intents ≡ option_to_list (intent_of key h)
intents_are h key valid =
    one_intent key (IsAbove h.versions) (filter (λ i. is_same_key i.key key) h.intents)
    (IsStrictlySortedBy-filter intent_cmp (λ i. is_same_key i.key key) h.intents valid.intents_in_order) (own_intents h key valid)

-- the pairs of a key in what a valid history is stored as
pub key_pairs-are : KeyPairsAre
key_pairs-are h key valid =
    stored_pairs-filter (λ k. is_same_key k key) h
    ∙ ap (λ is. map stored_pair (stored_of is (versions_of key h))) (intents_are h key valid)
    ∙ key_pairs-in_order (intent_of key h) (versions_of key h) (IsStrictlySortedBy-filter version_cmp (λ v. is_same_key v.key key) h.versions valid.versions_in_order)
    (by (intent_of key h) (own_intent h key valid))
  where
    by : (intent : Option Intent) → IfSome intent (λ i. (is_same_key i.key key ≡ true) × IsAbove h.versions i)
        → IfSome intent (λ i. (is_no_time i.ts ≡ false) × AllByRecursion (λ v. stored_cmp (VersionOf (provisional i)) (VersionOf v) ≡ Less) (versions_of key h))
    by None is = tt
    by (Some i) is = ((is.1).timed, intent_above key i h.versions is.0 is.1)

-- so pairs in order that are, key by key, those of the intents and versions of a valid history are what it is stored as
pub key_pairs-tell : KeyPairsTell
key_pairs-tell h pairs valid sorted each =
    same_by_keys (λ p. p.name.key) (on_total (λ p. p.name) name_cmp-total) pairs (stored_pairs h) sorted (stored_pairs-rise h) (λ key. each key ∙ sym (key_pairs-are h key valid))
