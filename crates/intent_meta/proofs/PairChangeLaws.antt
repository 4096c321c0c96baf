-- What a version or an intent more changes among the pairs that a history is stored as.
use Rattle.std.proofs.Common.{◌≡◌, Bool, true, false, cond, List, [], ◌∷◌, ◌++◌, refl, sym, ap, subst, ◌∙◌, inl, inr, append-nil, append_assoc}
use Rattle.std.specs.Prelude.{not, map, filter, Option, Some, None, IfSome}
use Rattle.std.specs.List.{AllByRecursion}
use Rattle.std.specs.declared.cmp.Ordering.{Ordering}
use Rattle.std.specs.declared.cmp.Ordering.TheVariants.{Less, Equal, Greater}
use Rattle.std.specs.Ordering.{is_eq}
use Rattle.std.specs.Cmp.{tied_itself, tied_back}
use Rattle.std.proofs.lemmas.Slice.Eq.{bytes_eq-Decides}
use Rattle.mvcc_key.specs.Lists.{put_in_order, in_order}
use Rattle.mvcc_key.specs.Order.{Timestamp, no_time, is_no_time, Key, key_cmp, is_same_key, Name, name_cmp, is_same_name, pair_cmp, is_before}
use Rattle.mvcc_key.specs.History.{Version, Intent, History, version_name, version_cmp, intent_cmp, with_version, with_intent, without_intent, intent_of}
use Rattle.mvcc_key.proofs.OrderLaws.{key_cmp-total, name_cmp-total, key_cmp-IsAntisymmetric, name_cmp-IsAntisymmetric, name_cmp-key}
use Rattle.mvcc_key.proofs.SortedLaws.{filter-put_in_order_other}
use Rattle.mvcc_key.proofs.StackLaws.{same_key_is}
use Rattle.mvcc_key.proofs.EachLaws.{All-in_order, All-append, All-map, All-weaker, All-put, All-every, none_first, found_passes}
use Rattle.mvcc_key.proofs.PlaceLaws.{put-swap_apart, put-over, in_order-put, in_order-put_behind, map-put_in_order, put-without_tied, put-there}
use Rattle.mvcc_key.proofs.FilterLaws.{filter-map, filter-all}
use Rattle.mvcc_key.proofs.TimeLaws.{up_to_itself, up_to_not_before}
use Rattle.mvcc_key.proofs.HistoryLaws.{intent_cmp-total, intent_of-without_intent}
use Rattle.mvcc_key.proofs.FragmentLaws.{same_key}
use Rattle.intent_meta.specs.StoredPairs.{provisional, Stored, RecordOf, VersionOf, stored_name, stored_cmp, stored, stored_pair, stored_pairs}
use Rattle.intent_meta.specs.Valid.{IsStoredVersion, IsStoredIntent, IsValid}
use Rattle.intent_meta.specs.PairChanges.{without_provisional, with_record, VersionIsOnePair, IntentIsTwoPairs, without_record, IntentTakesTwoPairs}
use Rattle.intent_meta.proofs.StoredLaws.{OfVersion, IsPlaced, stored_cmp-total}
use Rattle.intent_meta.proofs.BlockLaws.{versions_placed}
use Rattle.intent_meta.proofs.ReadBackLaws.{stored_timed, versions_timed}
use Rattle.intent_meta.proofs.ChangedLaws.{IsAboveVersion, without_intent-valid}

-- ---- names

-- a name with a timestamp is none of a record
timed_apart : (a b : Key) (ts : Timestamp) → is_no_time ts ≡ false → name_cmp (record { key = a; ts = ts }) (record { key = b; ts = no_time }) ≡ Equal → ⊥
timed_apart a b ts timed tie =
    let same = name_cmp-IsAntisymmetric (record { key = a; ts = ts }) (record { key = b; ts = no_time }) tie in
    let none : is_no_time ts ≡ true = ap (λ (n : Name). is_no_time n.ts) same in
    cc

-- names of different keys do not tie
keys_apart : (m n : Name) → is_same_key m.key n.key ≡ false → name_cmp m n ≡ Equal → ⊥
keys_apart m n other tie =
    let same : is_same_key m.key n.key ≡ true = (bytes_eq-Decides m.key n.key).1 (name_cmp-key m n tie) in
    cc

-- names that do not tie differ
differ : (m n : Name) → (name_cmp m n ≡ Equal → ⊥) → not (is_same_name m n) ≡ true
differ m n apart = by (name_cmp m n) refl
  where
    by : (o : Ordering) → name_cmp m n ≡ o → not (is_eq o) ≡ true
    by Less e = refl
    by Equal e = absurd (apart e)
    by Greater e = refl

-- ---- a version more

-- the records of intents
abbrev records : List Intent → List Stored
records = map RecordOf

-- their provisional versions
abbrev provisionals : List Intent → List Stored
provisionals = map (λ i. VersionOf (provisional i))

-- what is stored of a history, in pairs
stored_pairs-put : (x : Stored) (h : History) (after : List Stored) → after ≡ put_in_order stored_cmp x (stored h) → map stored_pair after ≡ put_in_order pair_cmp (stored_pair x) (stored_pairs h)
unfolding stored_pairs
stored_pairs-put x h after is =
    ap (map stored_pair) is
    ∙ map-put_in_order stored_cmp pair_cmp stored_pair x (stored h) (All-every (λ y. pair_cmp (stored_pair x) (stored_pair y) ≡ stored_cmp x y) (stored h) (λ y. refl))

-- an element put among others, in order
in_order-put_alone : (x : Stored) (xs : List Stored) → in_order stored_cmp (put_in_order stored_cmp x xs) ≡ put_in_order stored_cmp x (in_order stored_cmp xs)
in_order-put_alone x xs =
    sym (ap (in_order stored_cmp) (append-nil (put_in_order stored_cmp x xs)))
    ∙ in_order-put stored_cmp-total x xs []
    ∙ ap (λ ys. put_in_order stored_cmp x (in_order stored_cmp ys)) (append-nil xs)

-- the name of a version that is below an intent of its key is not the intent's provisional one
provisional_apart : (i : Intent) (v : Version) → IsAboveVersion v i → name_cmp (version_name v) (version_name (provisional i)) ≡ Equal → ⊥
provisional_apart i v above tie =
    let same = name_cmp-IsAntisymmetric (version_name v) (version_name (provisional i)) tie in
    let key : v.key ≡ i.key = ap (λ (m : Name). m.key) same in
    let ts : v.ts ≡ i.ts = ap (λ (m : Name). m.ts) same in
    let before : is_before i.ts i.ts ≡ true = subst (λ (t : Timestamp). is_before t i.ts ≡ true) ts (above (subst (λ k. is_same_key k i.key ≡ true) (sym key) (same_key i.key))) in
    let not_before : is_before i.ts i.ts ≡ false = up_to_not_before i.ts i.ts (up_to_itself i.ts) in
    absurd cc

-- a version that is no intent's is stored in its place
stored-with_version : (v : Version) (h : History) → is_no_time v.ts ≡ false → AllByRecursion (IsAboveVersion v) h.intents → stored (with_version v h) ≡ put_in_order stored_cmp (VersionOf v) (stored h)
stored-with_version v h timed above =
    let x : Stored = VersionOf v in
    let versions : map VersionOf (put_in_order version_cmp v h.versions) ≡ put_in_order stored_cmp x (map VersionOf h.versions) =
    map-put_in_order version_cmp stored_cmp VersionOf v h.versions (All-every (λ w. stored_cmp (VersionOf v) (VersionOf w) ≡ version_cmp v w) h.versions (λ w. refl)) in
    ap (λ vs. in_order stored_cmp (records h.intents ++ provisionals h.intents ++ vs)) versions
    ∙ in_order-put_behind stored_cmp-total x (records h.intents ++ provisionals h.intents) (put_in_order stored_cmp x (map VersionOf h.versions)) (map VersionOf h.versions)
    (All-append (λ y. stored_cmp x y ≡ Equal → ⊥) (records h.intents) (provisionals h.intents)
    (All-map (λ y. stored_cmp x y ≡ Equal → ⊥) RecordOf h.intents (All-every (λ i. stored_cmp x (RecordOf i) ≡ Equal → ⊥) h.intents (λ i. timed_apart v.key i.key v.ts timed)))
    (All-map (λ y. stored_cmp x y ≡ Equal → ⊥) (λ i. VersionOf (provisional i)) h.intents
    (All-weaker (IsAboveVersion v) (λ i. stored_cmp x (VersionOf (provisional i)) ≡ Equal → ⊥) h.intents (λ i. provisional_apart i v) above)))
    (in_order-put_alone x (map VersionOf h.versions))

-- its pair is put among the pairs
pub version_is_one_pair : VersionIsOnePair
unfolding stored_pairs
version_is_one_pair h v timed above = stored_pairs-put (VersionOf v) h (stored (with_version v h)) (stored-with_version v h timed above)

-- ---- an intent more

-- records compare as the keys of their intents
record_alike : (i j : Intent) → stored_cmp (RecordOf i) (RecordOf j) ≡ intent_cmp i j
record_alike i j = by (key_cmp i.key j.key) refl
  where
    by : (o : Ordering) → key_cmp i.key j.key ≡ o → stored_cmp (RecordOf i) (RecordOf j) ≡ o
    by Less e = rw e refl
    by Equal e = rw e refl
    by Greater e = rw e refl

-- so do provisional versions of different keys
provisional_alike : (i j : Intent) → is_same_key j.key i.key ≡ false → stored_cmp (VersionOf (provisional i)) (VersionOf (provisional j)) ≡ intent_cmp i j
provisional_alike i j other = by (key_cmp i.key j.key) refl
  where
    by : (o : Ordering) → key_cmp i.key j.key ≡ o → stored_cmp (VersionOf (provisional i)) (VersionOf (provisional j)) ≡ o
    by Less e = rw e refl
    by Equal e = let same : is_same_key j.key i.key ≡ true = (bytes_eq-Decides j.key i.key).1 (sym (key_cmp-IsAntisymmetric i.key j.key e)) in absurd cc
    by Greater e = rw e refl

-- a record and its provisional version in their places
abbrev put_both : Intent → List Stored → List Stored
put_both i xs = put_in_order stored_cmp (RecordOf i) (put_in_order stored_cmp (VersionOf (provisional i)) xs)

-- an intent of a key with none is stored as both
stored-new_intent : (i : Intent) (h : History) → is_no_time i.ts ≡ false → AllByRecursion (λ j. is_same_key j.key i.key ≡ false) h.intents → stored (with_intent i h) ≡ put_both i (stored h)
stored-new_intent i h timed others =
    let is : List Intent = h.intents in
    let versions : List Stored = map VersionOf h.versions in
    let r : Stored = RecordOf i in
    let p : Stored = VersionOf (provisional i) in
    let put_records : map RecordOf (put_in_order intent_cmp i is) ≡ put_in_order stored_cmp r (records is) =
    map-put_in_order intent_cmp stored_cmp RecordOf i is (All-every (λ j. stored_cmp r (RecordOf j) ≡ intent_cmp i j) is (record_alike i)) in
    let put_provisionals : map (λ j. VersionOf (provisional j)) (put_in_order intent_cmp i is) ≡ put_in_order stored_cmp p (provisionals is) =
    map-put_in_order intent_cmp stored_cmp (λ j. VersionOf (provisional j)) i is
    (All-weaker (λ j. is_same_key j.key i.key ≡ false) (λ j. stored_cmp p (VersionOf (provisional j)) ≡ intent_cmp i j) is (provisional_alike i) others) in
    (λ k. in_order stored_cmp (put_records k ++ put_provisionals k ++ versions))
    ∙ ap (in_order stored_cmp) (append_assoc (put_in_order stored_cmp r (records is)) (put_in_order stored_cmp p (provisionals is)) versions)
    ∙ in_order-put stored_cmp-total r (records is) (put_in_order stored_cmp p (provisionals is) ++ versions)
    ∙ ap (put_in_order stored_cmp r)
    (in_order-put_behind stored_cmp-total p (records is) (put_in_order stored_cmp p (provisionals is) ++ versions) (provisionals is ++ versions)
    (All-map (λ y. stored_cmp p y ≡ Equal → ⊥) RecordOf is (All-every (λ j. stored_cmp p (RecordOf j) ≡ Equal → ⊥) is (λ j. timed_apart i.key j.key i.ts timed)))
    (in_order-put stored_cmp-total p (provisionals is) versions))
    ∙ ap (λ xs. put_both i (in_order stored_cmp xs)) (sym (append_assoc (records is) (provisionals is) versions))

-- ---- the key's earlier intent

-- of the other keys the history has what it has
others_differ : (key : Key) (is : List Intent) → AllByRecursion (λ j. is_same_key j.key key ≡ false) (filter (λ j. not (is_same_key j.key key)) is)
others_differ key [] = tt
others_differ key (i ∷ is) = by (is_same_key i.key key) refl (others_differ key is)
  where
    by : (b : Bool) → is_same_key i.key key ≡ b → AllByRecursion (λ j. is_same_key j.key key ≡ false) (filter (λ j. not (is_same_key j.key key)) is)
        → AllByRecursion (λ j. is_same_key j.key key ≡ false) (cond (not b) (i ∷ filter (λ j. not (is_same_key j.key key)) is) (filter (λ j. not (is_same_key j.key key)) is))
    by true e rest = rest
    by false e rest = (e, rest)

-- an intent ties with those of its key alone
intent_tied : (i j : Intent) → intent_cmp i j ≡ Equal → not (is_same_key j.key i.key) ≡ false
intent_tied i j tie = ap not ((bytes_eq-Decides j.key i.key).1 (sym (key_cmp-IsAntisymmetric i.key j.key tie)))

-- those that do not tie are of other keys
intent_apart : (i j : Intent) → (intent_cmp i j ≡ Equal → ⊥) → not (is_same_key j.key i.key) ≡ true
intent_apart i j apart = by (is_same_key j.key i.key) refl
  where
    by : (b : Bool) → is_same_key j.key i.key ≡ b → not b ≡ true
    by true e = absurd (apart (subst (λ k. key_cmp i.key k ≡ Equal) (sym (same_key_is j.key i.key e)) (tied_itself key_cmp-total i.key)))
    by false e = refl

-- an intent goes to the same place where its key's earlier one was taken out
with_intent-without : (i : Intent) (h : History) → IsValid h → with_intent i (without_intent i.key h) ≡ with_intent i h
with_intent-without i h valid =
    let is = put-without_tied intent_cmp-total i (λ j. not (is_same_key j.key i.key)) (intent_tied i) (intent_apart i) h.intents valid.intents_in_order in
    λ k. record { versions = h.versions; intents = is k; tombstones = h.tombstones }

-- a key's intent may be put where it was taken out
with_intent-there : (o : Intent) (h : History) → IsValid h → intent_of o.key h ≡ Some o → with_intent o (without_intent o.key h) ≡ h
with_intent-there o h valid found =
    let is = put-there intent_cmp-total o (λ j. is_same_key j.key o.key) h.intents valid.intents_in_order found in
    with_intent-without o h valid ∙ (λ k. record { versions = h.versions; intents = is k; tombstones = h.tombstones })

-- where there is none nothing is taken out
without_intent-none : (key : Key) (h : History) → intent_of key h ≡ None → without_intent key h ≡ h
without_intent-none key h none =
    let is : filter (λ j. not (is_same_key j.key key)) h.intents ≡ h.intents =
    filter-all (λ j. not (is_same_key j.key key)) h.intents
    (All-weaker (λ j. is_same_key j.key key ≡ false) (λ j. not (is_same_key j.key key) ≡ true) h.intents (λ j other. ap not other) (none_first (λ j. is_same_key j.key key) h.intents none)) in
    λ k. record { versions = h.versions; intents = is k; tombstones = h.tombstones }

-- ---- the earlier intent's provisional version

-- what is stored has another name than the provisional version
abbrev is_other : Intent → Stored → Bool
is_other o x = not (is_same_name (stored_name x) (version_name (provisional o)))

-- a provisional version has its own name
own_name : (o : Intent) (x : Stored) → stored_cmp (VersionOf (provisional o)) x ≡ Equal → is_other o x ≡ false
own_name o x tie = ap (λ r. not (is_eq r)) (tied_back name_cmp-total (version_name (provisional o)) (stored_name x) tie)

-- records have other names
record_other : (o j : Intent) → is_no_time o.ts ≡ false → is_other o (RecordOf j) ≡ true
record_other o j timed =
    differ (stored_name (RecordOf j)) (version_name (provisional o))
    (λ tie. timed_apart o.key j.key o.ts timed (tied_back name_cmp-total (stored_name (RecordOf j)) (version_name (provisional o)) tie))

-- so have versions that stand elsewhere
version_other : (o : Intent) (v : Version) → IsPlaced o (OfVersion v) → is_other o (VersionOf v) ≡ true
version_other o v placed = differ (version_name v) (version_name (provisional o)) (λ tie. apart placed (tied_back name_cmp-total (version_name v) (version_name (provisional o)) tie))
  where
    apart : IsPlaced o (OfVersion v) → name_cmp (version_name (provisional o)) (version_name v) ≡ Equal → ⊥
    apart (inl above) tie =
        let same : key_cmp o.key v.key ≡ Equal = subst (λ k. key_cmp o.key k ≡ Equal) (name_cmp-key (version_name (provisional o)) (version_name v) tie) (tied_itself key_cmp-total o.key) in
        cc
    apart (inr behind) tie = cc

-- nothing that is stored of the other keys, and no version, has its name
others_stored : (o : Intent) (h : History) → IsValid h → IsStoredIntent h o → AllByRecursion (λ x. is_other o x ≡ true) (stored (without_intent o.key h))
others_stored o h valid o_stored =
    let is : List Intent = filter (λ j. not (is_same_key j.key o.key)) h.intents in
    let timed = stored_timed o.ts o_stored.ts in
    let Other : Stored → Type 0 = λ x. is_other o x ≡ true in
    All-in_order stored_cmp Other (records is ++ provisionals is ++ map VersionOf h.versions)
    (All-append Other (records is ++ provisionals is) (map VersionOf h.versions)
    (All-append Other (records is) (provisionals is)
    (All-map Other RecordOf is (All-every (λ j. is_other o (RecordOf j) ≡ true) is (λ j. record_other o j timed)))
    (All-map Other (λ j. VersionOf (provisional j)) is
    (All-weaker (λ j. is_same_key j.key o.key ≡ false) (λ j. is_other o (VersionOf (provisional j)) ≡ true) is
    (λ j other. differ (version_name (provisional j)) (version_name (provisional o)) (keys_apart (version_name (provisional j)) (version_name (provisional o)) other))
    (others_differ o.key h.intents))))
    (All-map Other VersionOf h.versions
    (All-weaker (λ v. IsPlaced o (OfVersion v)) (λ v. is_other o (VersionOf v) ≡ true) h.versions (version_other o)
    (versions_placed h o timed (All-weaker IsStoredVersion (λ v. is_no_time v.ts ≡ false) h.versions (λ v stored_v. stored_timed v.ts stored_v.ts) valid.versions) o_stored.above_items))))

-- without it the record of the intent is left
without_provisional-left : (o : Intent) (h : History) → IsValid h → IsStoredIntent h o → intent_of o.key h ≡ Some o
    → filter (is_other o) (stored h) ≡ put_in_order stored_cmp (RecordOf o) (stored (without_intent o.key h))
without_provisional-left o h valid o_stored found =
    let rest : History = without_intent o.key h in
    let r : Stored = RecordOf o in
    let p : Stored = VersionOf (provisional o) in
    let timed = stored_timed o.ts o_stored.ts in
    let both : stored h ≡ put_both o (stored rest) = sym (ap stored (with_intent-there o h valid found)) ∙ stored-new_intent o rest timed (others_differ o.key h.intents) in
    let left = All-put stored_cmp (λ x. is_other o x ≡ true) r (stored rest) (record_other o o timed) (others_stored o h valid o_stored) in
    ap (filter (is_other o)) (both ∙ sym (put-swap_apart stored_cmp-total p r (stored rest) (timed_apart o.key o.key o.ts timed)))
    ∙ filter-put_in_order_other stored_cmp (is_other o) p (put_in_order stored_cmp r (stored rest)) (own_name o p (tied_itself stored_cmp-total p)) (own_name o)
    ∙ filter-all (is_other o) (put_in_order stored_cmp r (stored rest)) left

-- ---- an intent that is put

-- a record that is put takes the place of the earlier one
put_both-over : (i o : Intent) (xs : List Stored) → is_no_time i.ts ≡ false → o.key ≡ i.key → put_both i (put_in_order stored_cmp (RecordOf o) xs) ≡ put_both i xs
put_both-over i o xs timed same =
    let tie : stored_cmp (RecordOf i) (RecordOf o) ≡ Equal = record_alike i o ∙ subst (λ k. key_cmp i.key k ≡ Equal) (sym same) (tied_itself key_cmp-total i.key) in
    ap (put_in_order stored_cmp (RecordOf i)) (put-swap_apart stored_cmp-total (VersionOf (provisional i)) (RecordOf o) xs (timed_apart i.key o.key i.ts timed))
    ∙ put-over stored_cmp-total (RecordOf i) (RecordOf o) (put_in_order stored_cmp (VersionOf (provisional i)) xs) tie

-- what is stored with an intent, by what is stored without the key's earlier one
stored-with_intent : (i : Intent) (h : History) → IsValid h → is_no_time i.ts ≡ false → stored (with_intent i h) ≡ put_both i (stored (without_intent i.key h))
stored-with_intent i h valid timed = sym (ap stored (with_intent-without i h valid)) ∙ stored-new_intent i (without_intent i.key h) timed (others_differ i.key h.intents)

-- both put among what is stored are both put among the pairs
put_both-pairs : (i : Intent) (xs : List Stored) → map stored_pair (put_both i xs) ≡ with_record i (map stored_pair xs)
put_both-pairs i xs =
    let alike = λ (x : Stored) (ys : List Stored). All-every (λ y. pair_cmp (stored_pair x) (stored_pair y) ≡ stored_cmp x y) ys (λ y. refl) in
    let r : Stored = RecordOf i in
    let p : Stored = VersionOf (provisional i) in
    map-put_in_order stored_cmp pair_cmp stored_pair r (put_in_order stored_cmp p xs) (alike r (put_in_order stored_cmp p xs))
    ∙ ap (put_in_order pair_cmp (stored_pair r)) (map-put_in_order stored_cmp pair_cmp stored_pair p xs (alike p xs))

-- both pairs of an intent are put among the pairs without the earlier intent's provisional version
pub intent_is_two_pairs : IntentIsTwoPairs
unfolding stored_pairs
intent_is_two_pairs h i valid timed =
    ap (map stored_pair) (stored-with_intent i h valid timed) ∙ put_both-pairs i rest
    ∙ by (intent_of i.key h) refl (found_passes (IsStoredIntent h) (λ j. is_same_key j.key i.key) h.intents valid.intents)
  where
    rest : List Stored
    rest = stored (without_intent i.key h)

    by : (old : Option Intent) → intent_of i.key h ≡ old → IfSome old (λ o. IsStoredIntent h o × (is_same_key o.key i.key ≡ true))
        → with_record i (map stored_pair rest) ≡ with_record i (without_provisional old (map stored_pair (stored h)))
    by None e found = ap (λ g. with_record i (map stored_pair (stored g))) (without_intent-none i.key h e)
    by (Some o) e found =
        let same : o.key ≡ i.key = same_key_is o.key i.key found.1 in
        let there : intent_of o.key h ≡ Some o = ap (λ k. intent_of k h) same ∙ e in
        let left : filter (is_other o) (stored h) ≡ put_in_order stored_cmp (RecordOf o) rest =
        without_provisional-left o h valid found.0 there ∙ ap (λ k. put_in_order stored_cmp (RecordOf o) (stored (without_intent k h))) same in
        sym (put_both-pairs i rest)
        ∙ ap (map stored_pair) (sym (put_both-over i o rest timed same))
        ∙ ap (λ xs. map stored_pair (put_both i xs)) (sym left)
        ∙ put_both-pairs i (filter (is_other o) (stored h))
        ∙ ap (with_record i) (sym (filter-map (λ p. not (is_same_name p.name (version_name (provisional o)))) stored_pair (stored h)))

-- ---- an intent that goes

-- what is stored is not the record of the key's intent
abbrev is_no_record : Key → Stored → Bool
is_no_record key x = not (is_same_name (stored_name x) (record { key = key; ts = no_time }))

-- where a key has no intent, its record is not stored
no_record-stored : (key : Key) (h : History) → IsValid h → intent_of key h ≡ None → AllByRecursion (λ x. is_no_record key x ≡ true) (stored h)
no_record-stored key h valid none =
    All-in_order stored_cmp NoRecord (records h.intents ++ provisionals h.intents ++ map VersionOf h.versions)
    (All-append NoRecord (records h.intents ++ provisionals h.intents) (map VersionOf h.versions)
    (All-append NoRecord (records h.intents) (provisionals h.intents)
    (All-map NoRecord RecordOf h.intents
    (All-weaker (λ j. is_same_key j.key key ≡ false) (λ j. is_no_record key (RecordOf j) ≡ true) h.intents
    (λ j other. differ (stored_name (RecordOf j)) own (keys_apart (stored_name (RecordOf j)) own other)) (none_first (λ j. is_same_key j.key key) h.intents none)))
    (All-map NoRecord (λ j. VersionOf (provisional j)) h.intents
    (All-weaker (IsStoredIntent h) (λ j. is_no_record key (VersionOf (provisional j)) ≡ true) h.intents
    (λ j s. differ (version_name (provisional j)) own (timed_apart j.key key j.ts (stored_timed j.ts s.ts))) valid.intents)))
    (All-map NoRecord VersionOf h.versions
    (All-weaker (λ v. is_no_time v.ts ≡ false) (λ v. is_no_record key (VersionOf v) ≡ true) h.versions
    (λ v timed. differ (version_name v) own (timed_apart v.key key v.ts timed)) (versions_timed h valid))))
  where
    own : Name
    own = record { key = key; ts = no_time }

    NoRecord : Stored → Type 0
    NoRecord x = is_no_record key x ≡ true

-- without its record what is stored of a history with the intent is what is stored without it
without_record-left : (o : Intent) (h : History) → IsValid h → filter (is_no_record o.key) (put_in_order stored_cmp (RecordOf o) (stored (without_intent o.key h))) ≡ stored (without_intent o.key h)
without_record-left o h valid =
    let rest : History = without_intent o.key h in
    let own = λ (y : Stored) (tie : stored_cmp (RecordOf o) y ≡ Equal). ap (λ r. not (is_eq r)) (tied_back name_cmp-total (stored_name (RecordOf o)) (stored_name y) tie) in
    filter-put_in_order_other stored_cmp (is_no_record o.key) (RecordOf o) (stored rest) (own (RecordOf o) (tied_itself stored_cmp-total (RecordOf o))) own
    ∙ filter-all (is_no_record o.key) (stored rest) (no_record-stored o.key rest (without_intent-valid h o.key valid) (intent_of-without_intent o.key h))

-- an intent that goes takes its two pairs with it
pub intent_takes_two_pairs : IntentTakesTwoPairs
unfolding stored_pairs
intent_takes_two_pairs h key valid = by (intent_of key h) refl (found_passes (IsStoredIntent h) (λ j. is_same_key j.key key) h.intents valid.intents)
  where
    left : (k : Key) (xs : List Stored) → without_record k (map stored_pair xs) ≡ map stored_pair (filter (is_no_record k) xs)
    left k xs = filter-map (λ p. not (is_same_name p.name (record { key = k; ts = no_time }))) stored_pair xs

    own : (o : Intent) → IsStoredIntent h o → intent_of o.key h ≡ Some o
        → map stored_pair (stored (without_intent o.key h)) ≡ without_record o.key (without_provisional (Some o) (map stored_pair (stored h)))
    own o o_stored there =
        ap (map stored_pair) (sym (without_record-left o h valid))
        ∙ sym (left o.key (put_in_order stored_cmp (RecordOf o) (stored (without_intent o.key h))))
        ∙ ap (λ xs. without_record o.key (map stored_pair xs)) (sym (without_provisional-left o h valid o_stored there))
        ∙ ap (without_record o.key) (sym (filter-map (λ p. not (is_same_name p.name (version_name (provisional o)))) stored_pair (stored h)))

    by : (old : Option Intent) → intent_of key h ≡ old → IfSome old (λ o. IsStoredIntent h o × (is_same_key o.key key ≡ true))
        → map stored_pair (stored (without_intent key h)) ≡ without_record key (without_provisional old (map stored_pair (stored h)))
    by None e found =
        ap (λ g. map stored_pair (stored g)) (without_intent-none key h e)
        ∙ ap (map stored_pair) (sym (filter-all (is_no_record key) (stored h) (no_record-stored key h valid e)))
        ∙ sym (left key (stored h))
    by (Some o) e found =
        let same : o.key ≡ key = same_key_is o.key key found.1 in
        subst (λ k. map stored_pair (stored (without_intent k h)) ≡ without_record k (without_provisional (Some o) (map stored_pair (stored h)))) same
        (own o found.0 (ap (λ k. intent_of k h) same ∙ e))
