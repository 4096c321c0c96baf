-- What a change of one key makes of this key, and what it leaves of the others.
use Rattle.std.proofs.Common.{◌≡◌, sym, subst, ◌∷◌, ap, ◌∙◌}
use Rattle.std.specs.Prelude.{None, Some}
use Rattle.mvcc_key.specs.Order.{Key}
use Rattle.mvcc_key.specs.History.{Version, History, with_version, with_intent, intent_of, Intent, versions_of}
use Rattle.mvcc_key.specs.Items.{items, version_item}
use Rattle.mvcc_key.proofs.HistoryLaws.{items-with_intent, intent_of-with_intent, versions_of-with_version, items-with_version}
use Rattle.intent_meta.specs.Valid.{IsValid}
use Rattle.intent_meta.specs.KeyChanges.{AreBelow, IsVersionOnTop, Nothing, VersionOnTop, IntentInPlace, IsIntentInPlace, ChangeKeepsValid, ChangeLeavesOthers, VersionOnTopIsOnePair, IntentInPlaceIsTwoPairs}
use Rattle.intent_meta.specs.LeftAlone.{ChangesOnly}
use Rattle.intent_meta.specs.StoredPairs.{stored_pairs}
use Rattle.intent_meta.specs.PairChanges.{without_provisional, with_record}
use Rattle.intent_meta.proofs.ChangedLaws.{with_intent-valid, version_on_top-valid, above_none}
use Rattle.intent_meta.proofs.ChangesOnlyLaws.{with_version-changes_only, with_intent-changes_only, nothing-changes_only}
use Rattle.intent_meta.proofs.ReadBackLaws.{stored_timed, versions_timed}
use Rattle.intent_meta.proofs.PairChangeLaws.{version_is_one_pair, intent_is_two_pairs}

-- ---- the history

-- a version on top keeps a history valid
on_top-valid : (key : Key) (before after : History) (v : Version) → IsValid before → IsVersionOnTop key before after v → IsValid after
on_top-valid key before after v valid is =
    let above : AreBelow v.ts (items before v.key) = subst (λ k. AreBelow v.ts (items before k)) (sym is.of_key) is.above_items in
    let no_intent : intent_of v.key before ≡ None = subst (λ k. intent_of k before ≡ None) (sym is.of_key) is.no_intent in
    subst IsValid (sym is.put) (version_on_top-valid before v valid is.stored above no_intent)

-- a change of one key keeps a history valid
pub change_keeps_valid : ChangeKeepsValid
change_keeps_valid key before after valid (Nothing same) = subst IsValid (sym same) valid
change_keeps_valid key before after valid (VersionOnTop v is) = on_top-valid key before after v valid is
change_keeps_valid key before after valid (IntentInPlace i is) = subst IsValid (sym is.put) (with_intent-valid before i valid is.stored)

-- a change of one key leaves all others
pub change_leaves_others : ChangeLeavesOthers
change_leaves_others key before after (Nothing same) = subst (ChangesOnly key before) (sym same) (nothing-changes_only key before)
change_leaves_others key before after (VersionOnTop v is) =
    subst (ChangesOnly key before) (sym is.put) (subst (λ k. ChangesOnly k before (with_version v before)) is.of_key (with_version-changes_only v before))
change_leaves_others key before after (IntentInPlace i is) =
    subst (ChangesOnly key before) (sym is.put) (subst (λ k. ChangesOnly k before (with_intent i before)) is.of_key (with_intent-changes_only i before))

-- ---- the key

-- a version on top stands before the versions of its key
pub on_top-versions : (key : Key) (before after : History) (v : Version) → IsValid before → IsVersionOnTop key before after v → versions_of key after ≡ v ∷ versions_of key before
on_top-versions key before after v valid is =
    let below : AreBelow v.ts (items before v.key) = subst (λ k. AreBelow v.ts (items before k)) (sym is.of_key) is.above_items in
    ap (versions_of key) is.put ∙ subst (λ k. versions_of k (with_version v before) ≡ v ∷ versions_of k before) is.of_key (versions_of-with_version v before (stored_timed v.ts (is.stored).ts) (versions_timed before valid) below)

-- and before the items of its key
pub on_top-items : (key : Key) (before after : History) (v : Version) → IsValid before → IsVersionOnTop key before after v → items after key ≡ version_item v ∷ items before key
on_top-items key before after v valid is =
    let below : AreBelow v.ts (items before v.key) = subst (λ k. AreBelow v.ts (items before k)) (sym is.of_key) is.above_items in
    ap (λ h. items h key) is.put ∙ subst (λ k. items (with_version v before) k ≡ version_item v ∷ items before k) is.of_key (items-with_version v before (stored_timed v.ts (is.stored).ts) (versions_timed before valid) below)

-- the key has no intent then either
pub on_top-intent : (key : Key) (before after : History) (v : Version) → IsVersionOnTop key before after v → intent_of key after ≡ None
on_top-intent key before after v is = ap (intent_of key) is.put ∙ is.no_intent

-- an intent in place leaves the versions of its key
pub in_place-versions : (key : Key) (before after : History) (i : Intent) → IsIntentInPlace key before after i → versions_of key after ≡ versions_of key before
in_place-versions key before after i is = ap (versions_of key) is.put

-- and the items of its key
pub in_place-items : (key : Key) (before after : History) (i : Intent) → IsIntentInPlace key before after i → items after key ≡ items before key
in_place-items key before after i is = ap (λ h. items h key) is.put ∙ items-with_intent i before key

-- it is the key's intent then
pub in_place-intent : (key : Key) (before after : History) (i : Intent) → IsIntentInPlace key before after i → intent_of key after ≡ Some i
in_place-intent key before after i is = ap (intent_of key) is.put ∙ subst (λ k. intent_of k (with_intent i before) ≡ Some i) is.of_key (intent_of-with_intent i before)

-- ---- the pairs

-- a version on top is one pair more
pub version_on_top_is_one_pair : VersionOnTopIsOnePair
version_on_top_is_one_pair key before after v is =
    let no_intent : intent_of v.key before ≡ None = subst (λ k. intent_of k before ≡ None) (sym is.of_key) is.no_intent in
    ap stored_pairs is.put ∙ version_is_one_pair before v (stored_timed v.ts (is.stored).ts) (above_none before v no_intent)

-- an intent in place is its two pairs in the place of the earlier one's
pub intent_in_place_is_two_pairs : IntentInPlaceIsTwoPairs
intent_in_place_is_two_pairs key before after i valid is =
    ap stored_pairs is.put ∙ intent_is_two_pairs before i valid (stored_timed i.ts (is.stored).ts)
    ∙ ap (λ k. with_record i (without_provisional (intent_of k before) (stored_pairs before))) is.of_key
