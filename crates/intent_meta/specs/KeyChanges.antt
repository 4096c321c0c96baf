-- What may change one key: nothing, one version on top of its items, or its intent.
use Rattle.std.specs.Prelude.{List, IsTrue, ◌≡◌, None, IfSome}
use Rattle.std.specs.List.{AllByRecursion}
use Rattle.mvcc_key.specs.Order.{Timestamp, is_before, is_up_to, Key}
use Rattle.mvcc_key.specs.Items.{Item, items}
use Rattle.mvcc_key.specs.History.{Version, Intent, History, with_version, with_intent, intent_of}
use Rattle.intent_meta.specs.Valid.{IsStoredVersion, IsStoredIntent, IsValid}
use Rattle.intent_meta.specs.LeftAlone.{ChangesOnly}
use Rattle.intent_meta.specs.StoredPairs.{VersionOf, stored_pair, stored_pairs}
use Rattle.intent_meta.specs.PairChanges.{with_pair, without_provisional, with_record}

-- every item is older
abbrev pub AreBelow : Timestamp → List Item → Type 0
AreBelow ts = AllByRecursion (λ (item : Item). IsTrue (is_before item.ts ts))

-- a version above every item of its key, which has no intent, is put on top
pub record IsVersionOnTop (key : Key) (before after : History) (v : Version) : Type 0 where
  pub of_key : v.key ≡ key
  pub stored : IsStoredVersion v
  pub above_items : AreBelow v.ts (items before key)
  pub no_intent : intent_of key before ≡ None
  pub put : after ≡ with_version v before

-- an intent is put in the place of the key's earlier one, which is of the same transaction and no newer
pub record IsIntentInPlace (key : Key) (before after : History) (i : Intent) : Type 0 where
  pub of_key : i.key ≡ key
  pub stored : IsStoredIntent before i
  pub same_owner : IfSome (intent_of key before) (λ old. old.id ≡ i.id)
  pub no_lower : IfSome (intent_of key before) (λ old. IsTrue (is_up_to old.ts i.ts))
  pub put : after ≡ with_intent i before

-- one of these, or nothing
pub data Change (key : Key) (before after : History) : Type 0 where
  Nothing : (same : after ≡ before) → Change key before after
  VersionOnTop : (v : Version) (is : IsVersionOnTop key before after v) → Change key before after
  IntentInPlace : (i : Intent) (is : IsIntentInPlace key before after i) → Change key before after

-- such a change keeps a valid history valid
abbrev pub ChangeKeepsValid : Type 0
ChangeKeepsValid = (key : Key) (before after : History) → IsValid before → Change key before after → IsValid after

-- and leaves all that is not of the key
abbrev pub ChangeLeavesOthers : Type 0
ChangeLeavesOthers = (key : Key) (before after : History) → Change key before after → ChangesOnly key before after

-- a version on top is one pair more
abbrev pub VersionOnTopIsOnePair : Type 0
VersionOnTopIsOnePair =
    (key : Key) (before after : History) (v : Version) → IsVersionOnTop key before after v
    → stored_pairs after ≡ with_pair (stored_pair (VersionOf v)) (stored_pairs before)

-- an intent in place is its two pairs in the place of the earlier one's
abbrev pub IntentInPlaceIsTwoPairs : Type 0
IntentInPlaceIsTwoPairs =
    (key : Key) (before after : History) (i : Intent) → IsValid before → IsIntentInPlace key before after i
    → stored_pairs after ≡ with_record i (without_provisional (intent_of key before) (stored_pairs before))
