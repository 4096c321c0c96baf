-- What a version or an intent more changes among the pairs that a history is stored as.
use Rattle.std.specs.Prelude.{◌≡◌, true, false, not, List, filter, Option, Some, None}
use Rattle.std.specs.List.{AllByRecursion}
use Rattle.mvcc_key.specs.Lists.{put_in_order}
use Rattle.mvcc_key.specs.Order.{is_no_time, is_before, is_same_key, Pair, pair_cmp, Name, is_same_name, Key, no_time}
use Rattle.mvcc_key.specs.History.{Version, History, with_version, intent_of, version_name, Intent, with_intent, without_intent}
use Rattle.intent_meta.specs.StoredPairs.{VersionOf, stored_pair, stored_pairs, provisional, RecordOf}
use Rattle.intent_meta.specs.Valid.{IsValid}

-- the pairs with one more, in its place
abbrev pub with_pair : Pair → List Pair → List Pair
with_pair = put_in_order pair_cmp

-- the pairs without that of the name
abbrev pub without_name : Name → List Pair → List Pair
without_name name = filter (λ p. not (is_same_name p.name name))

-- the pairs without the record of a key's intent
abbrev pub without_record : Key → List Pair → List Pair
without_record key = without_name (record { key = key; ts = no_time })

-- the pairs without the provisional version of an intent, where there is one
abbrev pub without_provisional : Option Intent → List Pair → List Pair
without_provisional None pairs = pairs
without_provisional (Some i) pairs = without_name (version_name (provisional i)) pairs

-- the pairs with the record of an intent and its provisional version
abbrev pub with_record : Intent → List Pair → List Pair
with_record i pairs = with_pair (stored_pair (RecordOf i)) (with_pair (stored_pair (VersionOf (provisional i))) pairs)

-- a version that is no intent's is one more pair
abbrev pub VersionIsOnePair : Type 0
VersionIsOnePair = (h : History) (v : Version) → is_no_time v.ts ≡ false
    → AllByRecursion (λ i. is_same_key v.key i.key ≡ true → is_before v.ts i.ts ≡ true) h.intents
    → stored_pairs (with_version v h) ≡ with_pair (stored_pair (VersionOf v)) (stored_pairs h)

-- an intent is its two pairs in the place of those of the key's earlier one
abbrev pub IntentIsTwoPairs : Type 0
IntentIsTwoPairs = (h : History) (i : Intent) → IsValid h → is_no_time i.ts ≡ false
    → stored_pairs (with_intent i h) ≡ with_record i (without_provisional (intent_of i.key h) (stored_pairs h))

-- an intent that goes takes its two pairs with it
abbrev pub IntentTakesTwoPairs : Type 0
IntentTakesTwoPairs = (h : History) (key : Key) → IsValid h
    → stored_pairs (without_intent key h) ≡ without_record key (without_provisional (intent_of key h) (stored_pairs h))
