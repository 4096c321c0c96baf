-- What is stored of one key.
use Rattle.std.specs.Prelude.{Bool, List, ◌∷◌, map, Option, Some, None, ◌≡◌, filter}
use Rattle.std.specs.List.Sorted.{IsStrictlySortedBy}
use Rattle.mvcc_key.specs.Order.{Key, is_same_key, Pair, pair_cmp}
use Rattle.mvcc_key.specs.History.{Version, Intent, History, versions_of, intent_of}
use Rattle.intent_meta.specs.StoredPairs.{RecordOf, VersionOf, provisional, stored_pair, stored_pairs}
use Rattle.intent_meta.specs.Valid.{IsValid}

-- the pair is of the key
abbrev pub is_pair_of : Key → Pair → Bool
is_pair_of key p = is_same_key p.name.key key

-- the pairs of a key with such an intent and such versions: the record, the provisional version, and the versions
abbrev pub key_pairs : Option Intent → List Version → List Pair
key_pairs None vs = map (λ v. stored_pair (VersionOf v)) vs
key_pairs (Some i) vs = stored_pair (RecordOf i) ∷ stored_pair (VersionOf (provisional i)) ∷ map (λ v. stored_pair (VersionOf v)) vs

-- the pairs of a key of a valid history are those of its intent and its versions
abbrev pub KeyPairsAre : Type 0
KeyPairsAre = (h : History) (key : Key) → IsValid h → filter (is_pair_of key) (stored_pairs h) ≡ key_pairs (intent_of key h) (versions_of key h)

-- pairs in order that are, key by key, those of the intents and versions of a valid history are what it is stored as
abbrev pub KeyPairsTell : Type 0
KeyPairsTell = (h : History) (pairs : List Pair) → IsValid h → IsStrictlySortedBy pair_cmp pairs
    → ((key : Key) → filter (is_pair_of key) pairs ≡ key_pairs (intent_of key h) (versions_of key h)) → pairs ≡ stored_pairs h
