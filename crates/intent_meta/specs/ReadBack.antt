-- What is stored of a history is read back as the history.
use Rattle.std.specs.Prelude.{◌≡◌}
use Rattle.std.specs.List.Sorted.{IsStrictlySortedBy}
use Rattle.mvcc_key.specs.Order.{pair_cmp}
use Rattle.mvcc_key.specs.History.{History}
use Rattle.mvcc_key.specs.Fragments.{fragments, tombstones_of}
use Rattle.intent_meta.specs.StoredPairs.{stored_pairs}
use Rattle.intent_meta.specs.HistoryOf.{history_of}
use Rattle.intent_meta.specs.Valid.{IsValid}

-- the history with its tombstones in the order of their fragments
abbrev pub in_fragment_order : History → History
in_fragment_order h = record h { tombstones = tombstones_of (fragments h.tombstones) }

-- the pairs and the fragments of a valid history are read back as this history
abbrev pub StoredIsReadBack : Type 0
StoredIsReadBack = (h : History) → IsValid h → history_of (stored_pairs h) (fragments h.tombstones) ≡ in_fragment_order h

-- its tombstones make the same fragments
abbrev pub FragmentsStay : Type 0
FragmentsStay = (h : History) → fragments (in_fragment_order h).tombstones ≡ fragments h.tombstones

-- the pairs of a history rise
abbrev pub StoredPairsRise : Type 0
StoredPairsRise = (h : History) → IsStrictlySortedBy pair_cmp (stored_pairs h)
