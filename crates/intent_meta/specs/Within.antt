-- What a command over a span sees of a history: the part of it within the span.
use Rattle.std.specs.Prelude.{◌≡◌, Bool, true, false, [], ◌∷◌, ◌++◌, ◌≤◌, length, filter}
use Rattle.mvcc_key.specs.Order.{Key, is_same_key, is_within}
use Rattle.mvcc_key.specs.History.{History, Changed}
use Rattle.mvcc_key.specs.Items.{tombstones_over}
use Rattle.mvcc_key.specs.Limits.{max_key_length}
use Rattle.mvcc_key.specs.Spans.{is_bad_span}
use Rattle.mvcc_key.specs.Fragments.{fragments, cut_to, tombstones_of}
use Rattle.intent_meta.specs.StoredPairs.{stored_pairs}
use Rattle.intent_meta.specs.HistoryOf.{history_of}
use Rattle.intent_meta.specs.ReadBack.{in_fragment_order}
use Rattle.intent_meta.specs.Valid.{IsValid}
use Rattle.intent_meta.specs.Alike.{ChangedBy}

-- the touched keys have the same versions, intents and tombstones over them in both histories
pub record AgreeOn (touched : Key → Bool) (h k : History) : Type 0 where
  pub versions : filter (λ v. touched v.key) h.versions ≡ filter (λ v. touched v.key) k.versions
  pub intents : filter (λ i. touched i.key) h.intents ≡ filter (λ i. touched i.key) k.intents
  pub stacks : (key : Key) → touched key ≡ true → tombstones_over h.tombstones key ≡ tombstones_over k.tombstones key

-- so have the keys of a span
abbrev pub AgreeWithin : Key → Key → History → History → Type 0
AgreeWithin start end = AgreeOn (is_within start end)

-- then their pairs of these keys are the same
abbrev pub PairsAgree : Type 0
PairsAgree = (touched : Key → Bool) (h k : History) → AgreeOn touched h k
    → filter (λ p. touched p.name.key) (stored_pairs h) ≡ filter (λ p. touched p.name.key) (stored_pairs k)

-- and within a span their cut fragments
abbrev pub FragmentsAgree : Type 0
FragmentsAgree = (start end : Key) (h k : History) → AgreeWithin start end h k → cut_to start end (fragments h.tombstones) ≡ cut_to start end (fragments k.tombstones)

-- the end of the span that has this key alone
abbrev pub end_of_key : Key → Key
end_of_key key = key ++ 0 ∷ []

-- no other key is in that span
abbrev pub OneKeyIsSpan : Type 0
OneKeyIsSpan = (key other : Key) → is_within key (end_of_key key) other ≡ is_same_key other key

-- the span of a key that may be stored is one of which a command may speak
abbrev pub OneKeyIsGood : Type 0
OneKeyIsGood = (key : Key) → length key ≤ max_key_length → is_bad_span key (end_of_key key) ≡ false

-- the part of a history within a span, with its fragments cut to the span
abbrev pub history_within : Key → Key → History → History
history_within start end h = record {
  versions = filter (λ v. is_within start end v.key) h.versions;
  intents = filter (λ i. is_within start end i.key) h.intents;
  tombstones = tombstones_of (cut_to start end (fragments h.tombstones));
}

-- within the span it agrees with the whole
abbrev pub PartAgrees : Type 0
PartAgrees = (start end : Key) (h : History) → AgreeWithin start end h (history_within start end h)

-- the part of a valid history is valid
abbrev pub PartIsValid : Type 0
PartIsValid = (start end : Key) (h : History) → is_bad_span start end ≡ false → IsValid h → IsValid (history_within start end h)

-- it is what the pairs of the span and the fragments cut to it are read back as
abbrev pub PartIsRead : Type 0
PartIsRead = (start end : Key) (h : History) → is_bad_span start end ≡ false → IsValid h
    → history_of (filter (λ p. is_within start end p.name.key) (stored_pairs h)) (cut_to start end (fragments h.tombstones)) ≡ history_within start end h

-- a valid history with its tombstones in the order of their fragments, as it is read back, is valid
abbrev pub ReadBackIsValid : Type 0
ReadBackIsValid = (h : History) → IsValid h → IsValid (in_fragment_order h)

-- the same answer, and histories that agree on the touched keys
abbrev pub ChangedTogether : {A : Type 0} → (Key → Bool) → Changed A → Changed A → Type 0
ChangedTogether touched = ChangedBy (AgreeOn touched)
