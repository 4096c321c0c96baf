-- Laws of resolution, of one key and of several.
use Rattle.std.specs.Prelude.{◌≡◌, ℕ, ◌≤◌, Bool, false, List, length, Option, Some, Ok, IsTrue}
use Rattle.std.specs.List.{AllByRecursion}
use Rattle.mvcc_key.specs.Steps.{◌>>=◌}
use Rattle.mvcc_key.specs.Limits.{max_stored_length}
use Rattle.mvcc_key.specs.Order.{Timestamp, Key, is_in_range}
use Rattle.mvcc_key.specs.Spans.{Ranged, is_bad_span}
use Rattle.mvcc_key.specs.History.{Intent, History, Changed, intent_of}
use Rattle.intent_meta.specs.Record.{record_bytes}
use Rattle.intent_meta.specs.StoredPairs.{intent_record, stored_pairs}
use Rattle.intent_meta.specs.Valid.{IsValid}
use Rattle.intent_meta.specs.Alike.{AreAlike, EndAlike, ChangedAlike}
use Rattle.intent_meta.specs.LeftAlone.{ChangesOnly, LeavesOutside}
use Rattle.intent_resolve.specs.Resolve.{Update, dropped, moved, resolve, resolve_each, rest_of_max, span_from, resolve_range, Resolution, resolved}
use Rattle.intent_resolve.specs.Resolved.{KeyChange, resolutions, resolved_all, IsOwnIntent, HaveDistinctKeys, HasResolvedEach, IsAsAlone, own_intents, own_within, pairs_after, FitsIntent}

-- the resolution of a key keeps a history valid
abbrev pub ResolveKeepsValid : Type 0
ResolveKeepsValid = (h : History) (key : Key) (u : Update) (c : Changed Bool) → IsValid h → IsTrue (is_in_range u.ts) → resolve h key u ≡ Ok c → IsValid c.history

-- it changes no other key, and no tombstone
abbrev pub ResolveChangesOnlyItsKey : Type 0
ResolveChangesOnlyItsKey = (h : History) (key : Key) (u : Update) (c : Changed Bool) → resolve h key u ≡ Ok c → ChangesOnly key h c.history

-- of its key nothing changes, or the intent goes, stays in a new form, or becomes a version on top of all items
abbrev pub ResolveChangesItsKey : Type 0
ResolveChangesItsKey = (h : History) (key : Key) (u : Update) (c : Changed Bool) → IsValid h → resolve h key u ≡ Ok c → KeyChange key h c.history

-- a resolution of an intent of a valid history changes these pairs
abbrev pub ResolutionStores : Type 0
ResolutionStores = (h : History) (i : Intent) (r : Resolution) → IsValid h → intent_of i.key h ≡ Some i → FitsIntent i r
    → stored_pairs (resolved i.key h r) ≡ pairs_after r i (stored_pairs h)

-- a record that may be stored may be stored when entries were dropped and the intent was moved
abbrev pub RecordsStayShort : Type 0
RecordsStayShort = (u : Update) (ts : Timestamp) (i : Intent) → length (record_bytes (intent_record i)) ≤ max_stored_length
    → length (record_bytes (intent_record (moved ts (dropped u i)))) ≤ max_stored_length

-- intents are resolved by their resolutions, and refused as the first of them that is refused
abbrev pub EachHasItsResolution : Type 0
EachHasItsResolution = (u : Update) (h : History) (is : List Intent) → resolve_each u h is ≡ (resolutions u is >>= λ rs. Ok (resolved_all is rs h))

-- intents of distinct keys that are resolved one after another keep a history valid
abbrev pub EachKeepsValid : Type 0
EachKeepsValid = (u : Update) (h : History) (is : List Intent) (after : History) → IsValid h → IsTrue (is_in_range u.ts) → HaveDistinctKeys is
    → AllByRecursion (λ i. intent_of i.key h ≡ Some i) is → resolve_each u h is ≡ Ok after → IsValid after

-- each of them is resolved as it was before, and nothing else changes
abbrev pub EachIsResolved : Type 0
EachIsResolved = (u : Update) (h : History) (is : List Intent) (after : History) → IsValid h → IsTrue (is_in_range u.ts) → HaveDistinctKeys is
    → AllByRecursion (λ i. intent_of i.key h ≡ Some i) is → resolve_each u h is ≡ Ok after → HasResolvedEach u is h after

-- each key of own intents is as the resolution of this key alone would leave it
abbrev pub EachIsAsAlone : Type 0
EachIsAsAlone = (u : Update) (h : History) (is : List Intent) (after : History) → IsValid h → IsTrue (is_in_range u.ts) → HaveDistinctKeys is
    → AllByRecursion (IsOwnIntent u h) is → resolve_each u h is ≡ Ok after → AllByRecursion (λ i. IsAsAlone u h after i.key) is

-- there is one valid history in which each of some intents was resolved, and nothing else changed
abbrev pub ResolvedEachIsOne : Type 0
ResolvedEachIsOne = (u : Update) (is : List Intent) (h f g : History) → IsValid f → IsValid g → HasResolvedEach u is h f → HasResolvedEach u is h g → f ≡ g

-- a span is resolved by the resolutions of the transaction's first intents of it
abbrev pub RangeHasItsResolutions : Type 0
RangeHasItsResolutions = (h : History) (start end : Key) (u : Update) (max : Option ℕ) → is_bad_span start end ≡ false
    → resolve_range h start end u max ≡ (resolutions u (own_within u start end max h) >>= λ rs. Ok (record {
      history = resolved_all (own_within u start end max h) rs h;
      answer = record { count = length (own_within u start end max h); resume = span_from end (rest_of_max max (own_intents u start end h)) };
    }))

-- the resolution of a span keeps a history valid
abbrev pub RangeKeepsValid : Type 0
RangeKeepsValid = (h : History) (start end : Key) (u : Update) (max : Option ℕ) (c : Changed Ranged) → IsValid h → IsTrue (is_in_range u.ts)
    → resolve_range h start end u max ≡ Ok c → IsValid c.history

-- each of the transaction's first intents of the span is resolved as it was before, and nothing else changes
abbrev pub RangeIsResolved : Type 0
RangeIsResolved = (h : History) (start end : Key) (u : Update) (max : Option ℕ) (c : Changed Ranged) → IsValid h → IsTrue (is_in_range u.ts)
    → resolve_range h start end u max ≡ Ok c → HasResolvedEach u (own_within u start end max h) h c.history

-- each of their keys is as the resolution of this key alone would leave it
abbrev pub RangeIsAsAlone : Type 0
RangeIsAsAlone = (h : History) (start end : Key) (u : Update) (max : Option ℕ) (c : Changed Ranged) → IsValid h → IsTrue (is_in_range u.ts)
    → resolve_range h start end u max ≡ Ok c → AllByRecursion (λ i. IsAsAlone u h c.history i.key) (own_within u start end max h)

-- keys outside the span keep what they have
abbrev pub RangeLeavesOutside : Type 0
RangeLeavesOutside = (h : History) (start end : Key) (u : Update) (max : Option ℕ) (c : Changed Ranged) → resolve_range h start end u max ≡ Ok c
    → LeavesOutside start end h c.history

-- histories with the same versions, intents and fragments answer the resolution of a key alike, and stay alike
abbrev pub AlikeResolveAlike : Type 0
AlikeResolveAlike = (h k : History) → AreAlike h k → (key : Key) (u : Update) → EndAlike ChangedAlike (resolve h key u) (resolve k key u)

-- and that of a span
abbrev pub AlikeRangeAlike : Type 0
AlikeRangeAlike =
    (h k : History) → AreAlike h k → (start end : Key) (u : Update) (max : Option ℕ) → EndAlike ChangedAlike (resolve_range h start end u max) (resolve_range k start end u max)
