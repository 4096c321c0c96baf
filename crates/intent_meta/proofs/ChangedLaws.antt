-- Which changes of a history leave it valid.
use Rattle.std.proofs.Common.{◌≡◌, ◌≤◌, Bool, true, false, cond, List, [], ◌∷◌, ◌++◌, length, refl, sym, ap, subst}
use Rattle.std.specs.Prelude.{◌&&◌, not, filter, None, Some, IfSome, unwrap_or, option_map}
use Rattle.std.specs.List.{AllByRecursion}
use Rattle.std.proofs.lemmas.List.Kept.{IsStrictlySortedBy-filter}
use Rattle.mvcc_key.specs.Limits.{max_bound_length}
use Rattle.mvcc_key.specs.Order.{Timestamp, is_before, is_same_time, Key, is_below, is_same_key, lower_key, higher_key, is_within}
use Rattle.mvcc_key.specs.History.{Version, version_cmp, Intent, intent_cmp, RangeTombstone, History, with_version, with_tombstone, with_intent, without_intent, intent_of, Body, Deletion, Entry}
use Rattle.mvcc_key.specs.Items.{Item, covers, tombstones_over, items}
use Rattle.mvcc_key.specs.Fragments.{part, outside, take_out}
use Rattle.mvcc_key.specs.Lists.{last}
use Rattle.mvcc_key.proofs.SortedLaws.{put_in_order-sorted}
use Rattle.mvcc_key.proofs.StackChangeLaws.{tombstones_over-take_out}
use Rattle.mvcc_key.proofs.EachLaws.{All-put, All-append, All-weaker, All-both, All-filter, first-some, none_first}
use Rattle.mvcc_key.proofs.TimeLaws.{before_differs}
use Rattle.mvcc_key.proofs.SameKeyLaws.{differs_back}
use Rattle.mvcc_key.proofs.ItemLaws.{HoldOfTimes, times_over-whole, times_over-parts, items-whole, items-parts}
use Rattle.mvcc_key.proofs.HistoryLaws.{version_cmp-total, intent_cmp-total, items-with_intent}
use Rattle.mvcc_key.proofs.FragmentPartsLaws.{chosen-has}
use Rattle.intent_meta.specs.Valid.{IsStoredTime, IsStoredVersion, IsStoredTombstone, IsStoredIntent, HasOwnTime, IsValid, IsStoredBody, IsStoredEntry}
use Rattle.intent_meta.proofs.AcceptedLaws.{IsGoodSpan}

-- ---- intents

-- the tombstones over the intent are below it
abbrev pub IsAboveTombstones : List RangeTombstone → Intent → Type 0
IsAboveTombstones tombstones i = AllByRecursion (λ t. covers i.key t ≡ true → is_before t.ts i.ts ≡ true) tombstones

-- the version is of another key than the intent, or is below it
abbrev pub IsAboveVersion : Version → Intent → Type 0
IsAboveVersion v i = is_same_key v.key i.key ≡ true → is_before v.ts i.ts ≡ true

-- the versions and the tombstones of the intent's key are below it
pub intent-above : (h : History) (i : Intent) → IsStoredIntent h i → HoldOfTimes (λ t. is_before t i.ts ≡ true) h i.key
intent-above h i s = items-parts (λ t. is_before t i.ts ≡ true) h i.key s.above_items

-- an intent may be stored in another history where it is above the versions and the tombstones of its key
pub intent-other : (h k : History) (i : Intent) → IsStoredIntent h i → HoldOfTimes (λ t. is_before t i.ts ≡ true) k i.key → IsStoredIntent k i
intent-other h k i s above = record {
  key = s.key;
  id = s.id;
  epoch = s.epoch;
  ts = s.ts;
  local = s.local;
  some_entry = s.some_entry;
  entries = s.entries;
  rising = s.rising;
  size = s.size;
  above_items = items-whole (λ t. is_before t i.ts ≡ true) k i.key above;
}

-- ---- valid histories

-- a history with fewer versions is valid
pub fewer_versions-valid : (h : History) (test : Version → Bool) → IsValid h → IsValid (record h { versions = filter test h.versions })
fewer_versions-valid h test valid = record {
  versions_in_order = IsStrictlySortedBy-filter version_cmp test h.versions valid.versions_in_order;
  intents_in_order = valid.intents_in_order;
  versions = All-filter IsStoredVersion test h.versions valid.versions;
  intents = All-weaker (IsStoredIntent h) (IsStoredIntent fewer) h.intents stays valid.intents;
  tombstones = valid.tombstones;
  own_times = All-filter (HasOwnTime h.tombstones) test h.versions valid.own_times;
}
  where
    fewer : History
    fewer = record h { versions = filter test h.versions }

    stays : (i : Intent) → IsStoredIntent h i → IsStoredIntent fewer i
    stays i s =
        let above = intent-above h i s in
        intent-other h fewer i s (record { versions = All-filter (λ v. IsAboveVersion v i) test h.versions above.versions; tombstones = above.tombstones })

-- a history with fewer intents is valid
pub fewer_intents-valid : (h : History) (test : Intent → Bool) → IsValid h → IsValid (record h { intents = filter test h.intents })
fewer_intents-valid h test valid = record {
  versions_in_order = valid.versions_in_order;
  intents_in_order = IsStrictlySortedBy-filter intent_cmp test h.intents valid.intents_in_order;
  versions = valid.versions;
  intents =
      All-filter (IsStoredIntent fewer) test h.intents
      (All-weaker (IsStoredIntent h) (IsStoredIntent fewer) h.intents (λ i s. intent-other h fewer i s (same i (intent-above h i s))) valid.intents);
  tombstones = valid.tombstones;
  own_times = valid.own_times;
}
  where
    fewer : History
    fewer = record h { intents = filter test h.intents }

    same : (i : Intent) → HoldOfTimes (λ t. is_before t i.ts ≡ true) h i.key → HoldOfTimes (λ t. is_before t i.ts ≡ true) fewer i.key
    same i a = record { versions = a.versions; tombstones = a.tombstones }

-- a history with other tombstones is valid, where these may be stored, no version has the time of one over it, and each intent is above those over it
pub other_tombstones-valid : (h : History) (tombstones : List RangeTombstone) → IsValid h → AllByRecursion IsStoredTombstone tombstones
    → AllByRecursion (HasOwnTime tombstones) h.versions → AllByRecursion (IsAboveTombstones tombstones) h.intents → IsValid (record h { tombstones = tombstones })
other_tombstones-valid h tombstones valid stored own above = record {
  versions_in_order = valid.versions_in_order;
  intents_in_order = valid.intents_in_order;
  versions = valid.versions;
  intents = All-both (IsStoredIntent h) (IsAboveTombstones tombstones) (IsStoredIntent other) h.intents stays valid.intents above;
  tombstones = stored;
  own_times = own;
}
  where
    other : History
    other = record h { tombstones = tombstones }

    stays : (i : Intent) → IsStoredIntent h i → IsAboveTombstones tombstones i → IsStoredIntent other i
    stays i s a = intent-other h other i s (record { versions = (intent-above h i s).versions; tombstones = a })

-- ---- tombstones

-- no tombstone over the version has its timestamp, tombstone by tombstone
abbrev own_time : RangeTombstone → Version → Bool
own_time t v = not (covers v.key t && is_same_time t.ts v.ts)

-- tombstones of which no timestamp over a key is that of its version
pub own_times-stack : (tombstones : List RangeTombstone) (v : Version) → HasOwnTime tombstones v
    → AllByRecursion (λ t. is_same_time t v.ts ≡ false) (tombstones_over tombstones v.key)
own_times-stack ts v own =
    times_over-whole (λ t. is_same_time t v.ts ≡ false) ts v.key
    (All-weaker (λ t. own_time t v ≡ true) (λ t. covers v.key t ≡ true → is_same_time t.ts v.ts ≡ false) ts (λ t. apart (covers v.key t) (is_same_time t.ts v.ts)) own)
  where
    apart : (c s : Bool) → not (c && s) ≡ true → c ≡ true → s ≡ false
    apart true true h e = absurd cc
    apart true false h e = refl
    apart false s h e = absurd cc

-- and the other way round
pub own_times-each : (tombstones : List RangeTombstone) (v : Version) → AllByRecursion (λ t. covers v.key t ≡ true → is_same_time t.ts v.ts ≡ false) tombstones
    → HasOwnTime tombstones v
own_times-each ts v apart =
    All-weaker (λ t. covers v.key t ≡ true → is_same_time t.ts v.ts ≡ false) (λ t. own_time t v ≡ true) ts (λ t. own (covers v.key t) (is_same_time t.ts v.ts)) apart
  where
    own : (c s : Bool) → (c ≡ true → s ≡ false) → not (c && s) ≡ true
    own true true h = let e : true ≡ false = h refl in absurd cc
    own true false h = refl
    own false s h = refl

-- a version above every item of its key has a time of its own
pub own_times-above : (h : History) (v : Version) → AllByRecursion (λ (item : Item). is_before item.ts v.ts ≡ true) (items h v.key) → HasOwnTime h.tombstones v
own_times-above h v above =
    own_times-each h.tombstones v
    (All-weaker (λ t. covers v.key t ≡ true → is_before t.ts v.ts ≡ true) (λ t. covers v.key t ≡ true → is_same_time t.ts v.ts ≡ false) h.tombstones
    (λ t older over. before_differs t.ts v.ts (older over)) (items-parts (λ t. is_before t v.ts ≡ true) h v.key above).tombstones)

-- one more tombstone is written behind the others
pub with_tombstone-last : (t : RangeTombstone) (ts : List RangeTombstone) → ts ++ t ∷ [] ≡ with_tombstone t ts
with_tombstone-last t [] = refl
with_tombstone-last t (u ∷ us) = ap (λ vs. u ∷ vs) (with_tombstone-last t us)

-- a history with more tombstones is valid, where these may be stored, no version has the time of one over it, and each intent is above those over it
pub more_tombstones-valid : (h : History) (tombstones : List RangeTombstone) → IsValid h → AllByRecursion IsStoredTombstone tombstones
    → AllByRecursion (HasOwnTime tombstones) h.versions → AllByRecursion (IsAboveTombstones tombstones) h.intents
    → IsValid (record h { tombstones = h.tombstones ++ tombstones })
more_tombstones-valid h more valid stored own above =
    other_tombstones-valid h (h.tombstones ++ more) valid
    (All-append IsStoredTombstone h.tombstones more valid.tombstones stored)
    (All-both (HasOwnTime h.tombstones) (HasOwnTime more) (HasOwnTime (h.tombstones ++ more)) h.versions
    (λ v. All-append (λ t. own_time t v ≡ true) h.tombstones more) valid.own_times own)
    (All-both (IsStoredIntent h) (IsAboveTombstones more) (IsAboveTombstones (h.tombstones ++ more)) h.intents
    (λ i s a. All-append (λ t. covers i.key t ≡ true → is_before t.ts i.ts ≡ true) h.tombstones more (intent-above h i s).tombstones a) valid.intents above)

-- a history with other tombstones is valid, where these may be stored, and over each key have some of the timestamps that were there
pub fewer_times-valid : (h : History) (tombstones : List RangeTombstone) (stays : Key → Timestamp → Bool) → IsValid h → AllByRecursion IsStoredTombstone tombstones
    → ((key : Key) → tombstones_over tombstones key ≡ filter (stays key) (tombstones_over h.tombstones key)) → IsValid (record h { tombstones = tombstones })
fewer_times-valid h fewer stays valid stored over =
    other_tombstones-valid h fewer valid stored
    (All-weaker (HasOwnTime h.tombstones) (HasOwnTime fewer) h.versions
    (λ v own. own_times-each fewer v (still (λ t. is_same_time t v.ts ≡ false) v.key (own_times-stack h.tombstones v own))) valid.own_times)
    (All-weaker (IsStoredIntent h) (IsAboveTombstones fewer) h.intents
    (λ i s. still (λ t. is_before t i.ts ≡ true) i.key (times_over-whole (λ t. is_before t i.ts ≡ true) h.tombstones i.key (intent-above h i s).tombstones)) valid.intents)
  where
    still : (P : Timestamp → Type 0) (key : Key) → AllByRecursion P (tombstones_over h.tombstones key) → AllByRecursion (λ t. covers key t ≡ true → P t.ts) fewer
    still P key a =
        times_over-parts P fewer key
        (subst (AllByRecursion P) (sym (over key)) (All-filter P (stays key) (tombstones_over h.tombstones key) a))

-- a part of a span may be stored where its bounds are not too long
stored_part : (start end : Key) (ts : Timestamp) → IsStoredTime ts → length start ≤ max_bound_length → length end ≤ max_bound_length
    → AllByRecursion IsStoredTombstone (part start end ts)
stored_part start end ts time low high = by (is_below start end) refl
  where
    by : (b : Bool) → is_below start end ≡ b → AllByRecursion IsStoredTombstone (cond b (record { start = start; end = end; ts = ts } ∷ []) [])
    by true e = (record { ts = time; span = e; start = low; end = high }, tt)
    by false e = tt

-- what is left of a tombstone outside a span may be stored
stored_outside : (start end : Key) (t : RangeTombstone) → length start ≤ max_bound_length → length end ≤ max_bound_length → IsStoredTombstone t
    → AllByRecursion IsStoredTombstone (outside start end t)
stored_outside start end t low high s =
    All-append IsStoredTombstone (part t.start (lower_key t.end start) t.ts) (part (higher_key t.start end) t.end t.ts)
    (stored_part t.start (lower_key t.end start) t.ts s.ts s.start (chosen-has (λ k. length k ≤ max_bound_length) (is_below start t.end) start t.end low s.end))
    (stored_part (higher_key t.start end) t.end t.ts s.ts (chosen-has (λ k. length k ≤ max_bound_length) (is_below t.start end) end t.start high s.start) s.end)

-- so may what is left of some
pub stored-take_out : (start end : Key) (test : RangeTombstone → Bool) (ts : List RangeTombstone) → length start ≤ max_bound_length → length end ≤ max_bound_length
    → AllByRecursion IsStoredTombstone ts → AllByRecursion IsStoredTombstone (take_out start end test ts)
stored-take_out start end test [] low high a = tt
stored-take_out start end test (t ∷ ts) low high a =
    All-append IsStoredTombstone (cond (test t) (outside start end t) (t ∷ [])) (take_out start end test ts) (by (test t)) (stored-take_out start end test ts low high a.1)
  where
    by : (b : Bool) → AllByRecursion IsStoredTombstone (cond b (outside start end t) (t ∷ []))
    by true = stored_outside start end t low high a.0
    by false = (a.0, tt)

-- a history with a span taken out of some of its tombstones is valid
pub take_out-valid : (h : History) (start end : Key) (test : Timestamp → Bool) → IsGoodSpan start end → IsValid h
    → IsValid (record h { tombstones = take_out start end (λ t. test t.ts) h.tombstones })
take_out-valid h start end test good valid =
    fewer_times-valid h (take_out start end (λ t. test t.ts) h.tombstones) (λ key s. not (is_within start end key && test s)) valid
    (stored-take_out start end (λ t. test t.ts) h.tombstones good.start_length good.end_length valid.tombstones)
    (λ key. tombstones_over-take_out key start end test h.tombstones good.span)

-- ---- versions

-- a history with one more version is valid, where it may be stored, no tombstone over it has its time, and an intent of its key is above it
pub with_version-valid : (h : History) (v : Version) → IsValid h → IsStoredVersion v → HasOwnTime h.tombstones v → AllByRecursion (IsAboveVersion v) h.intents
    → IsValid (with_version v h)
with_version-valid h v valid stored own above = record {
  versions_in_order = put_in_order-sorted version_cmp-total v h.versions valid.versions_in_order;
  intents_in_order = valid.intents_in_order;
  versions = All-put version_cmp IsStoredVersion v h.versions stored valid.versions;
  intents = All-both (IsStoredIntent h) (IsAboveVersion v) (IsStoredIntent (with_version v h)) h.intents stays valid.intents above;
  tombstones = valid.tombstones;
  own_times = All-put version_cmp (HasOwnTime h.tombstones) v h.versions own valid.own_times;
}
  where
    stays : (i : Intent) → IsStoredIntent h i → IsAboveVersion v i → IsStoredIntent (with_version v h) i
    stays i s a =
        let before = intent-above h i s in
        intent-other h (with_version v h) i s (record { versions = All-put version_cmp (λ w. IsAboveVersion w i) v h.versions a before.versions; tombstones = before.tombstones })

-- a version is above no intent of its key where the key has none
pub above_none : (h : History) (v : Version) → intent_of v.key h ≡ None → AllByRecursion (IsAboveVersion v) h.intents
above_none h v none =
    All-weaker (λ i. is_same_key i.key v.key ≡ false) (IsAboveVersion v) h.intents
    (λ i other same. let apart : is_same_key v.key i.key ≡ false = differs_back i.key v.key other in absurd cc)
    (none_first (λ i. is_same_key i.key v.key) h.intents none)

-- so a history with one more version on top of all items of a key that has no intent is valid
pub version_on_top-valid : (h : History) (v : Version) → IsValid h → IsStoredVersion v → AllByRecursion (λ (item : Item). is_before item.ts v.ts ≡ true) (items h v.key)
    → intent_of v.key h ≡ None → IsValid (with_version v h)
version_on_top-valid h v valid stored above none = with_version-valid h v valid stored (own_times-above h v above) (above_none h v none)

-- ---- one intent

-- an intent that may be stored may be stored where the items of its key are the same
pub intent-same_items : (h k : History) (i : Intent) → items k i.key ≡ items h i.key → IsStoredIntent h i → IsStoredIntent k i
intent-same_items h k i same s =
    intent-other h k i s (items-parts (λ t. is_before t i.ts ≡ true) k i.key (subst (AllByRecursion (λ (item : Item). is_before item.ts i.ts ≡ true)) (sym same) s.above_items))

-- a history with an intent that may be stored is valid
pub with_intent-valid : (h : History) (i : Intent) → IsValid h → IsStoredIntent h i → IsValid (with_intent i h)
with_intent-valid h i valid stored = record {
  versions_in_order = valid.versions_in_order;
  intents_in_order = put_in_order-sorted intent_cmp-total i h.intents valid.intents_in_order;
  versions = valid.versions;
  intents =
      All-put intent_cmp (IsStoredIntent (with_intent i h)) i h.intents (stays i stored)
      (All-weaker (IsStoredIntent h) (IsStoredIntent (with_intent i h)) h.intents stays valid.intents);
  tombstones = valid.tombstones;
  own_times = valid.own_times;
}
  where
    stays : (j : Intent) → IsStoredIntent h j → IsStoredIntent (with_intent i h) j
    stays j = intent-same_items h (with_intent i h) j (items-with_intent i h j.key)

-- so is a history without the intent of a key
pub without_intent-valid : (h : History) (key : Key) → IsValid h → IsValid (without_intent key h)
without_intent-valid h key valid = fewer_intents-valid h (λ i. not (is_same_key i.key key)) valid

-- the intent of a key, if there is one, may be stored
pub some_intent-stored : (h : History) (key : Key) → IsValid h → IfSome (intent_of key h) (IsStoredIntent h)
some_intent-stored h key valid =
    first-some (IsStoredIntent h) (filter (λ i. is_same_key i.key key) h.intents) (All-filter (IsStoredIntent h) (λ i. is_same_key i.key key) h.intents valid.intents)

-- so may the one that there is
pub intent_of-stored : (key : Key) (h : History) (i : Intent) → IsValid h → intent_of key h ≡ Some i → IsStoredIntent h i
intent_of-stored key h i valid is = subst (λ o. IfSome o (IsStoredIntent h)) is (some_intent-stored h key valid)

-- the last value of entries that may be stored
pub last_body_stored : (es : List (Entry Body)) → AllByRecursion IsStoredEntry es → IsStoredBody (unwrap_or (option_map (λ e. e.value) (last es)) Deletion)
last_body_stored [] stored = tt
last_body_stored (e ∷ []) stored = (stored.0).body
last_body_stored (e ∷ x ∷ xs) stored = last_body_stored (x ∷ xs) stored.1
