-- Entries of a record stay ones where some are left out, and where the provisional value comes behind them.
use Rattle.std.proofs.Common.{◌≡◌, ℕ, ◌<◌, Bool, true, false, cond, ltb, List, [], ◌∷◌, ◌++◌, Option, Some, None, arith}
use Rattle.std.specs.Prelude.{not, filter, IfSome}
use Rattle.std.proofs.lemmas.Bool.{lt-ltb, ltb-true, and_parts, and_from}
use Rattle.mvcc_key.specs.History.{Entry, SeqRange, is_ignored, without_ignored}
use Rattle.intent_meta.specs.Record.{IntentRecord, is_next_sequence}
use Rattle.intent_meta.specs.Rules.{IsRecordEntry, AreRecordEntries, IsRecord}
use Rattle.intent_meta.specs.Entries.{entries_with, some_entries}

-- what may come behind one sequence may come behind an earlier one
abbrev IsEarlier : Option ℕ → ℕ → Type 0
IsEarlier None b = Unit {0}
IsEarlier (Some a) b = a < b

next_earlier : (before : Option ℕ) (b limit n : ℕ) → IsEarlier before b → is_next_sequence (Some b) limit n ≡ true → is_next_sequence before limit n ≡ true
next_earlier None b limit n earlier h = (and_parts (ltb b n) (ltb n limit) h).1
next_earlier (Some a) b limit n earlier h =
    let parts = and_parts (ltb b n) (ltb n limit) h in
    let above : b < n = ltb-true _ _ parts.0 in
    and_from _ _ (lt-ltb _ _ (omega arith)) parts.1

entries_earlier : (before : Option ℕ) (b limit : ℕ) (es : List (Entry (List ℕ))) → IsEarlier before b → AreRecordEntries (Some b) limit es → AreRecordEntries before limit es
entries_earlier before b limit [] earlier h = tt
entries_earlier before b limit (e ∷ es) earlier h =
    (record { sequence = h.0.sequence; placed = next_earlier before b limit e.sequence earlier h.0.placed; size = h.0.size; value = h.0.value }, h.1)

-- an entry's sequence is above the one before it
earlier_of : (before : Option ℕ) (limit n : ℕ) → is_next_sequence before limit n ≡ true → IsEarlier before n
earlier_of None limit n h = tt
earlier_of (Some a) limit n h = ltb-true _ _ (and_parts (ltb a n) (ltb n limit) h).0

-- some of the entries of a record are entries of one
pub AreRecordEntries-filter : (test : Entry (List ℕ) → Bool) (before : Option ℕ) (limit : ℕ) (es : List (Entry (List ℕ))) → AreRecordEntries before limit es
    → AreRecordEntries before limit (filter test es)
AreRecordEntries-filter test before limit [] h = tt
AreRecordEntries-filter test before limit (e ∷ es) h = by (test e) (AreRecordEntries-filter test (Some e.sequence) limit es h.1)
  where
    by : (b : Bool) → AreRecordEntries (Some e.sequence) limit (filter test es) → AreRecordEntries before limit (cond b (e ∷ filter test es) (filter test es))
    by true rest = (h.0, rest)
    by false rest = entries_earlier before e.sequence limit (filter test es) (earlier_of before limit e.sequence h.0.placed) rest

-- a sequence below a limit is below a higher one
next_wider : (before : Option ℕ) (limit wide n : ℕ) → limit < wide → is_next_sequence before limit n ≡ true → is_next_sequence before wide n ≡ true
next_wider None limit wide n lt h = let below : n < limit = ltb-true _ _ h in lt-ltb _ _ (omega arith)
next_wider (Some a) limit wide n lt h =
    let parts = and_parts (ltb a n) (ltb n limit) h in
    let below : n < limit = ltb-true _ _ parts.1 in
    and_from _ _ parts.0 (lt-ltb _ _ (omega arith))

-- one that comes behind an earlier sequence
next_from : (before : Option ℕ) (limit n : ℕ) → IsEarlier before n → n < limit → is_next_sequence before limit n ≡ true
next_from None limit n earlier lt = lt-ltb _ _ lt
next_from (Some a) limit n earlier lt = and_from _ _ (lt-ltb _ _ earlier) (lt-ltb _ _ lt)

-- the entries below a sequence with that of the sequence behind them
pub AreRecordEntries-append : (before : Option ℕ) (limit : ℕ) (es : List (Entry (List ℕ))) (e : Entry (List ℕ)) → IsEarlier before e.sequence → AreRecordEntries before e.sequence es
    → IsRecordEntry None limit e → AreRecordEntries before limit (es ++ e ∷ [])
AreRecordEntries-append before limit [] e earlier h own =
    (record { sequence = own.sequence; placed = next_from before limit e.sequence earlier (ltb-true _ _ own.placed); size = own.size; value = own.value }, tt)
AreRecordEntries-append before limit (x ∷ xs) e earlier h own =
    let wider = next_wider before e.sequence limit x.sequence (ltb-true _ _ own.placed) h.0.placed in (
      record { sequence = h.0.sequence; placed = wider; size = h.0.size; value = h.0.value },
      AreRecordEntries-append (Some x.sequence) limit xs e (below x.sequence h.0.placed) h.1 own,
    )
  where
    below : (n : ℕ) → is_next_sequence before e.sequence n ≡ true → n < e.sequence
    below n placed = by before placed
      where
        by : (b : Option ℕ) → is_next_sequence b e.sequence n ≡ true → n < e.sequence
        by None p = ltb-true _ _ p
        by (Some a) p = ltb-true _ _ (and_parts (ltb a n) (ltb n e.sequence) p).1

-- what holds of the entries holds where there are any
pub IfSome-some_entries : (P : List (Entry (List ℕ)) → Type 0) (es : List (Entry (List ℕ))) → P es → IfSome (some_entries es) P
IfSome-some_entries P [] h = tt
IfSome-some_entries P (e ∷ es) h = h

-- the entries that are left of a record's and its provisional value may stand in a record
pub AreRecordEntries-left : (ranges : List SeqRange) (r : IntentRecord) (provisional : List ℕ) (limit : ℕ) → IsRecord r
    → IsRecordEntry None limit (record { sequence = r.sequence; value = provisional }) → AreRecordEntries None limit (without_ignored ranges (entries_with r provisional))
AreRecordEntries-left ranges r provisional limit h own =
    AreRecordEntries-filter (λ e. not (is_ignored ranges e.sequence)) None limit (entries_with r provisional)
    (AreRecordEntries-append None limit r.history (record { sequence = r.sequence; value = provisional }) tt h.entries own)
