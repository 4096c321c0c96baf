-- An intent without some of its entries: what dropping leaves, and that no record becomes longer by it or by a move.
use Rattle.std.specs.Prelude.{not, ◌&&◌, ◌==◌, ◌≡◌, ℕ, ◌+◌, ◌≤◌, Bool, true, false, cond, List, [], ◌∷◌, length, filter, map}
use Rattle.std.specs.List.{flat_map}
use Rattle.std.proofs.Common.{refl, sym, ap, subst, arith}
use Rattle.std.proofs.lemmas.List.{length-append}
use Rattle.mvcc_key.specs.Lists.{before_last}
use Rattle.mvcc_key.specs.Order.{Timestamp}
use Rattle.mvcc_key.specs.History.{Body, Entry, Intent, is_ignored, without_ignored}
use Rattle.intent_meta.specs.Record.{IntentRecord, entry_bytes, record_bytes}
use Rattle.intent_meta.specs.StoredPairs.{plain_entry, intent_record}
use Rattle.intent_resolve.specs.Laws.{RecordsStayShort}
use Rattle.intent_resolve.specs.Resolve.{Update, dropped, moved}

-- the intent with those of its entries that pass a test
abbrev pub part : (Entry Body → Bool) → Intent → Intent
part test i = record i { entries = filter test i.entries }

-- all that passes a test that passes all
pub filter-all : {X : Type 0} (xs : List X) → filter (λ x. true) xs ≡ xs
filter-all [] = refl
filter-all (x ∷ xs) = ap (λ ys. x ∷ ys) (filter-all xs)

-- dropping leaves a part
pub dropped_is_part : (u : Update) (i : Intent) → dropped u i ≡ part (λ e. not ((u.epoch == i.epoch) && is_ignored u.ignored e.sequence)) i
dropped_is_part u i = by (u.epoch == i.epoch)
  where
    by : (b : Bool) → cond b (record i { entries = without_ignored u.ignored i.entries }) i ≡ part (λ e. not (b && is_ignored u.ignored e.sequence)) i
    by true = refl
    by false = ap (λ (es : List (Entry Body)). record i { entries = es }) (sym (filter-all i.entries))

-- how many bytes entries have in a record
abbrev pub entries_size : List (Entry Body) → ℕ
entries_size es = length (flat_map entry_bytes (map plain_entry es))

-- the bytes of a record are those before its entries, of which only the id may be long, and those of its entries
length-any_record : (r : IntentRecord) → length (record_bytes r) ≡ length r.id + (29 + length (flat_map entry_bytes r.history))
unfolding record_bytes
length-any_record r = simp length-append (omega arith)

-- one entry more
size-cons : (e : Entry Body) (es : List (Entry Body)) → entries_size (e ∷ es) ≡ length (entry_bytes (plain_entry e)) + entries_size es
size-cons e es = length-append (entry_bytes (plain_entry e)) (flat_map entry_bytes (map plain_entry es))

-- an entry in front of others stands in front of all but the last
size-before_last : (e : Entry Body) (es : List (Entry Body)) → entries_size (before_last (e ∷ es)) ≤ length (entry_bytes (plain_entry e)) + entries_size (before_last es)
size-before_last e [] = omega arith
size-before_last e (x ∷ xs) = omega (arith, size-cons e (before_last (x ∷ xs)))

-- the entries before the last have no more bytes where some are left out
size-filter : (test : Entry Body → Bool) (es : List (Entry Body)) → entries_size (before_last (filter test es)) ≤ entries_size (before_last es)
size-filter test [] = omega arith
size-filter test (e ∷ []) = by (test e)
  where
    by : (b : Bool) → entries_size (before_last (cond b (e ∷ []) [])) ≤ 0
    by true = omega arith
    by false = omega arith
size-filter test (e ∷ x ∷ xs) = by (test e) (size-filter test (x ∷ xs))
  where
    rest : List (Entry Body)
    rest = filter test (x ∷ xs)

    by : (b : Bool) → entries_size (before_last rest) ≤ entries_size (before_last (x ∷ xs)) → entries_size (before_last (cond b (e ∷ rest) rest)) ≤ entries_size (e ∷ before_last (x ∷ xs))
    by true less = omega (arith, size-before_last e rest, size-cons e (before_last (x ∷ xs)))
    by false less = omega (arith, size-cons e (before_last (x ∷ xs)))

-- a record with the same id and no more bytes of entries is no longer
record_no_longer : (q r : IntentRecord) → length q.id ≡ length r.id → length (flat_map entry_bytes q.history) ≤ length (flat_map entry_bytes r.history)
    → length (record_bytes q) ≤ length (record_bytes r)
record_no_longer q r id less = omega (arith, length-any_record q, length-any_record r)

-- an intent without some entries has no longer a record
pub part_no_longer : (test : Entry Body → Bool) (i : Intent) → length (record_bytes (intent_record (part test i))) ≤ length (record_bytes (intent_record i))
part_no_longer test i = record_no_longer (intent_record (part test i)) (intent_record i) refl (size-filter test i.entries)

-- nor has an intent at another timestamp
pub moved_no_longer : (ts : Timestamp) (i : Intent) → length (record_bytes (intent_record (moved ts i))) ≤ length (record_bytes (intent_record i))
moved_no_longer ts i = record_no_longer (intent_record (moved ts i)) (intent_record i) refl (omega arith)

-- so dropping ignored entries makes no record longer
pub dropped_no_longer : (u : Update) (i : Intent) → length (record_bytes (intent_record (dropped u i))) ≤ length (record_bytes (intent_record i))
dropped_no_longer u i =
    subst (λ (d : Intent). length (record_bytes (intent_record d)) ≤ length (record_bytes (intent_record i))) (sym (dropped_is_part u i))
    (part_no_longer (λ e. not ((u.epoch == i.epoch) && is_ignored u.ignored e.sequence)) i)

-- and a record that may be stored may be stored when entries were dropped and the intent was moved
pub dropped_and_moved_fits : RecordsStayShort
dropped_and_moved_fits u ts i fits = omega (arith, moved_no_longer ts (dropped u i), dropped_no_longer u i)
