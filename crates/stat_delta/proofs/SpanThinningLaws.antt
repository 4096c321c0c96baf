-- By how much tombstones that are taken out of a span change the statistics.
use Rattle.std.specs.Prelude.{◌≡◌, ℕ, pos, ◌+ℤ◌, ◌++◌, Bool, true, false, ◌&&◌, not, cond, List, [], ◌∷◌, filter, length, map, Option, Some, None, IfSome, option_map}
use Rattle.std.specs.List.{AllByRecursion}
use Rattle.std.proofs.Common.{refl, sym, ap, subst, ◌∙◌}
use Rattle.std.proofs.Math.IntN.{+ℤ_idl}
use Rattle.mvcc_key.specs.Order.{Timestamp, is_before, Key, is_same_key, is_below, is_within}
use Rattle.mvcc_key.specs.History.{Version, Intent, RangeTombstone, History, versions_of, intent_of}
use Rattle.mvcc_key.specs.Items.{tombstones_over}
use Rattle.mvcc_key.specs.Fragments.{Fragment, joined, fragments, stack_at, take_out}
use Rattle.mvcc_key.specs.Pieces.{EndBelow, StartsAbove, taken_pieces}
use Rattle.mvcc_key.specs.Field.{Field}
use Rattle.mvcc_key.proofs.StackLaws.{same_key_is, stack_at-fragments}
use Rattle.mvcc_key.proofs.ChangeLaws.{stack_at-take_out}
use Rattle.mvcc_key.proofs.ApartLaws.{take_out-around}
use Rattle.mvcc_key.proofs.EachLaws.{All-map, All-weaker, All-passing, first-some, none_found}
use Rattle.mvcc_key.proofs.ItemLaws.{items-stack}
use Rattle.mvcc_key.proofs.TimeLaws.{never_before}
use Rattle.intent_meta.specs.Valid.{IsStoredIntent, IsValid}
use Rattle.intent_meta.specs.StoredPairs.{stored_pairs}
use Rattle.intent_meta.proofs.LeftAloneLaws.{take_out-leaves}
use Rattle.stat_core.specs.ComputeStats.{keys_of}
use Rattle.stat_core.specs.Laws.{pairs_in}
use Rattle.stat_delta.specs.Shapes.{key_change, top_shape, version_shape, intent_shape}
use Rattle.stat_delta.specs.SpanChanges.{changes_over, fragments_change, change_by_thinning, is_hidden, kept_change, HideNothing, uncovered}
use Rattle.stat_delta.specs.SpanLaws.{TombstonesGo, HidingNothingGoes, NoneFoundHideNothing, UncoveringStaysInside}
use Rattle.stat_delta.proofs.ChangesOverLaws.{changes_over-same, changes_over-nothing, fragments_change-middle}
use Rattle.stat_delta.proofs.ThinningLaws.{change_by_thinning-nothing}
use Rattle.stat_delta.proofs.SpanKeysLaws.{keys_of-within}
use Rattle.stat_delta.proofs.SpanHistoryLaws.{history_change-tombstones, stacks-outside}
use Rattle.stat_delta.proofs.SpanTombstoneLaws.{stack_at-middle}

-- over a key of the span the timestamps that pass are gone
pub stack_at-uncovered : (h : History) (start end key : Key) (test : Timestamp → Bool) → is_below start end ≡ true → is_within start end key ≡ true
    → stack_at (fragments (take_out start end (λ t. test t.ts) h.tombstones)) key ≡ filter (λ s. not (test s)) (stack_at (fragments h.tombstones) key)
stack_at-uncovered h start end key test span within =
    stack_at-take_out start end test h.tombstones key span
    ∙ ap (λ p. cond p (filter (λ s. not (test s)) (stack_at (fragments h.tombstones) key)) (stack_at (fragments h.tombstones) key)) within

-- what is outside the span stays
pub outside-uncovered : UncoveringStaysInside
outside-uncovered start end test h span = take_out-leaves h start end test span

-- where they are taken out of a span, the fragments change by what those near it do
pub fragments_change-taken_out : (now : ℕ) (start end : Key) (test : Timestamp → Bool) (tombstones : List RangeTombstone) (left mid right : List Fragment) (f : Field)
    → is_below start end ≡ true → fragments tombstones ≡ left ++ (mid ++ right) → EndBelow start left → StartsAbove end right
    → fragments_change now (fragments tombstones) (fragments (take_out start end (λ t. test t.ts) tombstones)) f
    ≡ fragments_change now mid (joined (taken_pieces start end test mid)) f
fragments_change-taken_out now start end test tombstones left mid right f span is ends starts =
    (λ i. fragments_change now (is i) (take_out-around start end test tombstones left mid right span is ends starts i) f)
    ∙ fragments_change-middle now left mid (joined (taken_pieces start end test mid)) right f

-- the timestamps that pass a test are taken out of a span
pub history_change-uncovered : TombstonesGo
history_change-uncovered now h start end test keys left mid right f valid span are have is ends starts =
    history_change-tombstones now h (take_out start end (λ t. test t.ts) h.tombstones) start end keys f valid (stacks-outside start end h (uncovered start end test h) (outside-uncovered start end test h span)) are have
    ∙ λ i. by_keys i +ℤ fragments_change-taken_out now start end test h.tombstones left mid right f span is ends starts i
  where
    by_keys : changes_over (kept_change now h (uncovered start end test h)) keys f
        ≡ changes_over (λ key. change_by_thinning now (length key) (stack_at mid key) test (option_map intent_shape (intent_of key h)) (map version_shape (versions_of key h))) keys f
    by_keys =
        changes_over-same (kept_change now h (uncovered start end test h))
        (λ key. change_by_thinning now (length key) (stack_at mid key) test (option_map intent_shape (intent_of key h)) (map version_shape (versions_of key h))) keys f
        (All-weaker (λ key. is_within start end key ≡ true)
        (λ key. kept_change now h (uncovered start end test h) key f
        ≡ change_by_thinning now (length key) (stack_at mid key) test (option_map intent_shape (intent_of key h)) (map version_shape (versions_of key h)) f) keys
        (λ key within.
        (λ i. key_change now (top_shape (length key) (stack_at (fragments h.tombstones) key) (option_map intent_shape (intent_of key h)) (map version_shape (versions_of key h)))
        (top_shape (length key) (stack_at-uncovered h start end key test span within i) (option_map intent_shape (intent_of key h)) (map version_shape (versions_of key h))) f)
        ∙ ap (λ stack. change_by_thinning now (length key) stack test (option_map intent_shape (intent_of key h)) (map version_shape (versions_of key h)) f)
        (stack_at-middle h.tombstones left mid right start end key is ends starts within))
        are.within)

-- ---- tombstones that hide nothing

-- the tombstones over an intent's key are older than the intent
intent-above_stack : (h : History) (i : Intent) → IsStoredIntent h i → AllByRecursion (λ s. is_before s i.ts ≡ true) (tombstones_over h.tombstones i.key)
intent-above_stack h i is = items-stack (λ t. is_before t i.ts ≡ true) h i.key is.above_items

-- what is above all tombstones is hidden by none
not_hidden : (test : Timestamp → Bool) (ts : Timestamp) (stack : List Timestamp) → AllByRecursion (λ s. is_before s ts ≡ true) stack → is_hidden test stack ts ≡ false
not_hidden test ts [] above = refl
not_hidden test ts (s ∷ ss) above = rw (never_before s ts above.0) (not_hidden test ts ss above.1)

-- the intent of a key in a valid history is hidden by none
intent-not_hidden : (h : History) (key : Key) (test : Timestamp → Bool) → IsValid h
    → IfSome (option_map intent_shape (intent_of key h)) (λ i. is_hidden test (tombstones_over h.tombstones key) (i.provisional).ts ≡ false)
intent-not_hidden h key test valid =
    by (intent_of key h)
    (first-some (λ i. (is_same_key i.key key ≡ true) × IsStoredIntent h i) (filter (λ i. is_same_key i.key key) h.intents)
    (All-passing (IsStoredIntent h) (λ i. is_same_key i.key key) h.intents valid.intents))
  where
    by : (intent : Option Intent) → IfSome intent (λ i. (is_same_key i.key key ≡ true) × IsStoredIntent h i)
        → IfSome (option_map intent_shape intent) (λ i. is_hidden test (tombstones_over h.tombstones key) (i.provisional).ts ≡ false)
    by None own = tt
    by (Some i) own =
        subst (λ k. is_hidden test (tombstones_over h.tombstones k) i.ts ≡ false) (same_key_is i.key key own.0)
        (not_hidden test i.ts (tombstones_over h.tombstones i.key) (intent-above_stack h i own.1))

-- nor are the versions of a key of the span, where none of its versions is
versions-not_hidden : (h : History) (start end key : Key) (test : Timestamp → Bool) → HideNothing start end test h → is_within start end key ≡ true
    → AllByRecursion (λ v. is_hidden test (tombstones_over h.tombstones key) v.ts ≡ false) (map version_shape (versions_of key h))
versions-not_hidden h start end key test shown within =
    All-map (λ v. is_hidden test (tombstones_over h.tombstones key) v.ts ≡ false) version_shape (versions_of key h)
    (All-weaker (λ v. (is_same_key v.key key ≡ true) × ((is_within start end v.key && is_hidden test (tombstones_over h.tombstones v.key) v.ts) ≡ false))
    (λ v. is_hidden test (tombstones_over h.tombstones key) v.ts ≡ false) (versions_of key h)
    (λ v own. by v (same_key_is v.key key own.0) own.1)
    (All-passing (λ v. (is_within start end v.key && is_hidden test (tombstones_over h.tombstones v.key) v.ts) ≡ false) (λ v. is_same_key v.key key) h.versions shown))
  where
    by : (v : Version) → v.key ≡ key → (is_within start end v.key && is_hidden test (tombstones_over h.tombstones v.key) v.ts) ≡ false
        → is_hidden test (tombstones_over h.tombstones key) v.ts ≡ false
    by v same fails =
        ap (λ p. p && is_hidden test (tombstones_over h.tombstones key) v.ts) (sym within)
        ∙ ap (λ k. is_within start end k && is_hidden test (tombstones_over h.tombstones k) v.ts) (sym same) ∙ fails

-- where no version of the span is found that a tombstone hides which goes, those that go hide nothing
pub hide_nothing-found : NoneFoundHideNothing
hide_nothing-found start end test h none =
    none_found (λ v. is_within start end v.key && is_hidden test (tombstones_over h.tombstones v.key) v.ts) h.versions none

-- where no timestamp that is taken out is above a version of the span, the statistics change by what the fragments do alone
pub history_change-uncovered_alone : HidingNothingGoes
history_change-uncovered_alone now h start end test left mid right f valid span shown is ends starts =
    let keys : List Key = keys_of (pairs_in (is_within start end) (stored_pairs h)) in
    let own = keys_of-within start end (stored_pairs h) in
    history_change-uncovered now h start end test keys left mid right f valid span own.0 own.1 is ends starts
    ∙ ap (λ x. x +ℤ fragments_change now mid (joined (taken_pieces start end test mid)) f)
    (changes_over-nothing (λ key. change_by_thinning now (length key) (stack_at mid key) test (option_map intent_shape (intent_of key h)) (map version_shape (versions_of key h))) keys f
    (All-weaker (λ key. is_within start end key ≡ true)
    (λ key. change_by_thinning now (length key) (stack_at mid key) test (option_map intent_shape (intent_of key h)) (map version_shape (versions_of key h)) f ≡ pos 0) keys
    (λ key within. nothing key within) (own.0).within))
    ∙ +ℤ_idl (fragments_change now mid (joined (taken_pieces start end test mid)) f)
  where
    stack-is : (key : Key) → is_within start end key ≡ true → tombstones_over h.tombstones key ≡ stack_at mid key
    stack-is key within = sym (stack_at-fragments h.tombstones key) ∙ stack_at-middle h.tombstones left mid right start end key is ends starts within

    nothing : (key : Key) → is_within start end key ≡ true
        → change_by_thinning now (length key) (stack_at mid key) test (option_map intent_shape (intent_of key h)) (map version_shape (versions_of key h)) f ≡ pos 0
    nothing key within =
        subst (λ stack. change_by_thinning now (length key) stack test (option_map intent_shape (intent_of key h)) (map version_shape (versions_of key h)) f ≡ pos 0)
        (stack-is key within)
        (change_by_thinning-nothing now (length key) (tombstones_over h.tombstones key) test (option_map intent_shape (intent_of key h)) (map version_shape (versions_of key h)) f
        (intent-not_hidden h key test valid) (versions-not_hidden h start end key test shown within))
