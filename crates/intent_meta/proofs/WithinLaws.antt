-- The part of a history within a span: it agrees with the whole, is valid, and is read back from the span's pairs.
use Rattle.std.proofs.Common.{◌≡◌, ◌-◌, ◌≤◌, Bool, true, false, cond, List, [], ◌∷◌, length, refl, sym, ap, ◌∙◌}
use Rattle.std.specs.Prelude.{not, map, filter}
use Rattle.std.specs.List.{AllByRecursion}
use Rattle.mvcc_key.specs.Order.{Timestamp, Key, is_below, is_within}
use Rattle.mvcc_key.specs.History.{Version, RangeTombstone, History}
use Rattle.mvcc_key.specs.Items.{tombstones_over}
use Rattle.mvcc_key.specs.Limits.{max_bound_length}
use Rattle.mvcc_key.specs.Canonical.{IsFragment, IsCanonical}
use Rattle.mvcc_key.specs.Fragments.{Fragment, fragments, stack_at, cut_to, take_out, tombstones_of}
use Rattle.mvcc_key.specs.Pieces.{stack_without}
use Rattle.mvcc_key.proofs.CanonicalLaws.{fragments-canonical}
use Rattle.mvcc_key.proofs.PieceLaws.{canonical-pieces}
use Rattle.mvcc_key.proofs.StackLaws.{rest_canonical, first_fragment, stack_at-fragments}
use Rattle.mvcc_key.proofs.UniqueLaws.{stacks-tell}
use Rattle.mvcc_key.proofs.SpanCutLaws.{stack_at-cut_to, cut_to-canonical}
use Rattle.mvcc_key.proofs.TombstonesOfLaws.{tombstones_over-tombstones_of, fragments-tombstones_of}
use Rattle.mvcc_key.proofs.EachLaws.{All-append, All-map, All-weaker}
use Rattle.mvcc_key.proofs.FilterLaws.{filter-follows, filter-every, filter-swap, length-parted}
use Rattle.mvcc_key.proofs.FragmentPartsLaws.{TombstoneHas, FragmentHas, fragments-have, cut_to-has}
use Rattle.intent_meta.specs.StoredPairs.{stored_pairs}
use Rattle.intent_meta.specs.HistoryOf.{history_of}
use Rattle.intent_meta.specs.Valid.{IsStoredTime, IsStoredTombstone}
use Rattle.intent_meta.specs.Within.{AgreeOn, FragmentsAgree, history_within, PartAgrees, PartIsValid, PartIsRead, ReadBackIsValid}
use Rattle.intent_meta.specs.LeftAlone.{of_keys}
use Rattle.intent_meta.proofs.ReadBackLaws.{history_of-stored_pairs}
use Rattle.intent_meta.proofs.LeftAloneLaws.{stacks-take_out}
use Rattle.intent_meta.proofs.AcceptedLaws.{IsGoodSpan, good_span}
use Rattle.intent_meta.proofs.ChangedLaws.{fewer_versions-valid, fewer_intents-valid, fewer_times-valid}
use Rattle.intent_meta.proofs.PairsLaws.{pairs_of_keys}

-- histories that agree on some keys agree there without the versions that fail a test
pub fewer_versions-agree : (touched : Key → Bool) (h k : History) (test : Version → Bool) → AgreeOn touched h k
    → AgreeOn touched (record h { versions = filter test h.versions }) (record k { versions = filter test k.versions })
fewer_versions-agree touched h k test a = record {
  versions =
      filter-swap (λ v. touched v.key) test h.versions
      ∙ ap (filter test) a.versions
      ∙ filter-swap test (λ v. touched v.key) k.versions;
  intents = a.intents;
  stacks = a.stacks;
}

-- and with a span taken out of some of the tombstones
pub take_out-agree : (touched : Key → Bool) (h k : History) (start end : Key) (test : Timestamp → Bool) → is_below start end ≡ true → AgreeOn touched h k
    → AgreeOn touched (record h { tombstones = take_out start end (λ t. test t.ts) h.tombstones }) (record k { tombstones = take_out start end (λ t. test t.ts) k.tombstones })
take_out-agree touched h k start end test span a = record {
  versions = a.versions;
  intents = a.intents;
  stacks = λ key here.
      stacks-take_out h start end test key span
      ∙ ap (stack_without start end test key) (a.stacks key here)
      ∙ sym (stacks-take_out k start end test key span);
}

-- as many versions that pass a test have they, where those that pass are of these keys
pub counts-agree : (touched : Key → Bool) (h k : History) (test : Version → Bool) → ((v : Version) → test v ≡ true → touched v.key ≡ true) → AgreeOn touched h k
    → length h.versions - length (filter (λ v. not (test v)) h.versions) ≡ length k.versions - length (filter (λ v. not (test v)) k.versions)
counts-agree touched h k test of_keys a =
    length-parted test h.versions
    ∙ ap length (
    sym (filter-follows test (λ v. touched v.key) h.versions of_keys)
    ∙ ap (filter test) a.versions
    ∙ filter-follows test (λ v. touched v.key) k.versions of_keys
    )
    ∙ sym (length-parted test k.versions)

-- cut fragments show the span's keys the stacks of the whole
stack_within : (start end : Key) (ts : List RangeTombstone) (key : Key)
    → tombstones_over (tombstones_of (cut_to start end (fragments ts))) key ≡ cond (is_within start end key) (tombstones_over ts key) []
stack_within start end ts key =
    let cut : List Fragment = cut_to start end (fragments ts) in
    tombstones_over-tombstones_of cut key (canonical-pieces cut (cut_to-canonical start end (fragments ts) (fragments-canonical ts)))
    ∙ stack_at-cut_to start end (fragments ts) key
    ∙ ap (λ stack. cond (is_within start end key) stack []) (stack_at-fragments ts key)

-- within the span the part agrees with the whole
pub part_agrees : PartAgrees
part_agrees start end h = record {
  versions = sym (filter-follows (λ v. is_within start end v.key) (λ v. is_within start end v.key) h.versions (λ v w. w));
  intents = sym (filter-follows (λ i. is_within start end i.key) (λ i. is_within start end i.key) h.intents (λ i w. w));
  stacks = λ key w. sym (stack_within start end h.tombstones key ∙ ap (λ t. cond t (tombstones_over h.tombstones key) []) w);
}

-- histories that agree within a span have the same fragments when cut to it
pub fragments_agree : FragmentsAgree
fragments_agree start end h k a =
    stacks-tell (cut_to start end (fragments h.tombstones)) (cut_to start end (fragments k.tombstones))
    (cut_to-canonical start end (fragments h.tombstones) (fragments-canonical h.tombstones))
    (cut_to-canonical start end (fragments k.tombstones) (fragments-canonical k.tombstones))
    (λ key. shows h.tombstones key ∙ by key (is_within start end key) refl ∙ sym (shows k.tombstones key))
  where
    shows : (ts : List RangeTombstone) (key : Key) → stack_at (cut_to start end (fragments ts)) key ≡ cond (is_within start end key) (tombstones_over ts key) []
    shows ts key = stack_at-cut_to start end (fragments ts) key ∙ ap (λ stack. cond (is_within start end key) stack []) (stack_at-fragments ts key)

    by : (key : Key) (w : Bool) → is_within start end key ≡ w → cond w (tombstones_over h.tombstones key) [] ≡ cond w (tombstones_over k.tombstones key) []
    by key true w = a.stacks key w
    by key false w = refl

-- ---- what fragments stand for may be stored

-- bounds that are not too long
abbrev IsShort : Key → Type 0
IsShort k = length k ≤ max_bound_length

-- bounds that are not too long, and timestamps that may be stored
abbrev IsStorable : Fragment → Type 0
IsStorable = FragmentHas IsShort IsStoredTime

-- the fragments of tombstones that may be stored
storable_fragments : (ts : List RangeTombstone) → AllByRecursion IsStoredTombstone ts → AllByRecursion IsStorable (fragments ts)
storable_fragments ts a =
    fragments-have IsShort IsStoredTime ts
    (All-weaker IsStoredTombstone (TombstoneHas IsShort IsStoredTime) ts (λ t s. record { start = s.start; end = s.end; ts = s.ts }) a)

-- each of a canonical list is a fragment
each_fragment : (fs : List Fragment) → IsCanonical fs → AllByRecursion IsFragment fs
each_fragment [] c = tt
each_fragment (f ∷ fs) c = (first_fragment f fs c, each_fragment fs (rest_canonical f fs c).0)

-- the tombstones that fragments stand for
stored_of : (fs : List Fragment) → AllByRecursion IsFragment fs → AllByRecursion IsStorable fs → AllByRecursion IsStoredTombstone (tombstones_of fs)
stored_of [] a b = tt
stored_of (f ∷ fs) a b =
    All-append IsStoredTombstone (map (λ t. record { start = f.start; end = f.end; ts = t }) f.stack) (tombstones_of fs)
    (All-map IsStoredTombstone (λ t. record { start = f.start; end = f.end; ts = t }) f.stack
    (All-weaker IsStoredTime (λ t. IsStoredTombstone (record { start = f.start; end = f.end; ts = t })) f.stack
    (λ t time. record { ts = time; span = a.0.span; start = b.0.start; end = b.0.end }) b.0.times))
    (stored_of fs a.1 b.1)

-- tombstones in the order of their fragments may be stored
pub stored_fragments : (ts : List RangeTombstone) → AllByRecursion IsStoredTombstone ts → AllByRecursion IsStoredTombstone (tombstones_of (fragments ts))
stored_fragments ts a = stored_of (fragments ts) (each_fragment (fragments ts) (fragments-canonical ts)) (storable_fragments ts a)

-- so may those of fragments cut to a span
pub stored_cut : (start end : Key) (ts : List RangeTombstone) → IsGoodSpan start end → AllByRecursion IsStoredTombstone ts
    → AllByRecursion IsStoredTombstone (tombstones_of (cut_to start end (fragments ts)))
stored_cut start end ts good a =
    stored_of (cut_to start end (fragments ts)) (each_fragment (cut_to start end (fragments ts)) (cut_to-canonical start end (fragments ts) (fragments-canonical ts)))
    (cut_to-has IsShort IsStoredTime start end (fragments ts) good.start_length good.end_length (storable_fragments ts a))

-- ---- the part of a valid history

-- it is valid
pub part_is_valid : PartIsValid
part_is_valid start end h span valid =
    let good = good_span start end span in
    fewer_times-valid (of_keys (is_within start end) h) (tombstones_of (cut_to start end (fragments h.tombstones))) (λ key s. is_within start end key)
    (fewer_intents-valid (record h { versions = filter (λ v. is_within start end v.key) h.versions }) (λ i. is_within start end i.key)
    (fewer_versions-valid h (λ v. is_within start end v.key) valid))
    (stored_cut start end h.tombstones good valid.tombstones)
    (λ key. stack_within start end h.tombstones key ∙ by (is_within start end key) (tombstones_over h.tombstones key))
  where
    by : (w : Bool) (stack : List Timestamp) → cond w stack [] ≡ filter (λ s. w) stack
    by true stack = sym (filter-every (λ s. true) stack (λ s. refl))
    by false [] = refl
    by false (s ∷ ss) = by false ss

-- it is what the pairs of the span and the fragments cut to it are read back as
pub part_is_read : PartIsRead
unfolding stored_pairs
part_is_read start end h span valid =
    let part : History = history_within start end h in
    let cut : List Fragment = cut_to start end (fragments h.tombstones) in
    let again : fragments (tombstones_of cut) ≡ cut = fragments-tombstones_of cut (cut_to-canonical start end (fragments h.tombstones) (fragments-canonical h.tombstones)) in
    ap (λ ps. history_of ps cut) (pairs_of_keys (is_within start end) h)
    ∙ ap (history_of (stored_pairs part)) (sym again)
    ∙ history_of-stored_pairs part (part_is_valid start end h span valid)
    ∙ ap (λ fs. record part { tombstones = tombstones_of fs }) again

-- ---- a history that is read back

-- a valid history with its tombstones in the order of their fragments is valid
pub read_back_is_valid : ReadBackIsValid
read_back_is_valid h valid =
    fewer_times-valid h (tombstones_of (fragments h.tombstones)) (λ key s. true) valid (stored_fragments h.tombstones valid.tombstones)
    (λ key.
    tombstones_over-tombstones_of (fragments h.tombstones) key (canonical-pieces (fragments h.tombstones) (fragments-canonical h.tombstones))
    ∙ stack_at-fragments h.tombstones key
    ∙ sym (filter-every (λ s. true) (tombstones_over h.tombstones key) (λ s. refl)))
