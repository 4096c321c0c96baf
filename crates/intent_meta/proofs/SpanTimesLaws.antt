-- The tombstones over the keys of a span decide at which times the tombstones stand that overlap it.
use Rattle.std.proofs.Common.{◌≡◌, Bool, true, false, cond, List, [], ◌∷◌, subst, refl, sym}
use Rattle.std.specs.Prelude.{map, filter, ◌&&◌}
use Rattle.std.specs.List.{AllByRecursion}
use Rattle.std.proofs.lemmas.Bool.{and_parts, and_from}
use Rattle.mvcc_key.specs.Order.{Timestamp, Key, is_below, is_at_or_below, higher_key, is_within}
use Rattle.mvcc_key.specs.History.{RangeTombstone, History}
use Rattle.mvcc_key.specs.Items.{covers, tombstones_over}
use Rattle.mvcc_key.specs.Fragments.{fragments}
use Rattle.mvcc_key.proofs.SpanCutLaws.{low_up, higher-first, higher-second}
use Rattle.mvcc_key.proofs.EachLaws.{All-map, All-unmap, All-weaker, unfiltered, All-filtered}
use Rattle.mvcc_key.proofs.SameElementsLaws.{Covers}
use Rattle.mvcc_key.proofs.ItemLaws.{times_over-whole, times_over-parts}
use Rattle.mvcc_key.proofs.CanonicalLaws.{at_itself}
use Rattle.mvcc_key.proofs.FilterLaws.{filter-every}
use Rattle.intent_meta.specs.Valid.{IsStoredTombstone, IsValid}
use Rattle.intent_meta.proofs.AlikeLaws.{tombstones_over-alike}

-- each tombstone's span has a key
abbrev pub HaveSpans : List RangeTombstone → Type 0
HaveSpans ts = AllByRecursion (λ t. is_below t.start t.end ≡ true) ts

-- so it is in a valid history
pub valid-spans : (h : History) → IsValid h → HaveSpans h.tombstones
valid-spans h valid = All-weaker IsStoredTombstone (λ t. is_below t.start t.end ≡ true) h.tombstones (λ t s. s.span) valid.tombstones

-- a key of a span that a tombstone covers
pub record IsMet (within : Key → Bool) (t : RangeTombstone) : Type 0 where
  pub key : Key
  pub is_within : within key ≡ true
  pub is_covered : covers key t ≡ true

-- tombstones that pass a test which is passed where a key of a kind is covered, and only there
module _ (within : Key → Bool) (test : RangeTombstone → Bool)
    (passed : (key : Key) (t : RangeTombstone) → within key ≡ true → covers key t ≡ true → test t ≡ true)
    (some : (t : RangeTombstone) → is_below t.start t.end ≡ true → test t ≡ true → IsMet within t) where
  -- what holds of the times over each key of the kind holds of theirs
  times_met : (P : Timestamp → Type 0) (ts : List RangeTombstone) → HaveSpans ts
      → ((key : Key) → within key ≡ true → AllByRecursion (λ t. covers key t ≡ true → P t.ts) ts) → AllByRecursion (λ t. test t ≡ true → P t.ts) ts
  times_met P [] spans over = tt
  times_met P (t ∷ ts) spans over =
      ((λ e. let met = some t spans.0 e in (over met.key met.is_within).0 met.is_covered), times_met P ts spans.1 (λ key w. (over key w).1))

  -- so they have the same times where the stacks over those keys are the same
  pub times_agree : (ts us : List RangeTombstone) → HaveSpans us → ((key : Key) → within key ≡ true → tombstones_over ts key ≡ tombstones_over us key)
      → Covers (map (λ t. t.ts) (filter test ts)) (map (λ t. t.ts) (filter test us))
  times_agree ts us spans same P a =
      let each = unfiltered (λ t. P t.ts) test ts (All-unmap P (λ t. t.ts) (filter test ts) a) in
      All-map P (λ t. t.ts) (filter test us)
      (All-filtered (λ t. P t.ts) test us
      (times_met P us spans (λ key w.
      times_over-parts P us key
      (subst (AllByRecursion P) (same key w)
      (times_over-whole P ts key (All-weaker (λ t. test t ≡ true → P t.ts) (λ t. covers key t ≡ true → P t.ts) ts (λ t p c. p (passed key t w c)) each))))))

-- the higher of two bounds is below what both are below
higher_below : (a b c : Key) → is_below a c ≡ true → is_below b c ≡ true → is_below (higher_key a b) c ≡ true
higher_below a b c h k = by (is_below a b)
  where
    by : (t : Bool) → is_below (cond t b a) c ≡ true
    by true = k
    by false = h

-- spans that overlap have a key in common
pub spans_meet : (start end : Key) (t : RangeTombstone) → is_below start end ≡ true → is_below t.start t.end ≡ true → is_below t.start end ≡ true → is_below start t.end ≡ true
    → IsMet (is_within start end) t
spans_meet start end t span has first second = record {
  key = higher_key start t.start;
  is_within = and_from (is_at_or_below start (higher_key start t.start)) (is_below (higher_key start t.start) end) (higher-first start t.start) (higher_below start t.start end span first);
  is_covered = and_from (is_at_or_below t.start (higher_key start t.start)) (is_below (higher_key start t.start) t.end) (higher-second start t.start) (higher_below start t.start t.end second has);
}

-- spans with a key in common overlap
pub meeting_overlap : (start end key : Key) (t : RangeTombstone) → is_within start end key ≡ true → covers key t ≡ true → (is_below t.start end ≡ true) × (is_below start t.end ≡ true)
meeting_overlap start end key t w c =
    let in_span = and_parts (is_at_or_below start key) (is_below key end) w in
    let under = and_parts (is_at_or_below t.start key) (is_below key t.end) c in
    (low_up t.start key end under.0 in_span.1, low_up start key t.end in_span.0 under.1)

-- ---- the fragments alone decide

-- the fragments decide the times of the tombstones that overlap a span
pub times_overlapping-decided : (start end : Key) (test : RangeTombstone → Bool) → ((t : RangeTombstone) → test t ≡ (is_below t.start end && is_below start t.end))
    → is_below start end ≡ true → (ts us : List RangeTombstone) → HaveSpans us → fragments ts ≡ fragments us
    → Covers (map (λ t. t.ts) (filter test ts)) (map (λ t. t.ts) (filter test us))
times_overlapping-decided start end test means span ts us spans same =
    times_agree (is_within start end) test passed some ts us spans (λ key w. tombstones_over-alike ts us key same)
  where
    passed : (key : Key) (t : RangeTombstone) → is_within start end key ≡ true → covers key t ≡ true → test t ≡ true
    passed key t w c = let both = meeting_overlap start end key t w c in rw means (and_from _ _ both.0 both.1)

    some : (t : RangeTombstone) → is_below t.start t.end ≡ true → test t ≡ true → IsMet (is_within start end) t
    some t has e = let both = and_parts (is_below t.start end) (is_below start t.end) (rw means at e) in spans_meet start end t span has both.0 both.1

-- and those of all tombstones
pub times-all_decided : (ts us : List RangeTombstone) → HaveSpans us → fragments ts ≡ fragments us → Covers (map (λ t. t.ts) ts) (map (λ t. t.ts) us)
times-all_decided ts us spans same P a =
    subst (λ vs. AllByRecursion P (map (λ t. t.ts) vs)) (every us)
    (times_agree (λ key. true) (λ t. true) (λ key t w c. refl) own ts us spans (λ key w. tombstones_over-alike ts us key same) P
    (subst (λ vs. AllByRecursion P (map (λ t. t.ts) vs)) (sym (every ts)) a))
  where
    own : (t : RangeTombstone) → is_below t.start t.end ≡ true → true ≡ true → IsMet (λ key. true) t
    own t has e = record { key = t.start; is_within = refl; is_covered = and_from (is_at_or_below t.start t.start) (is_below t.start t.end) (at_itself t.start) has }

    every : (vs : List RangeTombstone) → filter (λ t. true) vs ≡ vs
    every vs = filter-every (λ t. true) vs (λ t. refl)
